-- Entries are read one after the other.
use Rattle.std.proofs.Common.{◌≡◌, ℕ, List, [], ◌∷◌, ◌++◌, Option, Some, Result, Ok, Err, append-nil, refl, sym, ap, ◌∙◌}
use Rattle.biblatex_text.specs.Raw.{At, Entry}
use Rattle.biblatex_fields.specs.Abbreviations.{Glossary}
use Rattle.biblatex_fields.specs.Refusals.{Refusal}
use Rattle.biblatex_entries.specs.Entries.{Source}
use Rattle.biblatex_reading.specs.Reading.{UpToFault, entry_read, one_read, up_to_fault}

-- a member at the end of a list, before another one
pub moved_over : {X : Type 0} (xs ys : List X) (x : X) → (xs ++ x ∷ []) ++ ys ≡ xs ++ x ∷ ys
moved_over [] ys x = refl
moved_over (z ∷ xs) ys x = ap (λ (zs : List _). z ∷ zs) (moved_over xs ys x)

-- entries so far, and what is read after them
abbrev pub followed : List Source → List (At (List ℕ)) → UpToFault → UpToFault
followed es keys r = record { entries = es ++ r.entries; keys = keys ++ r.keys; fault = r.fault }

-- one more entry was read
pub one_more_read : (g : Glossary) (es fs : List Source) (keys more : List (At (List ℕ))) (raw : At Entry) (rest : List (At Entry)) (s : Source) (total : UpToFault) → fs ≡ es ++ s ∷ [] → more ≡ keys ++ raw.v.key ∷ [] → entry_read g raw.v ≡ Ok s
    → followed es keys (up_to_fault g (raw ∷ rest)) ≡ total → followed fs more (up_to_fault g rest) ≡ total
one_more_read g es fs keys more raw rest s total is_fs is_more read is =
    let r = up_to_fault g rest in
    (λ i. followed (is_fs i) (is_more i) r)
    ∙ ((λ i. record { entries = moved_over es r.entries s i; keys = moved_over keys r.keys raw.v.key i; fault = r.fault })
    ∙ (ap (λ (x : Result Source Refusal). followed es keys (one_read raw.v.key x r)) (sym read) ∙ is))

-- no more entry was read
pub none_more : (es : List Source) (keys : List (At (List ℕ))) (fault : Option Refusal) (r total : UpToFault) → r ≡ record { entries = []; keys = []; fault = fault } → followed es keys r ≡ total → record { entries = es; keys = keys; fault = fault } ≡ total
none_more es keys fault r total none is =
    (λ i. record { entries = sym (append-nil es) i; keys = sym (append-nil keys) i; fault = fault })
    ∙ (ap (followed es keys) (sym none) ∙ is)

pub fault_read : (g : Glossary) (raw : At Entry) (rest : List (At Entry)) (f : Refusal) → entry_read g raw.v ≡ Err f → up_to_fault g (raw ∷ rest) ≡ record { entries = []; keys = []; fault = Some f }
fault_read g raw rest f read = ap (λ (x : Result Source Refusal). one_read raw.v.key x (up_to_fault g rest)) read
