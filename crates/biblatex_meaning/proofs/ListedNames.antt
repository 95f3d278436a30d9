-- What names mean, and the entries.
use Rattle.std.proofs.Common.{◌≡◌, ℕ, suc, ◌++◌, Bool, true, false, cond, List, [], ◌∷◌, length, Option, Some, refl, sym, ap, ◌∙◌}
use Rattle.std.specs.List.{list_any}
use Rattle.std.specs.Str.{bytes_eq}
use Rattle.biblatex_entries.specs.Entries.{Source, names_of}
use Rattle.biblatex_meaning.specs.Listed.{Listed, last_named, after_first, pushed, IsAsRead}

-- an entry put last is meant by its names, and no other name changes
pub last_named-last : (name : List ℕ) (es : List Source) (e : Source) → last_named name (es ++ e ∷ []) ≡ cond (list_any (bytes_eq name) (names_of e)) (Some (length es)) (last_named name es)
last_named-last name [] e = refl
last_named-last name (v ∷ es) e =
    ap (λ (o : Option ℕ). after_first o (list_any (bytes_eq name) (names_of v))) (last_named-last name es e)
    ∙ past (list_any (bytes_eq name) (names_of e)) (list_any (bytes_eq name) (names_of v)) (last_named name es)
  where
    past : (b c : Bool) (o : Option ℕ) → after_first (cond b (Some (length es)) o) c ≡ cond b (Some (suc (length es))) (after_first o c)
    past true c o = refl
    past false c o = refl

pub pushed-read : (e : Source) (b : Listed) → IsAsRead b → IsAsRead (pushed e b)
pushed-read e b is name = ap (λ (o : Option ℕ). cond (list_any (bytes_eq name) (names_of e)) (Some (length b.entries)) o) (is name) ∙ sym (last_named-last name b.entries e)

pub length_last : {X : Type 0} (xs : List X) (x : X) → length (xs ++ x ∷ []) ≡ suc (length xs)
length_last [] x = refl
length_last (y ∷ xs) x = ap suc (length_last xs x)
