-- What is read of a text is what it holds, and no text is that of two lists of items.
use Rattle.std.proofs.Common.{◌≡◌, ℕ, List, [], length, Result, Ok, Err, refl, sym, ap, ◌∙◌, arith}
use Rattle.laws.specs.Steps.{each}
use Rattle.laws.specs.Text.{text as text_of}
use Rattle.laws.proofs.Results.{bind_ok, ok_is}
use Rattle.biblatex_text.specs.Raw.{At, Item, Raw, gathered}
use Rattle.biblatex_text.specs.Reading.{Refusal}
use Rattle.biblatex_text.specs.Items.{next_item_at, raw_at, at_offset, raw_of}
use Rattle.biblatex_text.specs.declared.token.Fault.{Fault}
use Rattle.biblatex_grammar.specs.Items.{IsBibliography, Holds}
use Rattle.biblatex_grammar.proofs.Steps.{first_same}
use Rattle.biblatex_grammar.proofs.Items.{items-again, items-takes}

at_offset-ok : (n : ℕ) (r : Result Raw Refusal) (raw : Raw) → at_offset n r ≡ Ok raw → r ≡ Ok raw
at_offset-ok n (Ok x) raw e = ap (λ (y : Raw). Ok y) (ok_is {F = Fault × ℕ} x raw e)
at_offset-ok n (Err f) raw e = absurd cc

raw-takes : (n : ℕ) (cs : List ℕ) (raw : Raw) → raw_at n cs ≡ Ok raw → (p : List (At Item) × List ℕ) × (each (next_item_at n) cs ≡ Ok p) × (raw ≡ gathered p.0)
unfolding raw_at
raw-takes n cs raw e =
    let read = bind_ok (each (next_item_at n) cs) (λ p. Ok (gathered p.0)) raw e in
    (read.0, read.1, sym (ok_is {F = Refusal} (gathered read.0.0) raw read.2))

raw-again : (n : ℕ) (cs : List ℕ) (is : List (At Item)) → each (next_item_at n) cs ≡ Ok (is, []) → raw_at n cs ≡ Ok (gathered is)
unfolding raw_at
raw-again n cs is e = rw e refl

pub read-held : (cs : List ℕ) (raw : Raw) → raw_of cs ≡ Ok raw → Holds cs raw
read-held cs raw e =
    let n : ℕ = length (text_of cs) in
    let read = raw-takes n cs raw (at_offset-ok n (raw_at n cs) raw e) in
    (read.0.0, items-takes n cs read.0 (omega arith) read.1, read.2)

pub held-read : (cs : List ℕ) (raw : Raw) → Holds cs raw → raw_of cs ≡ Ok raw
held-read cs raw (is, are, e) =
    let n : ℕ = length (text_of cs) in
    ap (at_offset n) (raw-again n cs is (items-again n is cs are)) ∙ ap (λ (y : Raw). Ok y) (sym e)

pub unique : (cs : List ℕ) (is js : List (At Item)) → IsBibliography cs is → IsBibliography cs js → is ≡ js
unique cs is js are other =
    let n : ℕ = length (text_of cs) in
    first_same is js [] [] (sym (items-again n is cs are) ∙ items-again n js cs other)
