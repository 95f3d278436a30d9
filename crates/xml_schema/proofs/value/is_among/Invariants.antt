use Rattle.std.proofs.Common.{◌≡◌, ℕ, List, drop}
use Rattle.std.specs.Borrow.{Bor}
use Rattle.std.specs.List.{list_any}
use Rattle.std.specs.Str.{bytes_eq}
use Rattle.xml_schema.proofs.value.is_among.Given as goal

abbrev pub invariant-loop-word : goal.invariant-loop-word
invariant-loop-word l = list_any (λ (w : Bor (List ℕ)). bytes_eq l.text w.now) (drop l.word-index l.words) ≡ list_any (λ (w : Bor (List ℕ)). bytes_eq l.text w.now) l.words
