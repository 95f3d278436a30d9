-- The laws that tie the grammar of selectors to what is read.
use Rattle.std.specs.Prelude.{◌≡◌, ◌↔◌, ℕ, List, Ok, Err}
use Rattle.literature.specs.Reading.{Fault, selector_of}
use Rattle.literature.specs.Trees.{Tree}
use Rattle.literature_grammar.specs.Texts.{IsSpelled}
use Rattle.literature_grammar.specs.Refusals.{IsRefused}

-- A text is read as this tree exactly where the text spells it.
abbrev pub ReadIsWhatIsSpelled : Type 0
ReadIsWhatIsSpelled = (cs : List ℕ) (x : Tree) → (selector_of cs ≡ Ok x) ↔ IsSpelled cs x

-- No text spells two trees.
abbrev pub TreesAreUnique : Type 0
TreesAreUnique = (cs : List ℕ) (x y : Tree) → IsSpelled cs x → IsSpelled cs y → x ≡ y

-- A text is refused with this fault exactly where the grammar says so.
abbrev pub RefusedIsRefusal : Type 0
RefusedIsRefusal = (cs : List ℕ) (fault : Fault) → (selector_of cs ≡ Err fault) ↔ IsRefused cs fault
