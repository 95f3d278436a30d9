-- What there is for all references between numbers, and for all definitions of abbreviations.
use Rattle.std.specs.Prelude.{◌≡◌, ◌<◌, ◌≤◌, ℕ, List, Bool, length, Contains}
use Rattle.reference_graph.specs.References.{references_of}
use Rattle.reference_graph.specs.Order.{MarksCircular, IsOrder}
use Rattle.biblatex_text.specs.Raw.{Field}
use Rattle.biblatex_fields.specs.Abbreviations.{AreFlags}
use Rattle.biblatex_inheritance.specs.Solution.{NoneIsCircular}

-- a mark for each number that says whether it reaches itself
abbrev pub EachGraphHasMarks : Type 0
EachGraphHasMarks = (references : List (List ℕ)) → (marks : List Bool) × (length marks ≡ length references) × MarksCircular references marks

-- what a number refers to and that there is, is less deep than the number
abbrev pub AreDepths : List (List ℕ) → (ℕ → ℕ) → Type 0
AreDepths references depth = (i r : ℕ) → Contains (references_of references i) r → r < length references → depth r < depth i

-- where no number reaches itself, a depth for each that is at most how many there are
abbrev pub EachAcyclicGraphHasDepths : Type 0
EachAcyclicGraphHasDepths = (references : List (List ℕ)) → NoneIsCircular references → (depth : ℕ → ℕ) × ((i : ℕ) → depth i ≤ length references) × AreDepths references depth

-- an order in which each number that does not reach itself stands after all that it refers to
abbrev pub EachGraphHasAnOrder : Type 0
EachGraphHasAnOrder = (references : List (List ℕ)) → (order : List ℕ) × IsOrder references order

-- a flag for each definition that says whether it reaches itself
abbrev pub EachListOfDefinitionsHasFlags : Type 0
EachListOfDefinitionsHasFlags = (definitions : List Field) → (flags : List Bool) × AreFlags flags definitions
