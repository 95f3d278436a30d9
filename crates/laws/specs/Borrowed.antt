-- What is borrowed, without where it lies in memory.
use Rattle.std.specs.Prelude.{List, map}
use Rattle.std.specs.Borrow.{Bor}

-- values that are borrowed one by one
abbrev pub borrowed : {T : Type 0} → List (Bor T) → List T
borrowed {T} bs = map (λ (b : Bor T). b.now) bs
