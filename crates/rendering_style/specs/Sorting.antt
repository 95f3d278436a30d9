-- By what cites and items are sorted.
use Rattle.std.specs.Prelude.{ℕ, Bool, List, Option}
use Rattle.rendering_taxonomy.specs.declared.style.SortDirection.{SortDirection}
use Rattle.rendering_taxonomy.specs.declared.variable.Variable.{Variable}

-- the answer to a variable, or what the first macro of a name prints
pub data SortTarget : Type 0 where
  by_variable : Variable → SortTarget
  by_macro : List ℕ → SortTarget

-- a key, the direction, and how many of its names are left out
pub record SortKey : Type 0 where
  pub target : SortTarget
  pub direction : SortDirection
  pub names_min : Option ℕ
  pub names_use_first : Option ℕ
  pub names_use_last : Option Bool
