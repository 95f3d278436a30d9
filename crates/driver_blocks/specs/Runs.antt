-- Cites in runs, and what is shown of a long run.
use Rattle.std.specs.Prelude.{ℕ, Bool, false, List, [], ◌∷◌, length, nat_le, if◌then◌else◌, Option, Some}
use Rattle.rendering_dates.specs.Dates.{dash}
use Rattle.driver_blocks.specs.Blocks.{Gathered}
use Rattle.rendering_taxonomy.specs.declared.cite.CollapseVerdict.{CollapseVerdict}

-- A cite in its citation: whether it is shown, the delimiter before it where another one is shown before it, and what collapsing leaves
-- of it.
pub record Arranged (X : Type 0) : Type 0 where
  pub cite : Gathered X
  pub is_shown : Bool
  pub delimiter : Option (List ℕ)
  pub verdict : Option CollapseVerdict

-- Runs with a member before them: in the first run, where the first member of that follows it, else in a run of its own. Runs are not
-- empty; the definition has a clause for each list.
abbrev pub added_to_runs : {Y : Type 0} → (Y → Y → Bool) → Y → List (List Y) → List (List Y)
added_to_runs follows y [] = (y ∷ []) ∷ []
added_to_runs follows y ([] ∷ runs) = (y ∷ []) ∷ runs
added_to_runs follows y ((z ∷ zs) ∷ runs) = if follows y z then (y ∷ z ∷ zs) ∷ runs else (y ∷ []) ∷ (z ∷ zs) ∷ runs

-- All members in maximal runs, in each of which every member follows the one before it.
abbrev pub runs_of : {Y : Type 0} → (Y → Y → Bool) → List Y → List (List Y)
runs_of follows [] = []
runs_of follows (y ∷ ys) = added_to_runs follows y (runs_of follows ys)

-- whether a run is long enough to be collapsed
abbrev pub is_long : {Y : Type 0} → List Y → Bool
is_long ys = nat_le 3 (length ys)

-- cites of which the last is shown after a dash, and the others are hidden
abbrev pub last_after_dash : {X : Type 0} → List (Arranged X) → List (Arranged X)
last_after_dash [] = []
last_after_dash (a ∷ []) = record a { delimiter = Some dash } ∷ []
last_after_dash (a ∷ b ∷ others) = record a { is_shown = false } ∷ last_after_dash (b ∷ others)

-- a run, of which, where it has three cites or more, the first and, after a dash, the last are shown
abbrev pub collapsed_run : {X : Type 0} → List (Arranged X) → List (Arranged X)
collapsed_run [] = []
collapsed_run (a ∷ others) = if is_long (a ∷ others) then a ∷ last_after_dash others else a ∷ others
