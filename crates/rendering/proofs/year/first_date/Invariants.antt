use Rattle.std.proofs.Common.{◌≡◌, drop}
use Rattle.std.specs.Prelude.{filter_map}
use Rattle.rendering.specs.Purposes.{first_dated}
use Rattle.rendering.proofs.year.first_date.Given as goal

abbrev pub invariant-loop-variable : goal.invariant-loop-variable
invariant-loop-variable g l =
    first_dated (filter_map (g.E.EntryLike.answers l.entry).date (drop l.variable-index l.variables)) ≡ first_dated (filter_map (g.E.EntryLike.answers l.entry).date l.variables)
