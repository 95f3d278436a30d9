use Rattle.std.proofs.Common.{take, map}
use Rattle.rendering_style.specs.Tables.{IsIndex}
use Rattle.rendering_style.specs.Views.{macro_view}
use Rattle.rendering_style.proofs.calls.table_of.Given as goal

abbrev pub invariant-loop-index : goal.invariant-loop-index
invariant-loop-index l = IsIndex l.table (map macro_view (take l.index l.macros))
