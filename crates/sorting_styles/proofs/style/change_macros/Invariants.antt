use Rattle.rendering_style.specs.Views.{macro_view}
use Rattle.sorting_styles.specs.Styles.{sorting_macro}
use Rattle.sorting_styles.proofs.Changed.{AreChanged, IsUnvisited}
use Rattle.sorting_styles.proofs.style.change_macros.Given as goal

abbrev pub invariant-loop-called : goal.invariant-loop-called
invariant-loop-called l = IsUnvisited l.fn.macros l.macros l.called-index × AreChanged macro_view sorting_macro l.fn.macros l.macros l.called-index
