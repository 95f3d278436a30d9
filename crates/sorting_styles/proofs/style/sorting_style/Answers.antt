use Rattle.std.proofs.Common.{None, sym, subst}
use Rattle.rendering_style.specs.Opening.{IsAnswer}
use Rattle.rendering_style.specs.Styles.{Style}
use Rattle.rendering_style.specs.Views.{style_parts_view}
use Rattle.sorting_styles.proofs.Levels.{sorting_accepted}
use Rattle.sorting_styles.proofs.style.sorting_style.Goals as goal

pub accepted-requires : goal.accepted-requires
accepted-requires c = subst (λ (s : Style). IsAnswer s None) (sym c.in_ok-change_parts.ensures) (sorting_accepted c.args.demotes (style_parts_view c.args.parts) c.requires)
