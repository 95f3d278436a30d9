use Rattle.std.proofs.Common.{None, sym, subst}
use Rattle.rendering_style.specs.Opening.{IsAnswer}
use Rattle.rendering_style.specs.Styles.{Style}
use Rattle.cite_styles.proofs.Accepted.{author_date_accepted}
use Rattle.cite_styles.proofs.years.author_date.Goals as goal

pub accepted-requires : goal.accepted-requires
accepted-requires c = subst (λ (s : Style). IsAnswer s None) (sym c.in_ok-parts.ensures) author_date_accepted
