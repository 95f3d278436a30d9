use Rattle.std.proofs.Common.{None, sym, subst, ◌∙◌}
use Rattle.rendering_style.specs.Opening.{IsAnswer}
use Rattle.rendering_style.specs.Styles.{Style}
use Rattle.cite_csl_styles.proofs.sheets.sorting_of.Goals as goal

pub sorting_style-requires : goal.sorting_style-requires
sorting_style-requires c = subst (λ (s : Style). IsAnswer s None) (sym (c.in_ok-parts.ensures ∙ c.requires)) c.parts-facts.ensures.taken
