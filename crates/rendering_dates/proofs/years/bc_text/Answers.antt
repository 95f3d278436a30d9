use Rattle.std.proofs.Common.{codes, ap, ◌∙◌}
use Rattle.std.specs.Option.{unwrap_or}
use Rattle.rendering_dates.proofs.DatesTexts.{bc_characters}
use Rattle.rendering_dates.proofs.years.bc_text.Goals as goal

pub returns-in-None : goal.returns-in-None
returns-in-None c = bc_characters ∙ ap (λ o. unwrap_or o (codes " BC")) c.in-None.ensures
