use Rattle.std.proofs.Common.{codes, ap, ◌∙◌}
use Rattle.std.specs.Option.{unwrap_or}
use Rattle.rendering_dates.proofs.DatesTexts.{ad_characters}
use Rattle.rendering_dates.proofs.years.ad_text.Goals as goal

pub returns-in-None : goal.returns-in-None
returns-in-None c = ad_characters ∙ ap (λ o. unwrap_or o (codes " AD")) c.in-None.ensures
