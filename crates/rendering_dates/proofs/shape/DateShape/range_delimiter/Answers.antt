use Rattle.std.proofs.Common.{ap, ◌∙◌}
use Rattle.std.specs.Option.{unwrap_or}
use Rattle.rendering_dates.specs.Dates.{dash}
use Rattle.rendering_dates.proofs.DatesTexts.{dash_characters}
use Rattle.rendering_dates.proofs.shape.DateShape.range_delimiter.Goals as goal

pub returns-in-None : goal.returns-in-None
returns-in-None c = dash_characters ∙ ap (λ o. unwrap_or o dash) c.in-None.ensures
