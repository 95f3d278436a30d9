use Rattle.std.proofs.Common.{ap, Some}
use Rattle.rendering_dates.proofs.DatesTexts.{dash_characters}
use Rattle.driver_blocks.proofs.cite.Before.text.Goals as goal

pub returns-in-Dash : goal.returns-in-Dash
returns-in-Dash c = rw c.in-Dash.is (ap Some dash_characters)
