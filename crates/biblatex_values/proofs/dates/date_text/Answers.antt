use Rattle.biblatex_dates.specs.Written.{date_text}
use Rattle.biblatex_values.proofs.DatesBack.{spelled}
use Rattle.biblatex_values.proofs.dates.date_text.Goals as goal

pub returns : goal.returns
returns c = spelled c.to_string.result (date_text c.args.date) c.to_string.ensures.ok
