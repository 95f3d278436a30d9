use Rattle.biblatex_values.proofs.DatesBack.{read_date_exists}
use Rattle.biblatex_field_types.proofs.classes.read_dates_are_read_back.Goals as goal

pub returns : goal.returns
returns c = read_date_exists
