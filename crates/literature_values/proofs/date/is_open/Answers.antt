use Rattle.std.proofs.Common.{◌∙◌}
use Rattle.literature_values.proofs.DateRangesOpen.{points}
use Rattle.literature_values.proofs.date.is_open.Goals as goal

pub returns : goal.returns
returns c = c.eq.ensures ∙ points c.args.text.now c.utf8.text
