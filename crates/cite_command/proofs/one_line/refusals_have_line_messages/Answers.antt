use Rattle.cite_command.proofs.OneLine.{have_line_messages}
use Rattle.cite_command.proofs.one_line.refusals_have_line_messages.Goals as goal

pub returns : goal.returns
returns c = have_line_messages
