use Rattle.std.proofs.Common.{◌∙◌, ap, sym}
use Rattle.cite_command.specs.Program.{said}
use Rattle.cite_command.proofs.ProgramServed.{says_same}
use Rattle.cite_command.proofs.program.say.Goals as goal

pub returns-in-Err : goal.returns-in-Err
returns-in-Err g c =
    says_same c.as_bytes-in-Err.result.now (said c.args.lines) _ _ _ _ (c.as_bytes-in-Err.ensures.value ∙ sym (ap said c.in-Err.is)) c.say-in-Err.ensures
