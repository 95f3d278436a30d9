use Rattle.programs.specs.Files.{read_at}
use Rattle.cite_command.specs.Program.{IsFault, IsReason, Serves, error_message, message_of}
use Rattle.cite_command.proofs.ProgramServed.{at_err, fault_reason, says_reason}
use Rattle.cite_command.proofs.program.run.Goals as goal

pub returns-in-Ok-Err-clause-message : goal.returns-in-Ok-Err-clause-message
returns-in-Ok-Err-clause-message g c one =
    let faults = IsFault (read_at c.args.files.now) c.args.words.now in
    let served = Serves (read_at c.args.files.now) c.args.words.now in
    says_reason c.error_lines.result (error_message c.in-Ok-Err.error) faults served _ _ _ _ _ _
    (at_err c.in-Ok-Err.field-0 c.in-Ok-Err.error
    (λ e. IsReason faults served (g.O.Sink.failures c.args.out.now) (g.O.Sink.failures c.serve.new.out) (error_message e))
    c.in-Ok-Err.field-0-is c.in-Ok-Err.ensures.refused) c.error_lines.ensures c.say.ensures

pub returns-in-Err-clause-message : goal.returns-in-Err-clause-message
returns-in-Err-clause-message g c one =
    says_reason c.fault_line.result (message_of c.in-Err.fault) _ (Serves (read_at c.args.files.now) c.args.words.now) _ _ _ _ _ _
    (fault_reason (IsFault (read_at c.args.files.now) c.args.words.now) (Serves (read_at c.args.files.now) c.args.words.now) _ _ (message_of c.in-Err.fault) c.in-Err.ensures.fault) c.fault_line.ensures c.say-in-Err.ensures
