use Rattle.programs.specs.Files.{read_at}
use Rattle.bib_show.specs.Program.{Serves, IsFault}
use Rattle.bib_show.proofs.ProgramFaults.{says_reason}
use Rattle.bib_show.proofs.program.run.Goals as goal

pub returns-in-Err-clause-message : goal.returns-in-Err-clause-message
returns-in-Err-clause-message g c one =
    says_reason (IsFault (read_at c.args.files.now) c.args.words.now) (Serves (read_at c.args.files.now) c.args.words.now) _ _ _ _ _ _ _ c.in-Err.ensures.fault c.say_fault.ensures
