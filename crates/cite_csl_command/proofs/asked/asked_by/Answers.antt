use Rattle.laws.specs.Borrowed.{borrowed}
use Rattle.clap.specs.Words.{app_of, found_of, rows_of}
use Rattle.cite_csl_command.proofs.Given.{asked_by_rows, kinds_are, rows_are}
use Rattle.cite_csl_command.proofs.asked.asked_by.Goals as goal

pub returns-in-Ok : goal.returns-in-Ok
returns-in-Ok c =
    asked_by_rows c.asked_in.result (rows_of (found_of c.in-Ok.matches)) (borrowed c.args.words.now)
    (rows_are (app_of c.in_ok-command.command) (borrowed c.args.words.now) c.in-Ok.matches c.in_ok-command.ensures.app c.in-Ok.ensures.matches) c.asked_in.ensures

pub returns-in-Err : goal.returns-in-Err
returns-in-Err c = kinds_are (app_of c.in_ok-command.command) (borrowed c.args.words.now) c.in-Err.error c.in_ok-command.ensures.app c.in-Err.ensures.kinds
