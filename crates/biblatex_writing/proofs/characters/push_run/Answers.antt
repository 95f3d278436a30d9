use Rattle.std.proofs.Common.{rules}
use Rattle.biblatex_writing.proofs.ContentRuns.{run_written}
use Rattle.biblatex_writing.proofs.characters.push_run.Goals as goal

pub returns-clause-written : goal.returns-clause-written
returns-clause-written g c =
    run_written g.T.Target.takes c.args.is_verbatim c.args.target.now c.args.text.now c.split_run.result.0.now c.split_run.result.1.now c.push_str.new.self (search rules) c.split_run.ensures.prefix c.split_run.ensures.rest c.push_str.ensures
