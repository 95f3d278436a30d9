use Rattle.bib_show.proofs.program.file_output.Goals as goal

pub returns-in-Ok-clause-fault : goal.returns-in-Ok-clause-fault
returns-in-Ok-clause-fault c = rw c.in-Ok.ensures c.source_output.ensures.fault
