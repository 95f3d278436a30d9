use Rattle.cite_laws.proofs.WrittenOut.{authors_written, contents_written, references_written}
use Rattle.cite_laws.proofs.locality.references_may_be_written_out.Goals as goal

pub returns-clause-contents : goal.returns-clause-contents
returns-clause-contents c = contents_written

pub returns-clause-says : goal.returns-clause-says
returns-clause-says c = references_written

pub returns-clause-standing : goal.returns-clause-standing
returns-clause-standing c = authors_written
