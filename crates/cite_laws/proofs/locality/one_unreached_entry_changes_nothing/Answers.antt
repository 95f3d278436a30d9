use Rattle.cite_laws.proofs.OneUnreached.{one_unreached}
use Rattle.cite_laws.proofs.Uncited.{same_verdicts}
use Rattle.cite_laws.proofs.locality.one_unreached_entry_changes_nothing.Goals as goal

pub returns : goal.returns
returns c = record { alike = one_unreached; bytes = λ bib other task r more. same_verdicts bib other task (one_unreached bib other task r more) }
