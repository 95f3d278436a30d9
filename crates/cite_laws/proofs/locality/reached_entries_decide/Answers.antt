use Rattle.cite_laws.proofs.ReachedDecide.{reached_decide}
use Rattle.cite_laws.proofs.Uncited.{same_verdicts}
use Rattle.cite_laws.proofs.locality.reached_entries_decide.Goals as goal

pub returns : goal.returns
returns c = record { alike = reached_decide; bytes = λ bib other task r says order. same_verdicts bib other task (reached_decide bib other task r says order) }
