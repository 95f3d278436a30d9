use Rattle.biblatex_laws.proofs.ReachedAlike.{reached_alike}
use Rattle.biblatex_laws.proofs.locality.reached_names_mean_the_same.Goals as goal

pub returns : goal.returns
returns c = reached_alike
