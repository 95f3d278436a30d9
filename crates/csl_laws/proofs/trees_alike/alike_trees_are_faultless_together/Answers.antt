use Rattle.csl_laws.proofs.FaultlessTogether.{alike_back, files_sound}
use Rattle.csl_laws.proofs.trees_alike.alike_trees_are_faultless_together.Goals as goal

pub returns : goal.returns
returns c x y a = (files_sound x y a, files_sound y x (alike_back x y a))
