use Rattle.sorting.proofs.StableSorts.{stable_sorts_agree}
use Rattle.sorting.proofs.sorting_laws.stable_sorts_are_one.Goals as goal

pub returns : goal.returns
returns g c = stable_sorts_agree g.K.Ord.cmp g.met.K.Ord.total
