use Rattle.sorting.proofs.StableSorts.{sorted_keeps_ties}
use Rattle.sorting.proofs.sorting_laws.sorted_is_stable.Goals as goal

pub returns : goal.returns
returns g c = sorted_keeps_ties g.K.Ord.cmp g.met.K.Ord.total
