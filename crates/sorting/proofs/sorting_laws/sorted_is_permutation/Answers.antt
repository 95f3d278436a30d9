use Rattle.sorting.proofs.StableSorts.{sorted_permutes}
use Rattle.sorting.proofs.sorting_laws.sorted_is_permutation.Goals as goal

pub returns : goal.returns
returns g c = sorted_permutes g.K.Ord.cmp g.met.K.Ord.total
