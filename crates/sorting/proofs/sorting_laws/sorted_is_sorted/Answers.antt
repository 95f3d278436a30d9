use Rattle.sorting.proofs.StableSorts.{sorted_is_in_order}
use Rattle.sorting.proofs.sorting_laws.sorted_is_sorted.Goals as goal

pub returns : goal.returns
returns g c = sorted_is_in_order g.K.Ord.cmp g.met.K.Ord.total
