use Rattle.rendering_sorting.proofs.KeyOrder.{keys_compare}
use Rattle.rendering_sorting.proofs.key_laws.keys_compare_by_their_values.Goals as goal

pub returns : goal.returns
returns c = λ a b. keys_compare a.items b.items
