use Rattle.rendering_tree.specs.Trees.{parted}
use Rattle.rendering_tree.specs.Views.{tree_view}
use Rattle.rendering.proofs.FieldJoined.{none_in_front}
use Rattle.rendering.proofs.second_field.in_front.Goals as goal

pub returns-in-None : goal.returns-in-None
returns-in-None c = λ rule ts is same.
    none_in_front rule (parted (tree_view c.args.whole)) ts (tree_view c.args.whole) (tree_view c.remove_any_meta.new.self) c.in-None.ensures.taken c.in-None.ensures.left same
