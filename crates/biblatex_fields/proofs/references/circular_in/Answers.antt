use Rattle.biblatex_fields.proofs.AbbreviationsFlags.{copied_none, copied_more}
use Rattle.biblatex_fields.proofs.references.circular_in.Goals as goal

pub loop-index-init : goal.loop-index-init
loop-index-init c = copied_none _ _ c.in_ok-circular.ensures.items

pub loop-index-preserved : goal.loop-index-preserved
loop-index-preserved c =
    rw c.in_ok-push.ensures.items (copied_more c.loop-index.circular.items c.args.order.now.circular c.loop-index.index c.is_circular.result c.loop-index.invariant c.is_circular.ensures)
