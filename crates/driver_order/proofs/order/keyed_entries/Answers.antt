use Rattle.std.proofs.Common.{None, ap, ◌∙◌}
use Rattle.rendering.specs.Views.{style_context_view}
use Rattle.driver_order.specs.EntryKeys.{keys_in}
use Rattle.driver_order.specs.Order.{entry_keys, keyed_entries}
use Rattle.laws.specs.Borrowed.{borrowed}
use Rattle.driver_order.specs.Views.{keyed_view}
use Rattle.driver_order.proofs.MadeEach.{made_next}
use Rattle.driver_order.proofs.order.keyed_entries.Goals as goal

pub loop-number-preserved : goal.loop-number-preserved
loop-number-preserved g c =
    let x = style_context_view c.args.keys.now.context.now in
    let answers = g.T.EntryLike.answers in
    let entry = c.index-entries-number.result in
    let n = c.loop-number.number in
    made_next keyed_view (λ e. (entry_keys x answers e, e.1)) c.args.entries.now n entry c.loop-number-test.true c.index-entries-number.is c.loop-number.keyed.items c.push.new.self.items _
    (keyed_entries x answers (borrowed c.args.entries.now)) c.in_ok-push.ensures.items
    (ap (λ ps. (ps, entry.now)) (c.in_ok-key.ensures ∙ ap (λ b. keys_in b x (answers entry.now) n None) c.requires)) c.loop-number.invariant
