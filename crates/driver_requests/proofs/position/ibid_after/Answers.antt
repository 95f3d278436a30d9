use Rattle.std.proofs.Common.{refl, sym, eq-eqb, ne_eqb}
use Rattle.driver_requests.specs.Views.{item_view}
use Rattle.driver_requests.proofs.IbidsSame.{after_other, after_same, after_uncounted}
use Rattle.driver_requests.proofs.position.ibid_after.Goals as goal
use Rattle.driver_requests.proofs.position.ibid_after.Goals.{else-counts-via-then-counts+else-last_entry-entry, else-counts-via-else-counts}

pub returns-then-last_entry-entry : goal.returns-then-last_entry-entry
returns-then-last_entry-entry g c = λ answers counting counted.
    let last = item_view (λ e. c.args.last_entry) answers c.args.last.now in
    let item = item_view (λ e. c.args.entry) answers c.args.item.now in
    after_same g.P.PartialEq.eq counting last item c.args.counts _ c.ibid_of_same_entry.result c.if-counts.true refl (c.ibid_of_same_entry.ensures (λ e. c.args.entry) answers)
    (counted, sym (eq-eqb c.args.last_entry c.args.entry c.if-last_entry-entry.true))

pub returns-else-counts : goal.returns-else-counts
returns-else-counts g c = λ answers counting counted.
    let last = item_view (λ e. c.args.last_entry) answers c.args.last.now in
    let item = item_view (λ e. c.args.entry) answers c.args.item.now in
    elim c.else-counts.branch [
      | else-counts-via-then-counts+else-last_entry-entry w ↦ after_other g.P.PartialEq.eq counting last item (ne_eqb c.args.last_entry c.args.entry w.if-last_entry-entry.false)
      | else-counts-via-else-counts w ↦ after_uncounted g.P.PartialEq.eq counting last item c.args.counts w.if-counts.false counted
    ]
