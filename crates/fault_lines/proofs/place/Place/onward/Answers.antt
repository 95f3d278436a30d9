use Rattle.std.proofs.Common.{◌≡◌, ◌+◌, ap, ◌∙◌, arith}
use Rattle.fault_lines.specs.Places.{Place}
use Rattle.fault_lines.specs.Views.{place_view}
use Rattle.fault_lines.proofs.PlacesCounted.{few_begun, few_lines, goes_on, next_at}
use Rattle.fault_lines.proofs.place.Place.onward.Goals as goal

pub past-place-requires-clause-number : goal.past-place-requires-clause-number
past-place-requires-clause-number c = few_lines c.args.source.now (place_view c.loop-place.place) c.loop-place.invariant.place

pub past-place-requires-clause-begun : goal.past-place-requires-clause-begun
past-place-requires-clause-begun c = few_begun c.args.source.now (place_view c.loop-place.place) c.loop-place.invariant.place

pub loop-place-preserved : goal.loop-place-preserved
loop-place-preserved c =
    let source = c.args.source.now in
    let p = place_view c.loop-place.place in
    let one_more : c.past-place.result.at ≡ p.at + 1 = ap (λ (q : Place). q.at) c.past-place.ensures ∙ next_at p _ in
    record {
      place = rw c.past-place.ensures (goes_on source _ p c.if-place-source.true c.loop-place.invariant.place);
      within = omega arith;
    }
