use Rattle.std.proofs.Common.{length, arith, ◌∙◌}
use Rattle.std.proofs.lemmas.List.FromFn.{fill_by_all}
use Rattle.driver_requests.specs.Order.{number_in}
use Rattle.driver_requests.proofs.NumbersWritten.{all_written}
use Rattle.driver_order.proofs.numbers.positions.Goals as goal

pub returns : goal.returns
returns c =
    let order = c.args.order.now in
    fill_by_all (number_in 0 order) c.loop-position.positions.items (length order) 0 c.loop-position.invariant.0
    (λ k h. c.loop-position.invariant.1 k h ∙ omega (arith, all_written order 0 k c.loop-position.position (omega (arith, c.loop-position-test.false, c.loop-position.auto.position))))
