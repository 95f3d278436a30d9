use Rattle.std.proofs.Common.{length, arith, ◌∙◌}
use Rattle.std.proofs.lemmas.List.FromFn.{fill_by_all}
use Rattle.driver_requests.specs.Order.{number_in}
use Rattle.driver_requests.proofs.NumbersWritten.{all_written}
use Rattle.driver_requests.proofs.order.numbered.Goals as goal

pub returns : goal.returns
returns c =
    fill_by_all (number_in c.args.offset c.args.order.now) c.loop-i.numbers.items (length c.args.order.now) 0 c.loop-i.invariant.0
    (λ k h. c.loop-i.invariant.1 k h ∙ all_written c.args.order.now c.args.offset k c.loop-i.i (omega (arith, c.loop-i-test.false, c.loop-i.auto.i)))
