use Rattle.std.proofs.Common.{nat_eq, arith}
use Rattle.std.proofs.lemmas.List.Sums.{common_prefix_len-le}
use Rattle.rendering_ranges.proofs.digits.changing.Goals as goal

pub overflow_sub-result : goal.overflow_sub-result
overflow_sub-result c =
    let within = common_prefix_len-le nat_eq c.args.first.now c.args.second.now in
    omega (arith, c.common_front.ensures, within.1)
