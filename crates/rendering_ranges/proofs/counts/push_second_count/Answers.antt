use Rattle.std.proofs.Common.{◌≤◌, ◌<◌, ◌^◌, length, ap, arith}
use Rattle.std.specs.Fmt.{decimal}
use Rattle.std.proofs.lemmas.Fmt.{length-decimal-le}
use Rattle.rendering_ranges.proofs.counts.push_second_count.Goals as goal

pub lent-whole-requires : goal.lent-whole-requires
lent-whole-requires c =
    let second = c.from.result in
    let small : second < 2 ^ 32 = omega (arith, c.from.ensures) in
    let few : length (decimal second) ≤ 10 = length-decimal-le 10 second (omega arith) (omega (arith, small)) (omega (arith, small)) in
    omega (arith, few, ap length c.in_ok-second_digits.ensures, c.len.ensures, c.in_ok-second_digits.second_digits.ok)
