use Rattle.std.proofs.Common.{◌<◌, ◌^◌, ◌++◌, ap, ◌∙◌, arith, ℤ, w32, FitsSigned}
use Rattle.std.specs.Prelude.{string_bytes}
use Rattle.std.specs.Fmt.{signed_decimal}
use Rattle.std.proofs.lemmas.Fmt.{IsAscii-signed}
use Rattle.std.proofs.lemmas.Int.{ints, to_z-of_z}
use Rattle.std.proofs.lemmas.Result.{on_ok_weaker}
use Rattle.std.proofs.lemmas.Str.{IsUtf8-string_bytes}
use Rattle.rendering_numbers.proofs.DigitsAscii.{chars-ascii_after}
use Rattle.rendering_numbers.proofs.digits.push_signed.Goals as goal
use lib.Signed.{mag}

pub returns : goal.returns
returns c =
    let fits : FitsSigned w32 c.args.number = c.ranges.number in
    let small : mag c.args.number < 2 ^ 63 = omega (arith, ints) in
    on_ok_weaker c.write.result
    (λ e. chars-ascii_after (string_bytes c.args.out.now) (signed_decimal c.args.number) _ (IsUtf8-string_bytes c.args.out.now) (IsAscii-signed c.args.number small)
    (e ∙ ap (λ (z : ℤ). string_bytes c.args.out.now ++ signed_decimal z) (to_z-of_z w32 c.args.number fits)))
    c.write.ensures.bytes
