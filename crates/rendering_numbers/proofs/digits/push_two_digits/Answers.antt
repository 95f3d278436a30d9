use Rattle.std.proofs.Common.{◌≡◌, ℕ, ◌<◌, ◌^◌, List, ◌++◌, false, true, ap, ◌∙◌, arith, rules}
use Rattle.std.specs.Prelude.{string_bytes}
use Rattle.std.specs.Fmt.{decimal, styled_decimal}
use Rattle.std.proofs.Padding.{styled_decimal_is, padded_integral_zeros}
use Rattle.std.proofs.lemmas.Result.{on_ok_weaker}
use Rattle.std.proofs.lemmas.Str.{IsUtf8-string_bytes}
use Rattle.date_parts.specs.Written.{padded}
use Rattle.rendering_numbers.proofs.DigitsAscii.{chars-ascii_after, IsAscii-padded}
use Rattle.rendering_numbers.proofs.digits.push_two_digits.Goals as goal

pub returns : goal.returns
returns c =
    let small : c.args.number < 2 ^ 64 = omega arith in
    let plus : c.laid_out.result.plus ≡ false = search rules in
    let zeros : c.laid_out.result.zero ≡ true = search rules in
    let wide : c.laid_out.result.width ≡ 2 = search rules in
    let is : styled_decimal c.laid_out.result c.args.number ≡ padded 2 c.args.number =
    styled_decimal_is c.laid_out.result c.args.number ∙ padded_integral_zeros c.laid_out.result (decimal c.args.number) plus zeros
    ∙ ap (λ (w : ℕ). padded w c.args.number) wide in
    on_ok_weaker c.write.result
    (λ e. chars-ascii_after (string_bytes c.args.out.now) (padded 2 c.args.number) _ (IsUtf8-string_bytes c.args.out.now) (IsAscii-padded 2 c.args.number small)
    (e ∙ ap (λ (x : List ℕ). string_bytes c.args.out.now ++ x) is))
    c.write.ensures.bytes
