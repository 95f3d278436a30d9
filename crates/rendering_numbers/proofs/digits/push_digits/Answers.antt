use Rattle.std.proofs.Common.{◌<◌, ◌^◌, arith}
use Rattle.std.specs.Prelude.{string_bytes}
use Rattle.std.specs.Fmt.{decimal}
use Rattle.std.proofs.lemmas.Fmt.{IsAscii-decimal}
use Rattle.std.proofs.lemmas.Result.{on_ok_weaker}
use Rattle.std.proofs.lemmas.Str.{IsUtf8-string_bytes}
use Rattle.rendering_numbers.proofs.DigitsAscii.{chars-ascii_after}
use Rattle.rendering_numbers.proofs.digits.push_digits.Goals as goal

pub returns : goal.returns
returns c =
    let small : c.args.number < 2 ^ 64 = omega arith in
    on_ok_weaker c.write.result
    (λ e. chars-ascii_after (string_bytes c.args.out.now) (decimal c.args.number) _ (IsUtf8-string_bytes c.args.out.now) (IsAscii-decimal c.args.number small) e)
    c.write.ensures.bytes
