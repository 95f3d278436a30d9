use Rattle.std.proofs.Common.{◌<◌, ◌^◌, ◌++◌, List, ℕ, ap, ◌∙◌, arith}
use Rattle.std.specs.Prelude.{string_bytes}
use Rattle.std.specs.Fmt.{decimal}
use Rattle.std.specs.Str.{chars}
use Rattle.std.proofs.lemmas.Fmt.{IsAscii-decimal}
use Rattle.std.proofs.lemmas.Result.{on_ok_weaker}
use Rattle.std.proofs.lemmas.Str.{IsUtf8-string_bytes, chars-append, chars-IsAscii}
use Rattle.rendering_names.proofs.names.push_digits.Goals as goal

pub returns : goal.returns
returns c =
    let small : c.args.number < 2 ^ 64 = omega arith in
    let old = string_bytes c.args.out.now in
    let more = decimal c.args.number in
    on_ok_weaker c.write.result
    (λ e. ap chars e ∙ chars-append old more (IsUtf8-string_bytes c.args.out.now) ∙ ap (λ (x : List ℕ). chars old ++ x) (chars-IsAscii more (IsAscii-decimal c.args.number small)))
    c.write.ensures.bytes
