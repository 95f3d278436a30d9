use Rattle.std.proofs.Common.{◌<◌, ◌^◌, ◌∙◌, ap, arith}
use Rattle.std.specs.Fmt.{decimal}
use Rattle.std.proofs.lemmas.Fmt.{IsAscii-decimal_wide}
use Rattle.std.proofs.lemmas.Str.{chars-IsAscii}
use Rattle.std.specs.Str.{chars}
use Rattle.rendering_context.proofs.AnswersTexts.{after_nothing}
use Rattle.rendering_context.proofs.answer.digits.Goals as goal

pub returns : goal.returns
returns c =
    let small : c.args.number < 10 ^ 64 = omega arith in
    ap chars (c.in_ok-write.ensures.bytes ∙ after_nothing _ (decimal c.args.number) c.empty_text-text.ensures.bytes)
    ∙ chars-IsAscii (decimal c.args.number) (IsAscii-decimal_wide c.args.number small)
