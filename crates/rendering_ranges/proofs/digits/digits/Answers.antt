use Rattle.std.proofs.Common.{◌<◌, ◌^◌, ap, ◌∙◌, arith}
use Rattle.std.specs.Fmt.{decimal}
use Rattle.std.specs.Str.{chars}
use Rattle.std.proofs.lemmas.Fmt.{IsAscii-decimal}
use Rattle.std.proofs.lemmas.Iterator.{items_from_collect, YieldsList-from_chars}
use Rattle.std.proofs.lemmas.Result.{IfOk-weaker}
use Rattle.std.proofs.lemmas.Str.{chars-IsAscii}
use Rattle.rendering_ranges.proofs.digits.digits.Goals as goal

pub returns : goal.returns
returns c =
    let small : c.args.number < 2 ^ 64 = omega arith in
    let text = c.deref.result.now in
    let shown = ap chars (c.deref.ensures ∙ c.in_ok-text.ensures.ok) ∙ chars-IsAscii (decimal c.args.number) (IsAscii-decimal c.args.number small) in
    IfOk-weaker c.collect.result _ _ (λ v e. e ∙ shown)
    (items_from_collect c.collect.result c.collect.ensures.ran (YieldsList-from_chars text c.deref.utf8 c.chars.ensures.rest))
