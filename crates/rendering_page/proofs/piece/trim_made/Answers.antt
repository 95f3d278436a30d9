use Rattle.std.proofs.Common.{◌≡◌, ◌≤◌, length, take, ap, ◌∙◌, arith}
use Rattle.std.specs.Prelude.{string_bytes}
use Rattle.std.proofs.lemmas.Str.{IsUtf8-string_bytes}
use Rattle.rendering_page.proofs.CutsTexts.{ends_within}
use Rattle.rendering_page.proofs.piece.trim_made.Goals as goal

pub truncate-requires : goal.truncate-requires
truncate-requires c low =
    let bs = string_bytes c.args.text.now in
    let leading = c.trimmed-end.result.now in
    let e : leading ≡ take (length leading) bs = c.trimmed-end.ensures.leading ∙ ap (take (length leading)) c.as_str.ensures.value in
    let within : length leading ≤ length bs = omega (arith, low, c.args.text.now.bytes.ok.0) in
    (within, λ _. (ends_within bs leading (IsUtf8-string_bytes c.args.text.now) c.trimmed-end.utf8 e within).1)
