use Rattle.std.proofs.Common.{◌≡◌, ℕ, List, true, ap, sym, ◌∙◌, arith}
use Rattle.std.specs.Prelude.{string_bytes}
use Rattle.std.specs.Str.{chars}
use Rattle.std.proofs.lemmas.Str.{IsUtf8-string_bytes}
use Rattle.laws.specs.Text.{is_filled}
use Rattle.rendering_page.proofs.CutsTexts.{some_byte, first_taken}
use Rattle.rendering_page.proofs.piece.rest_of_made.Goals as goal

pub remove-first-requires-clause-in_bounds : goal.remove-first-requires-clause-in_bounds
remove-first-requires-clause-in_bounds c =
    let bs = string_bytes c.args.text in
    let filled : is_filled (chars bs) ≡ true = ap (λ (xs : List ℕ). is_filled (chars xs)) (sym c.as_str.ensures.value) ∙ sym c.has_text.ensures ∙ c.if-has_text.true in
    omega (arith, some_byte bs filled, c.args.text.bytes.ok.0)

pub returns-then-has_text : goal.returns-then-has_text
returns-then-has_text c d cs e =
    let known = c.remove-first.ensures.bytes in
    ap chars known.2 ∙ first_taken (string_bytes c.args.text) known.0 c.remove-first.result d cs (IsUtf8-string_bytes c.args.text) known.1 e
