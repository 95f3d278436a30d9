use Rattle.std.proofs.Common.{◌≡◌, ◌++◌, length}
use Rattle.std.specs.Prelude.{encode_utf8}
use Rattle.rendering_page.proofs.CutsTexts.{nothing_spelled}
use Rattle.rendering_page.proofs.ViewsTexts.{last_character}
use Rattle.rendering_page.proofs.piece.split_last.Goals as goal

pub returns-in_err-c-clause-chars : goal.returns-in_err-c-clause-chars
returns-in_err-c-clause-chars c =
    let none : length c.args.text.now ≡ 0 = rw (← c.chars-chars.ensures.rest) c.in_err-c.ensures.steps.0 in
    rw c.from_residual.ensures (nothing_spelled c.args.text.now none)

pub returns-clause-chars : goal.returns-clause-chars
returns-clause-chars c =
    let e : c.args.text.now ≡ c.as_str.result.now ++ encode_utf8 c.in_ok-c.c = rw (c.as_str.ensures, ← c.chars-chars.ensures.rest) c.in_ok-c.ensures.steps in
    last_character c.args.text.now c.as_str.result.now c.in_ok-c.c c.utf8.text c.as_str.utf8 e
