use Rattle.std.proofs.Common.{◌≡◌, ◌≤◌, length, arith}
use Rattle.std.specs.Prelude.{string_bytes, IfNone}
use Rattle.std.proofs.lemmas.Str.{IsUtf8-string_bytes}
use Rattle.rendering_page.proofs.CutsTexts.{popped}
use Rattle.rendering_page.proofs.piece.pop_made.Goals as goal

pub returns : goal.returns
returns c =
    let old = c.args.text.now in
    let new = c.pop.new.self in
    let low : length (string_bytes new) ≤ length (string_bytes old) = omega (arith, c.pop.ensures.bound, old.bytes.ok.0, new.bytes.ok.0) in
    let none : IfNone c.pop.result (length (string_bytes old) ≡ 0) = rw (← old.bytes.ok.0) c.pop.ensures.none in
    popped (string_bytes old) (string_bytes new) c.pop.result (IsUtf8-string_bytes old) (IsUtf8-string_bytes new) c.pop.ensures.bytes none low
