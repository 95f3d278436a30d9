use Rattle.std.proofs.Common.{◌≡◌, ◌++◌, encode_utf8}
use Rattle.std.proofs.lemmas.Str.{chars_past_char}
use Rattle.texts.proofs.character.split_first.Goals as goal

pub returns-clause-chars : goal.returns-clause-chars
returns-clause-chars c =
    let e : c.args.text.now ≡ encode_utf8 c.in_ok-c.c ++ c.as_str.result.now = rw (c.as_str.ensures, ← c.chars-chars.ensures.rest) c.in_ok-c.ensures.steps.0 in
    chars_past_char _ _ _ c.utf8.text e
