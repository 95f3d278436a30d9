use Rattle.std.proofs.Common.{◌≡◌, ◌++◌, rules}
use Rattle.std.specs.Prelude.{string_bytes}
use Rattle.std.specs.Char.Escape.{escape_unicode}
use Rattle.std.proofs.lemmas.Str.{IsUtf8-string_bytes}
use Rattle.laws.specs.Text.{characters}
use Rattle.source_positions.proofs.PositionLines.{put_characters}
use Rattle.source_positions.proofs.escape.push_escape.Goals as goal

pub returns-clause-bytes : goal.returns-clause-bytes
returns-clause-bytes c =
    let put : characters c.loop-mark.out ≡ characters c.args.out.now ++ escape_unicode c.args.c = search rules in
    put_characters (string_bytes c.args.out.now) (string_bytes c.loop-mark.out) (escape_unicode c.args.c) (IsUtf8-string_bytes c.args.out.now) (IsUtf8-string_bytes c.loop-mark.out) put
