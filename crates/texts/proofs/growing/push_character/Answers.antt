use Rattle.std.specs.Prelude.{string_bytes}
use Rattle.std.specs.Char.{IsScalar}
use Rattle.std.proofs.lemmas.Str.{IsUtf8-string_bytes}
use Rattle.texts.proofs.GrowingAppended.{chars-put_one}
use Rattle.texts.proofs.growing.push_character.Goals as goal

pub returns : goal.returns
returns c =
    let scalar : IsScalar c.args.c = c.ranges.c.0 in
    chars-put_one c.push.result (string_bytes c.args.text.now) (string_bytes c.push.new.self) c.args.c (IsUtf8-string_bytes c.args.text.now) scalar c.push.ensures.bytes
