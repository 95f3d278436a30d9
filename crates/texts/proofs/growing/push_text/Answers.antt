use Rattle.std.specs.Prelude.{string_bytes}
use Rattle.std.proofs.lemmas.Str.{IsUtf8-string_bytes}
use Rattle.texts.proofs.GrowingAppended.{chars-put}
use Rattle.texts.proofs.growing.push_text.Goals as goal

pub returns : goal.returns
returns c = chars-put c.push_str.result (string_bytes c.args.text.now) c.args.more.now (string_bytes c.push_str.new.self) (IsUtf8-string_bytes c.args.text.now) c.push_str.ensures.bytes
