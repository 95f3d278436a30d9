use Rattle.std.proofs.Common.{rules}
use Rattle.std.proofs.lemmas.Str.{chars_from_encodes}
use Rattle.rendering_page.proofs.tail.length.Goals as goal

pub returns : goal.returns
returns c = search (rules, chars_from_encodes)
