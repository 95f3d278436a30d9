use Rattle.std.specs.Str.{chars, drop_trailing_whitespace, trim_end}
use Rattle.laws.proofs.Text.{chars-text}
use Rattle.rendering_page.proofs.piece.trimmed.Goals as goal

pub returns-clause-value : goal.returns-clause-value
unfolding trim_end
returns-clause-value c = chars-text c.trim_end.result.now (drop_trailing_whitespace (chars c.args.text.now)) c.trim_end.utf8 c.trim_end.ensures.trim
