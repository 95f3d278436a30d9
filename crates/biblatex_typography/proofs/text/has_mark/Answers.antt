use Rattle.std.proofs.Common.{ap, ◌∙◌}
use Rattle.std.specs.Str.{chars}
use Rattle.laws.specs.Text.{is_filled}
use Rattle.biblatex_typography.proofs.Pairs.{from_mark}
use Rattle.biblatex_typography.proofs.text.has_mark.Goals as goal

pub returns : goal.returns
returns c = c.has_text.ensures ∙ (ap is_filled c.from_mark.ensures ∙ from_mark (chars c.args.text.now))
