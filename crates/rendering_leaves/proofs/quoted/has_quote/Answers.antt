use Rattle.std.proofs.Common.{ap, ◌∙◌}
use Rattle.std.specs.Str.{chars}
use Rattle.laws.specs.Text.{is_filled}
use Rattle.rendering_leaves.proofs.QuotesInside.{from_quote}
use Rattle.rendering_leaves.proofs.quoted.has_quote.Goals as goal

pub returns : goal.returns
returns c = c.has_text.ensures ∙ (ap is_filled c.from_quote.ensures ∙ from_quote (chars c.args.text.now))
