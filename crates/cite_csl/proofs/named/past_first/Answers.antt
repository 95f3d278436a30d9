use Rattle.std.proofs.Common.{sym, ap, ◌∙◌}
use Rattle.std.proofs.lemmas.Str.{chars-nil}
use Rattle.cite_csl.specs.Names.{less_one}
use Rattle.cite_csl.proofs.named.past_first.Goals as goal

pub returns-in-None : goal.returns-in-None
returns-in-None c = chars-nil ∙ ap less_one (sym c.in-None.ensures.chars ∙ c.from_first.ensures)
