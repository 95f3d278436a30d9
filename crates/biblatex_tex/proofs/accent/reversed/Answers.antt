use Rattle.std.proofs.Common.{reverse, ap, ◌∙◌}
use Rattle.std.proofs.lemmas.List.{reverse-reverse}
use Rattle.biblatex_tex.proofs.accent.reversed.Goals as goal

pub returns : goal.returns
returns c = ap reverse c.reverse.ensures.items ∙ (reverse-reverse c.in_ok-letters.letters.items ∙ c.in_ok-letters.ensures)
