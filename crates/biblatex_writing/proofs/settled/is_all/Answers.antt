use Rattle.std.proofs.Common.{not, ap, ◌∙◌}
use Rattle.std.specs.Str.{chars}
use Rattle.laws.specs.Text.{is_filled}
use Rattle.biblatex_writing.specs.SettledNames.{passes}
use Rattle.biblatex_writing.proofs.SettledParts.{all_pass}
use Rattle.biblatex_writing.proofs.settled.is_all.Goals as goal

pub returns : goal.returns
returns c =
    ap not (c.has_text.ensures ∙ ap is_filled c.split_run.ensures.rest) ∙ all_pass (passes c.args.part) (chars c.args.text.now)
