use Rattle.std.proofs.Common.{sym, ◌∙◌}
use Rattle.biblatex_content.proofs.TidyTexts.{done}
use Rattle.biblatex_content.proofs.tidy.are_done.Goals as goal

pub returns-then-are_parted : goal.returns-then-are_parted
returns-then-are_parted c = λ e. done c.args.chunks.now (sym c.are_parted.ensures ∙ c.if-are_parted.true) (sym c.are_tidy.ensures ∙ e)
