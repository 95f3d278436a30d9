use Rattle.std.proofs.Common.{sym, ap, ◌∙◌}
use Rattle.std.specs.List.{list_all}
use Rattle.biblatex_tex.specs.Character.{is_plain}
use Rattle.biblatex_content.proofs.OrdinaryPlain.{plain_bytes}
use Rattle.biblatex_content.proofs.ordinary.is_plain.Goals as goal

pub returns : goal.returns
returns c = λ e. plain_bytes c.args.piece.now c.utf8.piece (sym (c.are_plain.ensures ∙ ap (list_all is_plain) c.as_bytes.ensures.value) ∙ e)
