use Rattle.std.proofs.Common.{sym, ap, ◌∙◌}
use Rattle.std.specs.Str.{chars}
use Rattle.laws.specs.Text.{characters, is_filled}
use Rattle.rendering.proofs.TrimmedEnds.{text_left, text_trimmed}
use Rattle.rendering.proofs.trimming.trim_text.Goals as goal

pub returns-clause-left : goal.returns-clause-left
returns-clause-left c =
    let text = c.args.text.now in
    c.has_text.ensures ∙ ap (λ s. is_filled (chars s)) c.as_str.ensures.value ∙ sym (text_left text.formatting (characters text.text) (characters c.trim_made.new.text) c.trim_made.ensures)

pub returns-clause-cut : goal.returns-clause-cut
returns-clause-cut c =
    let text = c.args.text.now in
    text_trimmed text.formatting (characters text.text) (characters c.trim_made.new.text) c.trim_made.ensures
