use Rattle.std.proofs.Common.{sym, ap, ◌∙◌}
use Rattle.biblatex_content.specs.Tidy.{spaced_after}
use Rattle.biblatex_content.proofs.TidyBytes.{spaced_bytes}
use Rattle.biblatex_content.proofs.tidy.after_text.Goals as goal

pub returns : goal.returns
returns c = c.after_bytes.ensures ∙ (ap (spaced_after c.args.is_after_space) c.as_bytes.ensures.value ∙ sym (spaced_bytes c.args.is_after_space c.args.text.now c.utf8.text))
