use Rattle.std.proofs.Common.{length, ap, sym}
use Rattle.laws.proofs.Text.{text_of_chars}
use Rattle.biblatex_text.proofs.state.byte_len.Goals as goal

pub returns-clause-spelled : goal.returns-clause-spelled
returns-clause-spelled c = ap length (sym (text_of_chars c.args.text.now c.utf8.text))
