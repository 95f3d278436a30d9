use Rattle.std.proofs.Common.{length, ap, sym}
use Rattle.laws.proofs.Text.{text_of_chars}
use Rattle.xml_text.proofs.reading.byte_len.Goals as goal

pub returns : goal.returns
returns c = ap length (sym (text_of_chars c.args.text.now c.utf8.text))
