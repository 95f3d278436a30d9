use Rattle.std.proofs.Common.{length, refl, ap, arith}
use Rattle.laws.proofs.Text.{text_of_chars}
use Rattle.cite_markers.proofs.document.offset_of.Goals as goal

pub overflow_sub-result : goal.overflow_sub-result
overflow_sub-result c = omega (arith, c.requires, ap length (text_of_chars c.args.rest.now c.utf8.rest), ap length (text_of_chars c.args.document.now c.utf8.document))

pub returns : goal.returns
returns c = rw (text_of_chars c.args.rest.now c.utf8.rest, text_of_chars c.args.document.now c.utf8.document) refl
