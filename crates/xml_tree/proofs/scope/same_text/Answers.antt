use Rattle.std.proofs.Common.{sym, ◌∙◌}
use Rattle.std.specs.Str.{bytes_eq}
use Rattle.laws.proofs.Text.{text_of_chars}
use Rattle.xml_tree.proofs.scope.same_text.Goals as goal

pub returns : goal.returns
returns c = c.eq.ensures ∙ (λ i. bytes_eq (sym (text_of_chars c.args.a.now c.utf8.a) i) (sym (text_of_chars c.args.b.now c.utf8.b) i))
