use Rattle.std.proofs.Common.{ap, ◌∙◌}
use Rattle.std.specs.Str.{bytes_eq}
use Rattle.laws.specs.Text.{text, spelled}
use Rattle.laws.proofs.Text.{text_of_chars}
use Rattle.xml_tree.proofs.scope.is_word.Goals as goal

pub returns-in-Some : goal.returns-in-Some
returns-in-Some c = rw c.in-Some.is (c.same_text.ensures ∙ ap (bytes_eq (text (spelled c.in-Some.text))) (text_of_chars c.args.word.now c.utf8.word))
