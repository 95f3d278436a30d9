use Rattle.std.proofs.Common.{ℕ, List, ◌++◌, sym, ap, ◌∙◌}
use Rattle.std.specs.Str.{chars}
use Rattle.std.proofs.lemmas.Result.{on_ok_weaker}
use Rattle.laws.specs.Text.{characters}
use Rattle.xml_tree.proofs.PlainLines.{plain_lines}
use Rattle.xml_tree.proofs.value.push_lines.Goals as goal

pub returns-then-are_plain : goal.returns-then-are_plain
returns-then-are_plain c =
    on_ok_weaker c.push_text.result
    (λ h. h ∙ ap (λ (t : List ℕ). characters c.args.text.now ++ t) (sym (plain_lines c.args.in_value (chars c.args.more.now) (sym c.are_plain.ensures ∙ c.if-are_plain.true))))
    c.push_text.ensures
