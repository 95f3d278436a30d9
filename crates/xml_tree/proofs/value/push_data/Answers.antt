use Rattle.std.proofs.Common.{ℕ, List, ◌++◌, ap, ◌∙◌}
use Rattle.std.specs.Str.{chars}
use Rattle.std.proofs.lemmas.Result.{on_ok_weaker}
use Rattle.laws.specs.Text.{characters}
use Rattle.xml_tree.specs.Values.{lines_of}
use Rattle.xml_tree.proofs.Lines.{shown_data}
use Rattle.xml_tree.proofs.value.push_data.Goals as goal

pub returns : goal.returns
returns c =
    on_ok_weaker c.push_lines.result
    (λ h. h ∙ ap (λ (t : List ℕ). characters c.args.text.now ++ t) (shown_data (lines_of (chars c.args.more.now))))
    c.push_lines.ensures
