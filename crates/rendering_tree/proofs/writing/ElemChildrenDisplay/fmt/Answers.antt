use Rattle.laws.specs.Text.{text}
use Rattle.rendering_tree.specs.Views.{tree_view}
use Rattle.rendering_tree.specs.Writing.{plain_text}
use Rattle.rendering_tree.proofs.WritingDisplayed.{displayed}
use Rattle.rendering_tree.proofs.writing.ElemChildrenDisplay.fmt.Goals as goal

pub returns-clause-writes : goal.returns-clause-writes
returns-clause-writes g c =
    displayed g.W.Write.write_str_gives c.write_buf.result c.args.f.now (text (plain_text (tree_view c.args.self.now))) c.write_buf.new.w c.write_buf.ensures
