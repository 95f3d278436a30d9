use Rattle.std.proofs.Common.{not, ap, ◌∙◌}
use Rattle.xml_tree.proofs.NamesMet.{plain_added, plain_had}
use Rattle.xml_tree.proofs.met.add_plain.Goals as goal

pub returns : goal.returns
returns c = (
  c.in_ok-added.ensures.added ∙ ap not (plain_had c.args.local c.args.met.now c.utf8.local),
  plain_added c.args.local c.args.met.now c.insert.new.self c.utf8.local c.in_ok-added.ensures.updates,
)
