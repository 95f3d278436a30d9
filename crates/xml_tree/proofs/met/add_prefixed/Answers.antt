use Rattle.std.proofs.Common.{not, ap, ◌∙◌}
use Rattle.xml_tree.proofs.NamesMet.{prefixed_added, prefixed_had}
use Rattle.xml_tree.proofs.met.add_prefixed.Goals as goal

pub returns : goal.returns
returns c = (
  c.in_ok-added.ensures.added ∙ ap not (prefixed_had c.args.prefix c.args.local c.args.met.now c.utf8.prefix c.utf8.local),
  prefixed_added c.args.prefix c.args.local c.args.met.now c.insert.new.self c.utf8.prefix c.utf8.local c.in_ok-added.ensures.updates,
)
