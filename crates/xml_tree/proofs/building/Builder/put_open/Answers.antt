use Rattle.std.specs.Option.{option_map}
use Rattle.xml_tree.specs.Views.{element_view}
use Rattle.xml_tree.proofs.Stacks.{state_pushed}
use Rattle.xml_tree.proofs.building.Builder.put_open.Goals as goal

pub returns : goal.returns
returns c =
    let b = c.args.self.now in
    state_pushed (option_map element_view b.root) c.push.new.self.items b.open_ones.items c.args.inner c.in_ok-push.ensures.items
