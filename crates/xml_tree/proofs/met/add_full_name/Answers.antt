use Rattle.std.proofs.Common.{ℕ, List, Option, subst}
use Rattle.laws.specs.Text.{spelled}
use Rattle.xml_tree.specs.Met.{Adds, name_of}
use Rattle.xml_tree.proofs.met.add_full_name.Goals as goal

pub returns : goal.returns
returns c =
    let local = spelled c.args.name.now.local in
    subst (λ (p : Option (List ℕ)). Adds c.args.met.now c.add_name.new.met (name_of p local) c.add_name.result) c.borrowed_space.ensures c.add_name.ensures
