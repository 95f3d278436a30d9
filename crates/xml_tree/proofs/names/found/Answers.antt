use Rattle.std.proofs.Common.{ℕ, List, Option, ap, ◌∙◌}
use Rattle.std.specs.Option.{option_map, option_or}
use Rattle.laws.specs.Text.{spelled}
use Rattle.xml_tree.specs.Building.{scope_of}
use Rattle.xml_tree.specs.Views.{opens_of}
use Rattle.xml_tree.proofs.names.found.Goals as goal

pub returns-in-Some : goal.returns-in-Some
returns-in-Some c =
    let outer = scope_of (opens_of c.args.opens.now) (option_map spelled c.args.prefix) in
    ap (λ (o : Option (Option (List ℕ))). option_or o outer) c.in-Some.ensures

pub returns-in-None : goal.returns-in-None
returns-in-None c =
    let outer = scope_of (opens_of c.args.opens.now) (option_map spelled c.args.prefix) in
    c.found_around.ensures ∙ ap (λ (o : Option (Option (List ℕ))). option_or o outer) c.in-None.ensures
