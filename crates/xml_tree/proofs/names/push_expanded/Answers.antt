use Rattle.std.proofs.Common.{ℕ, List, Option, sym, ap, subst}
use Rattle.laws.specs.Results.{Leaves}
use Rattle.xml_text.specs.Views.{placed_view}
use Rattle.xml_tree.specs.Building.{scope_of}
use Rattle.xml_tree.specs.Names.{with_expanded}
use Rattle.xml_tree.specs.Scope.{over}
use Rattle.xml_tree.specs.Views.{refusal_of, bindings_view, attributes_view, valued_view, opens_of}
use Rattle.xml_tree.proofs.names.push_expanded.Goals as goal

pub returns-in-Some : goal.returns-in-Some
returns-in-Some c =
    let scope = over (bindings_view c.args.own.now) (scope_of (opens_of c.args.opens.now)) in
    let a = placed_view valued_view c.args.attribute in
    ap (λ (p : Option (Option (List ℕ))). with_expanded scope (attributes_view c.args.attributes.now) p a) (sym c.in-Some.ensures)

pub returns-in-None : goal.returns-in-None
returns-in-None c =
    let scope = over (bindings_view c.args.own.now) (scope_of (opens_of c.args.opens.now)) in
    let a = placed_view valued_view c.args.attribute in
    subst (λ (p : Option (Option (List ℕ))). Leaves refusal_of c.push_named.result (attributes_view c.push_named.new.attributes) (with_expanded scope (attributes_view c.args.attributes.now) p a)) c.in-None.ensures
    c.push_named.ensures
