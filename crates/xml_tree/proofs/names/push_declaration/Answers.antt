use Rattle.std.proofs.Common.{ℕ, List, Option, sym, ap, subst}
use Rattle.laws.specs.Results.{Leaves}
use Rattle.xml_text.specs.Views.{placed_view}
use Rattle.xml_tree.specs.Names.{with_declaration}
use Rattle.xml_tree.specs.Views.{refusal_of, bindings_view, valued_view}
use Rattle.xml_tree.proofs.names.push_declaration.Goals as goal

pub returns-in-Some : goal.returns-in-Some
returns-in-Some c =
    let a = placed_view valued_view c.args.attribute.now in
    subst (λ (p : Option (Option (List ℕ))). Leaves refusal_of c.bind_value.result (bindings_view c.bind_value.new.own) (with_declaration (bindings_view c.args.own.now) p a)) c.in-Some.ensures c.bind_value.ensures

pub returns-in-None : goal.returns-in-None
returns-in-None c =
    let a = placed_view valued_view c.args.attribute.now in
    ap (λ (p : Option (Option (List ℕ))). with_declaration (bindings_view c.args.own.now) p a) (sym c.in-None.ensures)
