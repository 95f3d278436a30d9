use Rattle.std.proofs.Common.{◌≡◌, ℕ, List, false, map, Option, Some, None, sym, ap, ◌∙◌}
use Rattle.xml_text.specs.Views.{placed_view}
use Rattle.xml_text.specs.declared.token.Placed.{Placed}
use Rattle.xml_tree.specs.Names.{repeated, unrepeated}
use Rattle.xml_tree.specs.Views.{attribute_view, attributes_view}
use Rattle.xml_tree.specs.declared.tree.Attribute.{Attribute}
use Rattle.xml_tree.proofs.names.distinct.Goals as goal

pub returns-in-None : goal.returns-in-None
returns-in-None c =
    let attributes = attributes_view c.args.attributes in
    let none : repeated (λ n. false) attributes ≡ None =
    ap (λ (xs : List (Placed Attribute)). repeated (λ n. false) (map (placed_view attribute_view) xs)) (sym c.as_slice.ensures.value) ∙ (sym c.in_ok-left.ensures ∙ c.in-None.is) in
    ap (λ (r : Option ℕ). unrepeated r attributes) none

pub returns : goal.returns
returns c =
    let attributes = attributes_view c.args.attributes in
    let some : repeated (λ n. false) attributes ≡ Some c.in-Some.left =
    ap (λ (xs : List (Placed Attribute)). repeated (λ n. false) (map (placed_view attribute_view) xs)) (sym c.as_slice.ensures.value) ∙ (sym c.in_ok-left.ensures ∙ c.in-Some.is) in
    ap (λ (r : Option ℕ). unrepeated r attributes) some
