use Rattle.std.proofs.Common.{◌≡◌, [], ◌∷◌, length, map, sym, ap, ◌∙◌, arith}
use Rattle.std.specs.Vec.Iter.{into_iter_items}
use Rattle.std.proofs.lemmas.List.{nil_from_length}
use Rattle.std.proofs.lemmas.Result.{err_from_is_err_and}
use Rattle.xml_text.specs.Views.{placed_view}
use Rattle.xml_tree.specs.Building.{scope_of}
use Rattle.xml_tree.specs.Folding.{folded}
use Rattle.xml_tree.specs.Names.{expand, expanded}
use Rattle.xml_tree.specs.Scope.{over}
use Rattle.xml_tree.specs.Views.{refusal_of, bindings_view, attribute_view, attributes_view, valued_view, values_view, opens_of}
use Rattle.xml_tree.proofs.Folded.{folds_on, folds_end, folds_fail}
use Rattle.xml_tree.proofs.names.expanded.Goals as goal

pub loop-value-init : goal.loop-value-init
loop-value-init c =
    let e = c.into_iter-value-iterator.ensures.into_iter_gives in
    let scope = over (bindings_view c.args.own.now) (scope_of (opens_of c.args.opens.now)) in
    record {
      same = λ k. folded (expand scope) (map (placed_view attribute_view) (c.in_ok-attributes.ensures.items k)) (map (placed_view valued_view) (e.0 k));
      long = e.1 ∙ (c.args.values.ok.0 ∙ sym (ap length e.0));
    }

pub loop-value-preserved : goal.loop-value-preserved
loop-value-preserved c =
    let view = placed_view valued_view in
    let scope = over (bindings_view c.args.own.now) (scope_of (opens_of c.args.opens.now)) in
    let iter = into_iter_items c.loop-value.value-iterator in
    let rest = into_iter_items c.next.new.self in
    let steps : into_iter_items c.loop-value.value-iterator ≡ c.in-Some.value ∷ rest = c.in-Some.ensures.steps.0 in
    record {
      same = folds_on (expand scope) (attributes_view c.loop-value.attributes) (attributes_view c.push_expanded.new.attributes) (map view iter) (map view rest) (view c.in-Some.value) (expanded scope (values_view c.args.values))
          c.loop-value.invariant.same (ap (map view) steps) c.in_ok-push_expanded.ensures;
      long = omega (arith, c.loop-value.invariant.long, ap length steps, c.in-Some.ensures.steps.1);
    }

pub returns-in_err-push_expanded : goal.returns-in_err-push_expanded
returns-in_err-push_expanded c =
    let p = err_from_is_err_and c.from_residual-in_err-push_expanded.result c.from_residual-in_err-push_expanded.ensures.1 in
    let view = placed_view valued_view in
    let scope = over (bindings_view c.args.own.now) (scope_of (opens_of c.args.opens.now)) in
    let iter = into_iter_items c.loop-value.value-iterator in
    let rest = into_iter_items c.next.new.self in
    let steps : into_iter_items c.loop-value.value-iterator ≡ c.in-Some.value ∷ rest = c.in-Some.ensures.steps.0 in
    rw (p.1, p.2) (folds_fail (expand scope) (attributes_view c.loop-value.attributes) (map view iter) (map view rest) (view c.in-Some.value) (refusal_of c.in_err-push_expanded.field-0.0) (expanded scope (values_view c.args.values))
    c.loop-value.invariant.same (ap (map view) steps) c.in_err-push_expanded.ensures)

pub returns : goal.returns
returns c =
    let view = placed_view valued_view in
    let scope = over (bindings_view c.args.own.now) (scope_of (opens_of c.args.opens.now)) in
    let iter = into_iter_items c.loop-value.value-iterator in
    let none : into_iter_items c.loop-value.value-iterator ≡ [] = nil_from_length _ (sym c.loop-value.invariant.long ∙ c.in-None.ensures.steps.0) in
    folds_end (expand scope) (attributes_view c.loop-value.attributes) (map view iter) (expanded scope (values_view c.args.values)) c.loop-value.invariant.same (ap (map view) none)
