use Rattle.std.proofs.Common.{◌≡◌, List, true, false, map, Ok, sym, ap, ◌∙◌, subst}
use Rattle.std.proofs.lemmas.Result.{err_from_is_err_and}
use Rattle.laws.specs.Results.{EndsWith}
use Rattle.laws.specs.Text.{characters}
use Rattle.xml_text.specs.Tokens.{At}
use Rattle.xml_text.specs.Views.{placed_view, piece_view, attribute_view}
use Rattle.xml_text.specs.declared.token.Piece.{Piece}
use Rattle.xml_tree.specs.Met.{has_name, AreMet}
use Rattle.xml_tree.specs.Names.{Valued, is_written, valued_as}
use Rattle.xml_tree.specs.Values.{value_of}
use Rattle.xml_tree.specs.Views.{refusal_of, values_view}
use Rattle.xml_tree.proofs.Attributes.{value_repeats, value_added, value_fails}
use Rattle.xml_tree.proofs.NamesMet.{met_more, was_met, was_new}
use Rattle.xml_tree.proofs.names.push_valued.Goals as goal

pub returns-then-not-is_new-clause-values : goal.returns-then-not-is_new-clause-values
returns-then-not-is_new-clause-values c =
    let earlier = values_view c.args.values.now in
    let a = placed_view attribute_view c.args.attribute.now in
    let seen : is_written earlier a.v.name ≡ true = sym (c.requires a.v.name) ∙ was_met c.in_ok-is_new.is_new (has_name c.args.met.now a.v.name) c.in_ok-is_new.ensures.0 c.if-not-is_new.true in
    value_repeats earlier a seen

pub returns-in_err-value-clause-values : goal.returns-in_err-value-clause-values
returns-in_err-value-clause-values c =
    let p = err_from_is_err_and c.from_residual-in_err-value.result c.from_residual-in_err-value.ensures.1 in
    let earlier = values_view c.args.values.now in
    let a = placed_view attribute_view c.args.attribute.now in
    let unseen : is_written earlier a.v.name ≡ false = sym (c.requires a.v.name) ∙ was_new c.in_ok-is_new.is_new (has_name c.args.met.now a.v.name) c.in_ok-is_new.ensures.0 c.if-not-is_new.false in
    let refusal = refusal_of c.in_err-value.field-0.0 in
    rw (p.1, p.2) (value_fails earlier a refusal unseen (subst (λ (ps : List Piece). EndsWith refusal (value_of (map piece_view ps))) c.as_slice.ensures.value c.in_err-value.ensures))

pub returns-clause-values : goal.returns-clause-values
returns-clause-values c =
    let earlier = values_view c.args.values.now in
    let a = placed_view attribute_view c.args.attribute.now in
    let unseen : is_written earlier a.v.name ≡ false = sym (c.requires a.v.name) ∙ was_new c.in_ok-is_new.is_new (has_name c.args.met.now a.v.name) c.in_ok-is_new.ensures.0 c.if-not-is_new.false in
    let value : value_of a.v.value ≡ Ok (characters c.in_ok-value.value) = ap (λ (ps : List Piece). value_of (map piece_view ps)) (sym c.as_slice.ensures.value) ∙ c.in_ok-value.ensures in
    value_added earlier a (characters c.in_ok-value.value) unseen value ∙ ap (λ (vs : List (At Valued)). Ok vs) (sym c.in_ok-push_value.ensures)

pub returns-clause-met : goal.returns-clause-met
returns-clause-met c =
    let earlier = values_view c.args.values.now in
    let a = placed_view attribute_view c.args.attribute.now in
    subst (AreMet c.add_name.new.met) (sym c.in_ok-push_value.ensures)
    (met_more c.args.met.now c.add_name.new.met earlier (valued_as a (characters c.in_ok-value.value)) c.requires c.in_ok-is_new.ensures.1)
