use Rattle.std.proofs.Common.{◌≡◌, List, map, Ok, sym, ap, ◌∙◌, subst}
use Rattle.std.proofs.lemmas.Result.{err_from_is_err_and}
use Rattle.laws.specs.Results.{EndsWith}
use Rattle.laws.specs.Text.{characters}
use Rattle.xml_text.specs.Tokens.{At}
use Rattle.xml_text.specs.Views.{placed_view, piece_view, attribute_view}
use Rattle.xml_text.specs.declared.token.Piece.{Piece}
use Rattle.xml_tree.specs.Names.{Valued, is_written}
use Rattle.xml_tree.specs.Values.{value_of}
use Rattle.xml_tree.specs.Views.{refusal_of, values_view}
use Rattle.xml_tree.proofs.Attributes.{value_repeats, value_added, value_fails}
use Rattle.xml_tree.proofs.names.push_beside_few.Goals as goal

pub returns-then-is_written : goal.returns-then-is_written
returns-then-is_written c =
    value_repeats (values_view c.args.values.now) (placed_view attribute_view c.args.attribute.now) (sym c.is_written.ensures ∙ c.if-is_written.true)

pub returns-in_err-value : goal.returns-in_err-value
returns-in_err-value c =
    let p = err_from_is_err_and c.from_residual.result c.from_residual.ensures.1 in
    let refusal = refusal_of c.in_err-value.field-0.0 in
    rw (p.1, p.2) (value_fails (values_view c.args.values.now) (placed_view attribute_view c.args.attribute.now) refusal (sym c.is_written.ensures ∙ c.if-is_written.false)
    (subst (λ (ps : List Piece). EndsWith refusal (value_of (map piece_view ps))) c.as_slice.ensures.value c.in_err-value.ensures))

pub returns : goal.returns
returns c =
    let earlier = values_view c.args.values.now in
    let a = placed_view attribute_view c.args.attribute.now in
    let value : value_of a.v.value ≡ Ok (characters c.in_ok-value.value) = ap (λ (ps : List Piece). value_of (map piece_view ps)) (sym c.as_slice.ensures.value) ∙ c.in_ok-value.ensures in
    value_added earlier a (characters c.in_ok-value.value) (sym c.is_written.ensures ∙ c.if-is_written.false) value ∙ ap (λ (vs : List (At Valued)). Ok vs) (sym c.in_ok-push_value.ensures)
