use Rattle.std.proofs.Common.{◌∷◌, [], List, String, Vec, Global, sym, ap, ◌∙◌}
use Rattle.std.proofs.lemmas.List.{map-append}
use Rattle.biblatex_text.specs.declared.spanned.Spanned.{Spanned}
use Rattle.biblatex_content.specs.declared.chunk.Chunk.{Chunk}
use Rattle.biblatex_fields.specs.Fields.{Named, named_field_view, named_fields_view}
use Rattle.biblatex_fields.specs.Value.{field_value_view}
use Rattle.biblatex_typography.proofs.Fields.{nothing_put, one_put}
use Rattle.biblatex_typography.proofs.changes.push_changed.Goals as goal

pub returns-then-not-is_changed : goal.returns-then-not-is_changed
returns-then-not-is_changed c =
    nothing_put (named_fields_view c.args.changed.now.items) (c.args.name.now, field_value_view c.args.value.now) (sym c.is_changed.ensures ∙ c.if-not-is_changed.true)

pub returns : goal.returns
returns c =
    let old = named_fields_view c.args.changed.now.items in
    let f : Named = (c.args.name.now, field_value_view c.args.value.now) in
    let value = c.in_ok-value.value in
    ap (λ (es : List (String Global × Vec (Spanned Chunk) Global)). named_fields_view es) c.in_ok-push.ensures.items
    ∙ (map-append named_field_view c.args.changed.now.items ((c.in_ok-name.name, value) ∷ [])
    ∙ one_put old f (named_field_view (c.in_ok-name.name, value)) (sym c.is_changed.ensures ∙ c.if-not-is_changed.false)
    (λ i. (c.in_ok-name.ensures.bytes i, record { text = c.in_ok-value.ensures.styled i; spans = c.in_ok-value.ensures.spans i; is_joined = c.in_ok-value.ensures.parted i })))
