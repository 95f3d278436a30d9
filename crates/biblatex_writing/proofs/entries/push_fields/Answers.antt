use Rattle.std.proofs.Common.{ℕ, List, ◌∷◌, String, Vec, Global, map, ap, sym, subst, ◌∙◌}
use Rattle.std.specs.List.{flat_map}
use Rattle.std.specs.Map.Iter.{deref_pair}
use Rattle.std.proofs.lemmas.Map.Iter.{rest_more, rest_all}
use Rattle.biblatex_content.specs.declared.chunk.Chunk.{Chunk}
use Rattle.biblatex_text.specs.declared.spanned.Spanned.{Spanned}
use Rattle.biblatex_fields.specs.Fields.{Named, named_fields_view}
use Rattle.biblatex_fields.specs.Value.{field_value_view}
use Rattle.biblatex_writing.specs.FieldNames.{other_names}
use Rattle.biblatex_writing.specs.MovedFields.{row_view}
use Rattle.biblatex_writing.specs.Order.{Row, merged}
use Rattle.biblatex_writing.specs.Texts.{AreText}
use Rattle.biblatex_writing.specs.Written.{written_field}
use Rattle.biblatex_writing.proofs.Calls.{same}
use Rattle.biblatex_writing.proofs.MemoryTexts.{fields_text}
use Rattle.biblatex_writing.proofs.OrderFields.{order_fields}
use Rattle.biblatex_writing.proofs.entries.push_fields.Goals as goal

abbrev Entries : Type 0
Entries = List (String Global × Vec (Spanned Chunk) Global)

pub loop-name-init : goal.loop-name-init
loop-name-init g c = λ u written.
    let fs = c.args.fields.now in
    same g.T.Target.takes c.args.target.now _ _ u
    (ap (λ (rows : List Row). flat_map written_field (merged rows (named_fields_view c.into_iter-name-iterator.result) fs)) c.moved_fields-rows.ensures
    ∙ (ap (λ (es : Entries). flat_map written_field (merged other_names (named_fields_view es) fs)) c.into_iter-name-iterator.ensures.into_iter_gives
    ∙ ap (λ (gs : List Named). flat_map written_field (merged other_names gs fs)) c.iter-name-items.ensures.rest)) written

pub loop-name-preserved : goal.loop-name-preserved
loop-name-preserved g c = λ u written.
    let took = g.T.Target.takes in
    let fs = c.args.fields.now in
    let rows = map row_view c.loop-name.rows.now in
    let later = named_fields_view c.next.new.self in
    let is = rest_more deref_pair c.loop-name.name-iterator c.next.new.self c.next.result (c.in-Some.name, c.in-Some.value) c.in-Some.is c.next.ensures.steps in
    c.loop-name.invariant u
    (same took c.loop-name.target _ _ u
    (ap (λ (n : List ℕ). flat_map written_field (merged rows ((n, field_value_view c.in-Some.value.now.items) ∷ later) fs)) c.as_str.ensures.value
    ∙ ap (λ (es : Entries). flat_map written_field (merged rows (named_fields_view es) fs)) (sym is))
    (c.push_next-rows.ensures later u written))

pub returns : goal.returns
returns g c =
    let took = g.T.Target.takes in
    let fs = c.args.fields.now in
    let rows = map row_view c.loop-name.rows.now in
    let none = rest_all deref_pair c.loop-name.name-iterator c.next.new.self c.next.result c.in-None.is c.next.ensures.steps in
    record {
      written =
          same took c.args.target.now _ _ c.push_moved.new.target (ap (flat_map written_field) (order_fields fs c.iter-name-items.ensures.ordered))
          (c.loop-name.invariant c.push_moved.new.target
          (same took c.loop-name.target _ _ c.push_moved.new.target (ap (λ (es : Entries). flat_map written_field (merged rows (named_fields_view es) fs)) (sym none)) c.push_moved.ensures));
      text = subst AreText c.iter-name-items.ensures.rest (fields_text c.iter-name-items.result);
    }
