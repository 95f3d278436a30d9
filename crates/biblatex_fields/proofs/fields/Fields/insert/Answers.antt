use Rattle.std.proofs.Common.{ℕ, List, sym, ap, subst, ◌∙◌, string_bytes}
use Rattle.biblatex_fields.specs.Fields.{Named, named_fields_view, value_named, with_field}
use Rattle.biblatex_fields.specs.Slots.{AreMarked}
use Rattle.biblatex_fields.specs.Value.{field_value_view}
use Rattle.biblatex_fields.proofs.FieldsLookUps.{put_found}
use Rattle.biblatex_fields.proofs.FieldsEntries.{put_there, ordered_there}
use Rattle.biblatex_fields.proofs.SlotsFields.{MarksOneMore, marked_put}
use Rattle.biblatex_fields.proofs.fields.Fields.insert.Goals as goal

pub returns-clause-ok : goal.returns-clause-ok
returns-clause-ok c =
    let put = ap named_fields_view c.in_ok-insert.ensures.entries ∙ put_there c.self.inside.values.entries c.args.name c.args.value in
    put ∙ ap (λ (fs : List Named). with_field fs (string_bytes c.args.name) (field_value_view c.args.value.items)) c.self.view_is

pub returns-clause-found : goal.returns-clause-found
returns-clause-found c q =
    let put = ap named_fields_view c.in_ok-insert.ensures.entries ∙ put_there c.self.inside.values.entries c.args.name c.args.value in
    let whole = put ∙ ap (λ (fs : List Named). with_field fs (string_bytes c.args.name) (field_value_view c.args.value.items)) c.self.view_is in
    ap (value_named q) whole ∙ put_found c.args.self.now (string_bytes c.args.name) (field_value_view c.args.value.items) q

pub invariant_of-self-2 : goal.invariant_of-self-2
invariant_of-self-2 c =
    let put = ap named_fields_view c.in_ok-insert.ensures.entries ∙ put_there c.self.inside.values.entries c.args.name c.args.value in
    let more = subst (λ (name : List ℕ). MarksOneMore c.self.inside.slots.marks name c.mark.new.self.marks) c.as_str.ensures.value c.mark.ensures in
    let marked = marked_put c.self.inside.slots.marks c.mark.new.self.marks (string_bytes c.args.name) (field_value_view c.args.value.items) (named_fields_view c.self.inside.values.entries) more c.self.invariant.1 in
    (ordered_there c.insert.new.self.entries c.in_ok-insert.ensures.ordered, subst (AreMarked c.mark.new.self.marks) (sym put) marked)
