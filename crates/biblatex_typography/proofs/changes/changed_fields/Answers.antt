use Rattle.std.proofs.Common.{◌≡◌, List, ◌++◌, String, Vec, Global, string_bytes, sym, ap, subst, ◌∙◌, append_assoc}
use Rattle.std.specs.Map.Iter.{deref_pair}
use Rattle.std.proofs.lemmas.List.{append-nil}
use Rattle.std.proofs.lemmas.Map.Iter.{rest_all, rest_more}
use Rattle.biblatex_text.specs.declared.spanned.Spanned.{Spanned}
use Rattle.biblatex_content.specs.declared.chunk.Chunk.{Chunk}
use Rattle.biblatex_content.specs.Parted.{are_parted}
use Rattle.biblatex_fields.specs.Fields.{Named, named_fields_view}
use Rattle.biblatex_fields.specs.Value.{field_value_view}
use Rattle.biblatex_typography.specs.Changes as specs
use Rattle.biblatex_typography.specs.Changes.{changed_field}
use Rattle.biblatex_typography.proofs.Fields.{AreAllJoined, each_joined}
use Rattle.biblatex_typography.proofs.changes.changed_fields.Goals as goal

abbrev Entries : Type 0
Entries = List (String Global × Vec (Spanned Chunk) Global)

pub loop-name-init : goal.loop-name-init
loop-name-init c =
    let fs = c.args.fields.now in
    let whole : named_fields_view c.into_iter-name-iterator.result ≡ fs =
    ap (λ (es : Entries). named_fields_view es) c.into_iter-name-iterator.ensures.into_iter_gives ∙ c.iter-name-items.ensures.rest in
    record {
      same = ap (λ (es : Entries). named_fields_view es ++ specs.changed_fields (named_fields_view c.into_iter-name-iterator.result)) c.new-changed.ensures.items ∙ ap specs.changed_fields whole;
      joined = subst AreAllJoined (sym whole) (each_joined fs c.iter-name-items.ensures.ordered c.requires);
    }

pub push_changed-requires : goal.push_changed-requires
push_changed-requires c =
    let is = rest_more deref_pair c.loop-name.name-iterator c.next.new.self c.next.result (c.in-Some.name, c.in-Some.value) c.in-Some.is c.next.ensures.steps in
    ap are_parted c.as_slice.ensures.value ∙ (subst AreAllJoined (ap (λ (es : Entries). named_fields_view es) is) c.loop-name.invariant.joined).0

pub loop-name-preserved : goal.loop-name-preserved
loop-name-preserved c =
    let old = named_fields_view c.loop-name.changed.items in
    let later = named_fields_view c.next.new.self in
    let f : Named = (string_bytes c.in-Some.name.now, field_value_view c.in-Some.value.now.items) in
    let is = rest_more deref_pair c.loop-name.name-iterator c.next.new.self c.next.result (c.in-Some.name, c.in-Some.value) c.in-Some.is c.next.ensures.steps in
    record {
      same =
          ap (λ (fs : List Named). fs ++ specs.changed_fields later)
          (c.in_ok-push_changed.ensures ∙ (λ i. old ++ changed_field (c.as_str.ensures.value i, field_value_view (c.as_slice.ensures.value i))))
          ∙ (append_assoc old (changed_field f) (specs.changed_fields later)
          ∙ (ap (λ (es : Entries). old ++ specs.changed_fields (named_fields_view es)) (sym is) ∙ c.loop-name.invariant.same));
      joined = (subst AreAllJoined (ap (λ (es : Entries). named_fields_view es) is) c.loop-name.invariant.joined).1;
    }

pub returns-clause-changed : goal.returns-clause-changed
returns-clause-changed c =
    let old = named_fields_view c.loop-name.changed.items in
    let none = rest_all deref_pair c.loop-name.name-iterator c.next.new.self c.next.result c.in-None.is c.next.ensures.steps in
    sym (append-nil old) ∙ (ap (λ (es : Entries). old ++ specs.changed_fields (named_fields_view es)) (sym none) ∙ c.loop-name.invariant.same)
