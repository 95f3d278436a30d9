use Rattle.std.proofs.Common.{◌≡◌, [], ◌∷◌, List, Some, None, Err, length, map, sym, ap, ◌∙◌, arith}
use Rattle.std.specs.Vec.Iter.{into_iter_items}
use Rattle.std.proofs.lemmas.List.{map_push, nil_from_length}
use Rattle.biblatex_text.specs.Views.{entry_view, spanned_text_view}
use Rattle.biblatex_text.specs.declared.raw.RawEntry.{RawEntry}
use Rattle.biblatex_text.specs.declared.spanned.Spanned.{Spanned}
use Rattle.biblatex_entries.specs.Entries.{source_view, sources_view}
use Rattle.biblatex_entries.specs.declared.entry.Entry.{Entry}
use Rattle.biblatex_suppliers.specs.Written.{all_with, said}
use Rattle.biblatex_reading.specs.Reading.{entry_read, up_to_fault}
use Rattle.biblatex_reading.proofs.ReadingSteps.{followed, one_more_read, none_more, fault_read}
use Rattle.biblatex_meaning.specs.Reading.{Refusal}
use Rattle.biblatex.specs.Errors.{reason_view}
use Rattle.biblatex.proofs.LoadingApart.{nothing_before}
use Rattle.biblatex.proofs.apart.read_apart.Goals as goal

pub loop-raw-init : goal.loop-raw-init
loop-raw-init c =
    let g = c.args.abbreviations.now in
    let e = c.into_iter-raw-iterator.ensures.into_iter_gives in
    record {
      same = (λ k. followed (all_with (sources_view (c.in_ok-entries.ensures.items k)) (c.in_ok-shared.ensures.items k)) (map spanned_text_view (c.in_ok-keys.ensures.items k)) (up_to_fault g (map entry_view (e.0 k)))) ∙ nothing_before g (map entry_view c.args.raws.items);
      count = ap (λ (es : List Entry). length (sources_view es)) c.in_ok-entries.ensures.items ∙ sym (ap length c.in_ok-shared.ensures.items);
      names = ap (λ (es : List Entry). map said (sources_view es)) c.in_ok-entries.ensures.items ∙ sym (λ k. map said (all_with (sources_view (c.in_ok-entries.ensures.items k)) (c.in_ok-shared.ensures.items k)));
      long = e.1 ∙ (c.args.raws.ok.0 ∙ sym (ap length e.0));
    }

pub loop-raw-preserved : goal.loop-raw-preserved
loop-raw-preserved c =
    let g = c.args.abbreviations.now in
    let rest = into_iter_items c.next.new.self in
    let steps : into_iter_items c.loop-raw.raw-iterator ≡ c.in-Some.raw ∷ rest = c.in-Some.ensures.steps.0 in
    let whole = all_with (sources_view c.loop-raw.entries.items) c.loop-raw.shared.items in
    let keys = map spanned_text_view c.loop-raw.keys.items in
    let more = ap (map spanned_text_view) c.in_ok-push-in-Ok.ensures.items ∙ map_push spanned_text_view c.loop-raw.keys.items c.in-Some.raw.v.key in
    record {
      same = one_more_read g whole (all_with (sources_view c.push_apart.new.entries.items) c.push_apart.new.shared.items) keys (map spanned_text_view c.push.new.self.items) (entry_view c.in-Some.raw) (map entry_view rest) (source_view c.in-Ok.entry) _
          c.in_ok-push_apart-in-Ok.ensures.last more c.in-Ok.ensures (sym (ap (λ (rs : List (Spanned RawEntry)). followed whole keys (up_to_fault g (map entry_view rs))) steps) ∙ c.loop-raw.invariant.same);
      count = c.in_ok-push_apart-in-Ok.ensures.long;
      names = c.in_ok-push_apart-in-Ok.ensures.same;
      long = omega (arith, c.loop-raw.invariant.long, ap length steps, c.in-Some.ensures.steps.1);
    }

pub returns-clause-ok : goal.returns-clause-ok
returns-clause-ok c =
    let g = c.args.abbreviations.now in
    let none : into_iter_items c.loop-raw.raw-iterator ≡ [] = nil_from_length _ (sym c.loop-raw.invariant.long ∙ c.in-None.ensures.steps.0) in
    none_more (all_with (sources_view c.loop-raw.entries.items) c.loop-raw.shared.items) (map spanned_text_view c.loop-raw.keys.items) None (up_to_fault g (map entry_view (into_iter_items c.loop-raw.raw-iterator))) _
    (ap (λ (rs : List (Spanned RawEntry)). up_to_fault g (map entry_view rs)) none) c.loop-raw.invariant.same

pub returns-in-Err-Refused-clause-ok : goal.returns-in-Err-Refused-clause-ok
returns-in-Err-Refused-clause-ok c =
    let g = c.args.abbreviations.now in
    let rest = into_iter_items c.next.new.self in
    let steps : into_iter_items c.loop-raw.raw-iterator ≡ c.in-Some.raw ∷ rest = c.in-Some.ensures.steps.0 in
    let refusal : Refusal = record { reason = reason_view c.in-Err-Refused.kind; start = c.in-Err-Refused.span.start; end = c.in-Err-Refused.span.end } in
    let read : entry_read g (entry_view c.in-Some.raw).v ≡ Err refusal = rw c.in-Err-Refused.field-0-is at c.in-Err-Refused.ensures in
    rw c.in-Err-Refused.field-0-is (none_more (all_with (sources_view c.loop-raw.entries.items) c.loop-raw.shared.items) (map spanned_text_view c.loop-raw.keys.items) (Some refusal) (up_to_fault g (map entry_view (into_iter_items c.loop-raw.raw-iterator))) _
    (ap (λ (rs : List (Spanned RawEntry)). up_to_fault g (map entry_view rs)) steps ∙ fault_read g (entry_view c.in-Some.raw) (map entry_view rest) refusal read) c.loop-raw.invariant.same)
