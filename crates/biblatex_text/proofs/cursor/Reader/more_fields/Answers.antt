use Rattle.std.proofs.Common.{◌≡◌, length, sym, subst, arith, ◌∙◌}
use Rattle.std.specs.Prelude.{Some, None, Ok}
use Rattle.std.proofs.lemmas.List.{map_push}
use Rattle.std.proofs.lemmas.List.Elements.{All-push}
use Rattle.std.proofs.lemmas.Result.{err_from_is_err_and}
use Rattle.biblatex_text.specs.Fields.{next_field_at}
use Rattle.biblatex_text.specs.Span.{IsPairOf}
use Rattle.biblatex_text.specs.Views.{left, size, field_view, fields_view, Stops}
use Rattle.biblatex_text.proofs.ReadingShorter.{fields_shorten}
use Rattle.biblatex_text.proofs.FieldsRepeats.{prepended-some, prepended-none, prepended-stops}
use Rattle.biblatex_text.proofs.cursor.Reader.more_fields.Goals as goal

pub returns-in_err-pair-clause-reads : goal.returns-in_err-pair-clause-reads
returns-in_err-pair-clause-reads c =
    let p = err_from_is_err_and c.from_residual.result c.from_residual.ensures.1 in
    let is = subst (λ s. Stops c.in_err-pair.field-0.0 (left c.next_field.new.self) (next_field_at (length s) c.args.bracket (left c.loop-pairs.self))) c.loop-pairs.invariant.source c.in_err-pair.ensures.reads in
    rw (p.1, p.2, ← c.loop-pairs.invariant.reads) (prepended-stops (next_field_at (size c.args.self.now) c.args.bracket) (fields_view c.loop-pairs.pairs) (left c.loop-pairs.self) (left c.next_field.new.self) c.in_err-pair.field-0.0 is)

pub loop-pairs-smaller : goal.loop-pairs-smaller
loop-pairs-smaller c =
    let e = rw c.in-Some.is at c.in_ok-pair.ensures.reads in
    fields_shorten (size c.loop-pairs.self) c.args.bracket (left c.loop-pairs.self) (left c.next_field.new.self) (field_view c.in-Some.pair) e

pub loop-pairs-preserved : goal.loop-pairs-preserved
loop-pairs-preserved c =
    let inv = c.loop-pairs.invariant in
    let source = c.args.self.now.source.now in
    let e = rw c.in-Some.is at c.in_ok-pair.ensures.reads in
    let given = subst (λ s. next_field_at (length s) c.args.bracket (left c.loop-pairs.self) ≡ Ok (Some (field_view c.in-Some.pair), left c.next_field.new.self)) inv.source e in
    let here = rw c.in-Some.is at c.in_ok-pair.ensures.slice in
    let items = c.loop-pairs.pairs.items in
    record {
      source = c.next_field.ensures.on.0 ∙ inv.source;
      on = omega (arith, c.next_field.ensures.on.1, inv.on);
      slices = λ before. rw c.in_ok-push.ensures.items (All-push (IsPairOf source) items c.in-Some.pair (inv.slices before) (subst (λ s. IsPairOf s c.in-Some.pair) inv.source here));
      reads = rw (c.in_ok-push.ensures.items, map_push field_view items c.in-Some.pair) (sym (prepended-some (next_field_at (length source) c.args.bracket) (fields_shorten (length source) c.args.bracket) (fields_view c.loop-pairs.pairs) (left c.loop-pairs.self) (left c.next_field.new.self) (field_view c.in-Some.pair) given) ∙ inv.reads);
    }

pub returns-clause-reads : goal.returns-clause-reads
returns-clause-reads c =
    let e = rw c.in_default.is at c.in_ok-pair.ensures.reads in
    let given = subst (λ s. next_field_at (length s) c.args.bracket (left c.loop-pairs.self) ≡ Ok (None, left c.next_field.new.self)) c.loop-pairs.invariant.source e in
    sym c.loop-pairs.invariant.reads ∙ prepended-none (next_field_at (size c.args.self.now) c.args.bracket) (fields_view c.loop-pairs.pairs) (left c.loop-pairs.self) (left c.next_field.new.self) given
