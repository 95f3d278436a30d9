use Rattle.std.proofs.Common.{◌≡◌, length, sym, subst, ap, arith, ◌∙◌}
use Rattle.std.specs.Prelude.{Some, None, Ok}
use Rattle.std.proofs.lemmas.Result.{err_from_is_err_and}
use Rattle.laws.specs.Steps.{each}
use Rattle.biblatex_text.specs.Raw.{Raw, with_item}
use Rattle.biblatex_text.specs.Items.{next_item_at}
use Rattle.biblatex_text.specs.Span.{IsSpannedItemOf}
use Rattle.biblatex_text.specs.Views.{left, size, item_view, raw_view, Stops}
use Rattle.biblatex_text.proofs.ReadingShorter.{items_shorten}
use Rattle.biblatex_text.proofs.RawGathered.{onto, onto-some, onto-none, onto-stops}
use Rattle.biblatex_text.proofs.cursor.Reader.all.Goals as goal

pub returns-in_err-item-clause-reads : goal.returns-in_err-item-clause-reads
returns-in_err-item-clause-reads c =
    let p = err_from_is_err_and c.from_residual.result c.from_residual.ensures.1 in
    let is = subst (λ s. Stops c.in_err-item.field-0.0 (left c.next_item.new.self) (next_item_at (length s) (left c.loop-found.self))) c.loop-found.invariant.source c.in_err-item.ensures.reads in
    rw (p.1, p.2, ← c.loop-found.invariant.reads) (onto-stops (size c.args.self.now) (raw_view c.loop-found.found) (left c.loop-found.self) (left c.next_item.new.self) c.in_err-item.field-0.0 is)

pub loop-found-smaller : goal.loop-found-smaller
loop-found-smaller c =
    let e = rw c.in-Some.is at c.in_ok-item.ensures.reads in
    items_shorten (size c.loop-found.self) (left c.loop-found.self) (left c.next_item.new.self) (item_view c.in-Some.item) e

pub loop-found-preserved : goal.loop-found-preserved
loop-found-preserved c =
    let inv = c.loop-found.invariant in
    let source = c.args.self.now.source.now in
    let e = rw c.in-Some.is at c.in_ok-item.ensures.reads in
    let given = subst (λ s. next_item_at (length s) (left c.loop-found.self) ≡ Ok (Some (item_view c.in-Some.item), left c.next_item.new.self)) inv.source e in
    let here = rw c.in-Some.is at c.in_ok-item.ensures.slice in
    let added : raw_view c.add.new.self ≡ with_item (raw_view c.loop-found.found) (item_view c.in-Some.item) = c.in_ok-add.ensures.value in
    record {
      source = c.next_item.ensures.on.0 ∙ inv.source;
      on = omega (arith, c.next_item.ensures.on.1, inv.on);
      slices = c.in_ok-add.ensures.slice source inv.slices (subst (λ s. IsSpannedItemOf s c.in-Some.item) inv.source here);
      reads = ap (λ (r : Raw). onto r (each (next_item_at (length source)) (left c.next_item.new.self))) added ∙ (sym (onto-some (length source) (raw_view c.loop-found.found) (left c.loop-found.self) (left c.next_item.new.self) (item_view c.in-Some.item) given) ∙ inv.reads);
    }

pub returns-clause-reads : goal.returns-clause-reads
returns-clause-reads c =
    let e = rw c.in_default.is at c.in_ok-item.ensures.reads in
    let given = subst (λ s. next_item_at (length s) (left c.loop-found.self) ≡ Ok (None, left c.next_item.new.self)) c.loop-found.invariant.source e in
    sym c.loop-found.invariant.reads ∙ onto-none (size c.args.self.now) (raw_view c.loop-found.found) (left c.loop-found.self) (left c.next_item.new.self) given
