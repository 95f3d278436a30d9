use Rattle.std.proofs.Common.{sym, ap, ◌∙◌, ◌++◌, ◌∷◌, [], List, ℕ, Ok, append-nil}
use Rattle.std.proofs.lemmas.Result.{err_from_is_err_and}
use Rattle.std.specs.declared.ops.Range.{Range}
use Rattle.texts.specs.Views.{left}
use Rattle.biblatex_values.proofs.PagesRanges.{ranges_onto, ranges_onto-first, ranges_at-err, ranges_onto-some, ranges_onto-end, ranges_onto-err, ranges_shorten}
use Rattle.biblatex_values.proofs.pages.read_all.Goals as goal

pub returns-in_err-first : goal.returns-in_err-first
returns-in_err-first c =
    let p = err_from_is_err_and c.from_residual.result c.from_residual.ensures.1 in
    rw (p.1, p.2) (c.in_err-first.field-0.0, ranges_at-err (left c.args.reader.now) c.in_err-first.field-0.0 c.in_err-first.ensures)

pub loop-ranges-init : goal.loop-ranges-init
loop-ranges-init c =
    ap (λ (rs : List (Range ℕ)). ranges_onto rs (left c.read_one.new.reader)) (c.in_ok-push.ensures.items ∙ ap (λ (rs : List (Range ℕ)). rs ++ c.in_ok-first.first ∷ []) c.new-ranges.ensures.items)
    ∙ ranges_onto-first (left c.args.reader.now) (left c.read_one.new.reader) c.in_ok-first.first c.in_ok-first.ensures

pub returns-in_err-range : goal.returns-in_err-range
returns-in_err-range c =
    let p = err_from_is_err_and c.from_residual-in_err-range.result c.from_residual-in_err-range.ensures.1 in
    rw (p.1, p.2) (c.in_err-range.field-0.0, sym c.loop-ranges.invariant ∙ ranges_onto-err c.loop-ranges.ranges.items (left c.loop-ranges.reader) c.in_err-range.field-0.0 c.in_err-range.ensures)

pub loop-ranges-smaller : goal.loop-ranges-smaller
loop-ranges-smaller c =
    let e = rw c.in-Some.is at c.in_ok-range.ensures in
    ranges_shorten (left c.loop-ranges.reader) (left c.next_range.new.reader) c.in-Some.range e

pub loop-ranges-preserved : goal.loop-ranges-preserved
loop-ranges-preserved c =
    let e = rw c.in-Some.is at c.in_ok-range.ensures in
    ap (λ (rs : List (Range ℕ)). ranges_onto rs (left c.next_range.new.reader)) c.in_ok-push-2.ensures.items
    ∙ sym (ranges_onto-some c.loop-ranges.ranges.items c.in-Some.range (left c.loop-ranges.reader) (left c.next_range.new.reader) e)
    ∙ c.loop-ranges.invariant

pub returns : goal.returns
returns c =
    let e = rw c.in_default.is at c.in_ok-range.ensures in
    sym c.loop-ranges.invariant ∙ ranges_onto-end c.loop-ranges.ranges.items (left c.loop-ranges.reader) (left c.next_range.new.reader) e
    ∙ (λ i. Ok (append-nil c.loop-ranges.ranges.items i, left c.next_range.new.reader))
