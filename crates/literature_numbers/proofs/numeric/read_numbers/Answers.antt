use Rattle.std.proofs.Common.{rules, sym, ◌∙◌, w32, FitsSigned, Ok}
use Rattle.std.proofs.lemmas.Int.{to_z-of_z}
use Rattle.std.proofs.lemmas.Result.{err_from_is_err_and}
use Rattle.texts.specs.Views.{left}
use Rattle.literature_numbers.proofs.NumbersSteps.{numbers_onto, numbers_onto-first, numbers_at-err, numbers_onto-some, numbers_onto-end, numbers_onto-err}
use Rattle.literature_numbers.proofs.NumbersShorter.{numbers_shorten}
use Rattle.literature_numbers.proofs.numeric.read_numbers.Goals as goal

pub returns-in_err-number : goal.returns-in_err-number
returns-in_err-number c =
    let p = err_from_is_err_and c.from_residual.result c.from_residual.ensures.1 in
    rw (p.1, p.2) (c.in_err-number.field-0.0, numbers_at-err (left c.args.reader.now) c.in_err-number.field-0.0 c.in_err-number.ensures)

pub loop-numbers-init : goal.loop-numbers-init
loop-numbers-init c =
    let f : FitsSigned w32 c.in_ok-number.number = search rules in
    (λ i. numbers_onto (c.new-numbers.ensures.items i) (to_z-of_z w32 c.in_ok-number.number f i) (left c.number.new.self))
    ∙ numbers_onto-first (left c.args.reader.now) (left c.number.new.self) c.in_ok-number.number c.in_ok-number.ensures

pub returns-in_err-delimiter : goal.returns-in_err-delimiter
returns-in_err-delimiter c =
    let p = err_from_is_err_and c.from_residual-in_err-delimiter.result c.from_residual-in_err-delimiter.ensures.1 in
    rw (p.1, p.2) (c.in_err-delimiter.field-0.0, sym c.loop-numbers.invariant ∙ numbers_onto-err c.loop-numbers.numbers.items _ (left c.loop-numbers.reader) c.in_err-delimiter.field-0.0 c.in_err-delimiter.ensures)

pub loop-numbers-smaller : goal.loop-numbers-smaller
loop-numbers-smaller c =
    let e = rw c.in-Some.is at c.in_ok-delimiter.ensures in
    numbers_shorten (left c.loop-numbers.reader) (left c.next_number.new.reader) (c.in-Some.delimiter, c.in-Some.next) e

pub loop-numbers-preserved : goal.loop-numbers-preserved
loop-numbers-preserved c =
    let f : FitsSigned w32 c.in-Some.next = search rules in
    let e = rw c.in-Some.is at c.in_ok-delimiter.ensures in
    (λ i. numbers_onto (c.in_ok-push.ensures.items i) (to_z-of_z w32 c.in-Some.next f i) (left c.next_number.new.reader))
    ∙ sym (numbers_onto-some c.loop-numbers.numbers.items _ c.in-Some.next c.in-Some.delimiter (left c.loop-numbers.reader) (left c.next_number.new.reader) e)
    ∙ c.loop-numbers.invariant

pub returns : goal.returns
returns c =
    let e = rw c.in_default.is at c.in_ok-delimiter.ensures in
    sym c.loop-numbers.invariant ∙ numbers_onto-end c.loop-numbers.numbers.items _ (left c.loop-numbers.reader) (left c.next_number.new.reader) e
    ∙ (λ i. Ok (sym c.in_ok-push-2.ensures.items i, left c.next_number.new.reader))
