use Rattle.std.proofs.Common.{◌≡◌, true, false, length, take, drop, sym, ◌∙◌}
use Rattle.std.specs.Str.{chars}
use Rattle.xml_text.specs.Markup.{is_end}
use Rattle.xml_text.proofs.Endings.{CutsEnd, reaches_none, reaches_more, reaches_plain, stops_before, stops_at_end}
use Rattle.xml_text.proofs.ending.split_ending.Goals as goal

pub loop-i-init : goal.loop-i-init
loop-i-init c =
    rw (c.into_iter-i-iterator.ensures.into_iter_gives, c.char_indices-i-items.ensures.rest, c.char_indices-i-items.ensures.offset) (reaches_none c.args.ending c.args.text.now c.utf8.text)

pub loop-i-preserved : goal.loop-i-preserved
loop-i-preserved c =
    let s = c.in-Some.ensures.steps in
    rw s.2 (reaches_plain c.args.ending c.args.text.now _ _ _ c.in-Some.c c.loop-i.invariant s.1 (sym c.may_end.ensures ∙ c.if-may_end.false))

pub loop-i-preserved-else-is_end : goal.loop-i-preserved-else-is_end
loop-i-preserved-else-is_end c =
    let s = c.in-Some.ensures.steps in
    let t : is_end c.args.ending (chars (drop c.in-Some.i c.args.text.now)) ≡ false = rw c.split_at.ensures.back at (sym c.is_end.ensures ∙ c.if-is_end.false) in
    let u = rw s.0 at t in
    rw s.2 (reaches_more c.args.ending c.args.text.now _ _ _ c.in-Some.c c.loop-i.invariant s.1 u)

pub returns-then-is_end-clause-prefix : goal.returns-then-is_end-clause-prefix
returns-then-is_end-clause-prefix c =
    let s = c.in-Some.ensures.steps in
    let t : is_end c.args.ending (chars (drop c.in-Some.i c.args.text.now)) ≡ true = rw c.split_at.ensures.back at (sym c.is_end.ensures ∙ c.if-is_end.true) in
    let u = rw s.0 at t in
    let cut : CutsEnd c.args.ending c.args.text.now (take c.in-Some.i c.args.text.now) (drop c.in-Some.i c.args.text.now) = rw s.0 (stops_before c.args.ending c.args.text.now _ _ c.loop-i.invariant u) in
    rw c.split_at.ensures.front cut.prefix_is

pub returns-then-is_end-clause-rest : goal.returns-then-is_end-clause-rest
returns-then-is_end-clause-rest c =
    let s = c.in-Some.ensures.steps in
    let t : is_end c.args.ending (chars (drop c.in-Some.i c.args.text.now)) ≡ true = rw c.split_at.ensures.back at (sym c.is_end.ensures ∙ c.if-is_end.true) in
    let u = rw s.0 at t in
    let cut : CutsEnd c.args.ending c.args.text.now (take c.in-Some.i c.args.text.now) (drop c.in-Some.i c.args.text.now) = rw s.0 (stops_before c.args.ending c.args.text.now _ _ c.loop-i.invariant u) in
    rw c.split_at.ensures.back cut.back_is

pub returns-clause-prefix : goal.returns-clause-prefix
returns-clause-prefix c =
    let cut : CutsEnd c.args.ending c.args.text.now (take (length c.args.text.now) c.args.text.now) (drop (length c.args.text.now) c.args.text.now) = stops_at_end c.args.ending c.args.text.now _ _ c.loop-i.invariant c.in-None.ensures.steps.0 in
    rw c.split_at-2.ensures.front cut.prefix_is

pub returns-clause-rest : goal.returns-clause-rest
returns-clause-rest c =
    let cut : CutsEnd c.args.ending c.args.text.now (take (length c.args.text.now) c.args.text.now) (drop (length c.args.text.now) c.args.text.now) = stops_at_end c.args.ending c.args.text.now _ _ c.loop-i.invariant c.in-None.ensures.steps.0 in
    rw c.split_at-2.ensures.back cut.back_is
