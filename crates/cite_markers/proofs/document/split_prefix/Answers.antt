use Rattle.std.proofs.Common.{◌≡◌, ◌&&◌, true, false, length, take, drop, sym, ◌∙◌, ltb}
use Rattle.std.specs.Str.{chars}
use Rattle.cite_markers.specs.Document.{is_opening_or_escape}
use Rattle.cite_markers.proofs.Prefixes.{CutsPrefix, prefixes_none, prefixes_more, prefixes_plain, stops_before, stops_at_end}
use Rattle.cite_markers.proofs.document.split_prefix.Goals as goal

pub loop-i-init : goal.loop-i-init
loop-i-init c =
    rw (c.into_iter-i-iterator.ensures.into_iter_gives, c.char_indices-i-items.ensures.rest, c.char_indices-i-items.ensures.offset) (prefixes_none c.args.text.now c.utf8.text)

pub loop-i-preserved : goal.loop-i-preserved
loop-i-preserved c =
    let s = c.in-Some.ensures.steps in
    rw s.2 (prefixes_plain c.args.text.now _ _ _ c.in-Some.c c.loop-i.invariant s.1 (sym c.may_begin_opening_or_escape.ensures ∙ c.if-may_begin_opening_or_escape.false))

pub loop-i-preserved-else-ends_prefix : goal.loop-i-preserved-else-ends_prefix
loop-i-preserved-else-ends_prefix c =
    let s = c.in-Some.ensures.steps in
    let t : ltb 0 c.in-Some.i && is_opening_or_escape (chars (drop c.in-Some.i c.args.text.now)) ≡ false = rw c.split_at.ensures.back at (sym c.ends_prefix.ensures ∙ c.if-ends_prefix.false) in
    let u = rw s.0 at t in
    rw s.2 (prefixes_more c.args.text.now _ _ _ c.in-Some.c c.loop-i.invariant s.1 u)

pub returns-then-ends_prefix-clause-prefix : goal.returns-then-ends_prefix-clause-prefix
returns-then-ends_prefix-clause-prefix c =
    let s = c.in-Some.ensures.steps in
    let t : ltb 0 c.in-Some.i && is_opening_or_escape (chars (drop c.in-Some.i c.args.text.now)) ≡ true = rw c.split_at.ensures.back at (sym c.ends_prefix.ensures ∙ c.if-ends_prefix.true) in
    let u = rw s.0 at t in
    let cut : CutsPrefix c.args.text.now (take c.in-Some.i c.args.text.now) (drop c.in-Some.i c.args.text.now) = rw s.0 (stops_before c.args.text.now _ _ c.loop-i.invariant u) in
    rw c.split_at.ensures.front cut.prefix_is

pub returns-then-ends_prefix-clause-rest : goal.returns-then-ends_prefix-clause-rest
returns-then-ends_prefix-clause-rest c =
    let s = c.in-Some.ensures.steps in
    let t : ltb 0 c.in-Some.i && is_opening_or_escape (chars (drop c.in-Some.i c.args.text.now)) ≡ true = rw c.split_at.ensures.back at (sym c.ends_prefix.ensures ∙ c.if-ends_prefix.true) in
    let u = rw s.0 at t in
    let cut : CutsPrefix c.args.text.now (take c.in-Some.i c.args.text.now) (drop c.in-Some.i c.args.text.now) = rw s.0 (stops_before c.args.text.now _ _ c.loop-i.invariant u) in
    rw c.split_at.ensures.back cut.back_is

pub returns-clause-prefix : goal.returns-clause-prefix
returns-clause-prefix c =
    let cut : CutsPrefix c.args.text.now (take (length c.args.text.now) c.args.text.now) (drop (length c.args.text.now) c.args.text.now) = stops_at_end c.args.text.now _ _ c.loop-i.invariant c.in-None.ensures.steps.0 in
    rw c.split_at-2.ensures.front cut.prefix_is

pub returns-clause-rest : goal.returns-clause-rest
returns-clause-rest c =
    let cut : CutsPrefix c.args.text.now (take (length c.args.text.now) c.args.text.now) (drop (length c.args.text.now) c.args.text.now) = stops_at_end c.args.text.now _ _ c.loop-i.invariant c.in-None.ensures.steps.0 in
    rw c.split_at-2.ensures.back cut.back_is
