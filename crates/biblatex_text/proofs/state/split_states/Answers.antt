use Rattle.std.proofs.Common.{◌≡◌, ◌≤◌, ◌+◌, Some, None, length, take, drop, sym, ap, arith, encode_utf8}
use Rattle.std.specs.Str.Iter.{char_indices_rest, char_indices_offset}
use Rattle.std.proofs.lemmas.Str.{length-encode, len_utf8_bounds}
use Rattle.std.proofs.lemmas.List.{length-append}
use Rattle.biblatex_text.specs.Run.{next, depth_of}
use Rattle.biblatex_text.proofs.RunCut.{CutsRun, runs_none, runs_more, stops_before, stops_at_end}
use Rattle.biblatex_text.proofs.state.split_states.Goals as goal

pub loop-i-init : goal.loop-i-init
loop-i-init g c =
    rw (c.into_iter-i-iterator.ensures.into_iter_gives, c.char_indices-i-items.ensures.rest, c.char_indices-i-items.ensures.offset) (runs_none (g.S.RunState.run c.args.start) c.args.text.now c.requires c.utf8.text)

pub next-requires-in-loop-i : goal.next-requires-in-loop-i
next-requires-in-loop-i g c =
    let s = c.in-Some.ensures.steps in
    let r = c.loop-i.invariant in
    omega (arith, r.depth, r.long, s.0, ap length s.1, ap length r.parts, length-append r.prefix_text (char_indices_rest c.loop-i.i-iterator), length-append (encode_utf8 c.in-Some.c) (char_indices_rest c.next.new.self), length-encode c.in-Some.c, (len_utf8_bounds c.in-Some.c).0, c.byte_len-end.ensures.bytes, c.byte_len-end.ensures.fits)

pub loop-i-preserved : goal.loop-i-preserved
loop-i-preserved g c =
    let s = c.in-Some.ensures.steps in
    let goes : next (g.S.RunState.run c.loop-i.state) c.in-Some.c ≡ Some (g.S.RunState.run c.in-Some-next.more) = sym c.in-Some-next.ensures.value in
    let deep : depth_of (g.S.RunState.run c.in-Some-next.more) ≤ char_indices_offset c.loop-i.i-iterator + length (encode_utf8 c.in-Some.c) = omega (arith, c.loop-i.invariant.depth, c.in-Some-next.ensures.grows, length-encode c.in-Some.c, (len_utf8_bounds c.in-Some.c).0) in
    rw s.2 (runs_more (g.S.RunState.run c.args.start) (g.S.RunState.run c.loop-i.state) (g.S.RunState.run c.in-Some-next.more) c.args.text.now _ _ _ c.in-Some.c c.loop-i.invariant s.1 goes deep)

pub returns-in-None-next-clause-prefix : goal.returns-in-None-next-clause-prefix
returns-in-None-next-clause-prefix g c =
    let s = c.in-Some.ensures.steps in
    let ends : next (g.S.RunState.run c.loop-i.state) c.in-Some.c ≡ None = sym c.in-None-next.ensures.value in
    let cut : CutsRun (g.S.RunState.run c.args.start) c.args.text.now (take c.in-Some.i c.args.text.now) (drop c.in-Some.i c.args.text.now) = rw s.0 (stops_before (g.S.RunState.run c.args.start) (g.S.RunState.run c.loop-i.state) c.args.text.now _ _ _ c.in-Some.c c.loop-i.invariant s.1 ends) in
    rw c.split_at.ensures.front cut.prefix_is

pub returns-in-None-next-clause-rest : goal.returns-in-None-next-clause-rest
returns-in-None-next-clause-rest g c =
    let s = c.in-Some.ensures.steps in
    let ends : next (g.S.RunState.run c.loop-i.state) c.in-Some.c ≡ None = sym c.in-None-next.ensures.value in
    let cut : CutsRun (g.S.RunState.run c.args.start) c.args.text.now (take c.in-Some.i c.args.text.now) (drop c.in-Some.i c.args.text.now) = rw s.0 (stops_before (g.S.RunState.run c.args.start) (g.S.RunState.run c.loop-i.state) c.args.text.now _ _ _ c.in-Some.c c.loop-i.invariant s.1 ends) in
    rw c.split_at.ensures.back cut.back_is

pub returns-in-None-next-clause-utf8 : goal.returns-in-None-next-clause-utf8
returns-in-None-next-clause-utf8 g c =
    let s = c.in-Some.ensures.steps in
    let ends : next (g.S.RunState.run c.loop-i.state) c.in-Some.c ≡ None = sym c.in-None-next.ensures.value in
    let cut : CutsRun (g.S.RunState.run c.args.start) c.args.text.now (take c.in-Some.i c.args.text.now) (drop c.in-Some.i c.args.text.now) = rw s.0 (stops_before (g.S.RunState.run c.args.start) (g.S.RunState.run c.loop-i.state) c.args.text.now _ _ _ c.in-Some.c c.loop-i.invariant s.1 ends) in
    rw c.split_at.ensures.back cut.utf8

pub returns-clause-prefix : goal.returns-clause-prefix
returns-clause-prefix g c =
    let cut : CutsRun (g.S.RunState.run c.args.start) c.args.text.now (take c.byte_len-end.result c.args.text.now) (drop c.byte_len-end.result c.args.text.now) = rw c.byte_len-end.ensures.bytes (stops_at_end (g.S.RunState.run c.args.start) (g.S.RunState.run c.loop-i.state) c.args.text.now _ _ c.loop-i.invariant c.in-None.ensures.steps.0) in
    rw c.split_at-2.ensures.front cut.prefix_is

pub returns-clause-rest : goal.returns-clause-rest
returns-clause-rest g c =
    let cut : CutsRun (g.S.RunState.run c.args.start) c.args.text.now (take c.byte_len-end.result c.args.text.now) (drop c.byte_len-end.result c.args.text.now) = rw c.byte_len-end.ensures.bytes (stops_at_end (g.S.RunState.run c.args.start) (g.S.RunState.run c.loop-i.state) c.args.text.now _ _ c.loop-i.invariant c.in-None.ensures.steps.0) in
    rw c.split_at-2.ensures.back cut.back_is

pub returns-clause-utf8 : goal.returns-clause-utf8
returns-clause-utf8 g c =
    let cut : CutsRun (g.S.RunState.run c.args.start) c.args.text.now (take c.byte_len-end.result c.args.text.now) (drop c.byte_len-end.result c.args.text.now) = rw c.byte_len-end.ensures.bytes (stops_at_end (g.S.RunState.run c.args.start) (g.S.RunState.run c.loop-i.state) c.args.text.now _ _ c.loop-i.invariant c.in-None.ensures.steps.0) in
    rw c.split_at-2.ensures.back cut.utf8
