use Rattle.std.proofs.Common.{◌≡◌, true, false, length, take, drop, sym, ◌∙◌}
use Rattle.laws.proofs.Cut.{CutsRun, runs_none, runs_more, stops_before, stops_at_end}
use Rattle.texts.proofs.character.split_run.Goals as goal

pub loop-i-init : goal.loop-i-init
loop-i-init g c =
    rw (c.into_iter-i-iterator.ensures.into_iter_gives, c.char_indices-i-items.ensures.rest, c.char_indices-i-items.ensures.offset) (runs_none (g.C.CharacterClass.passes c.args.class) c.args.text.now c.utf8.text)

pub loop-i-preserved : goal.loop-i-preserved
loop-i-preserved g c =
    let s = c.in-Some.ensures.steps in
    let t : g.C.CharacterClass.passes c.args.class c.in-Some.c ≡ true = sym c.contains.ensures ∙ c.if-not-contains.false in
    rw s.2 (runs_more (g.C.CharacterClass.passes c.args.class) c.args.text.now _ _ _ c.in-Some.c c.loop-i.invariant s.1 t)

pub returns-then-not-contains-clause-prefix : goal.returns-then-not-contains-clause-prefix
returns-then-not-contains-clause-prefix g c =
    let s = c.in-Some.ensures.steps in
    let fails : g.C.CharacterClass.passes c.args.class c.in-Some.c ≡ false = sym c.contains.ensures ∙ c.if-not-contains.true in
    let cut : CutsRun (g.C.CharacterClass.passes c.args.class) c.args.text.now (take c.in-Some.i c.args.text.now) (drop c.in-Some.i c.args.text.now) = rw s.0 (stops_before (g.C.CharacterClass.passes c.args.class) c.args.text.now _ _ _ c.in-Some.c c.loop-i.invariant s.1 fails) in
    rw c.split_at.ensures.front cut.prefix_is

pub returns-then-not-contains-clause-rest : goal.returns-then-not-contains-clause-rest
returns-then-not-contains-clause-rest g c =
    let s = c.in-Some.ensures.steps in
    let fails : g.C.CharacterClass.passes c.args.class c.in-Some.c ≡ false = sym c.contains.ensures ∙ c.if-not-contains.true in
    let cut : CutsRun (g.C.CharacterClass.passes c.args.class) c.args.text.now (take c.in-Some.i c.args.text.now) (drop c.in-Some.i c.args.text.now) = rw s.0 (stops_before (g.C.CharacterClass.passes c.args.class) c.args.text.now _ _ _ c.in-Some.c c.loop-i.invariant s.1 fails) in
    rw c.split_at.ensures.back cut.back_is

pub returns-clause-prefix : goal.returns-clause-prefix
returns-clause-prefix g c =
    let cut : CutsRun (g.C.CharacterClass.passes c.args.class) c.args.text.now (take (length c.args.text.now) c.args.text.now) (drop (length c.args.text.now) c.args.text.now) = stops_at_end (g.C.CharacterClass.passes c.args.class) c.args.text.now _ _ c.loop-i.invariant c.in-None.ensures.steps.0 in
    rw c.split_at-2.ensures.front cut.prefix_is

pub returns-clause-rest : goal.returns-clause-rest
returns-clause-rest g c =
    let cut : CutsRun (g.C.CharacterClass.passes c.args.class) c.args.text.now (take (length c.args.text.now) c.args.text.now) (drop (length c.args.text.now) c.args.text.now) = stops_at_end (g.C.CharacterClass.passes c.args.class) c.args.text.now _ _ c.loop-i.invariant c.in-None.ensures.steps.0 in
    rw c.split_at-2.ensures.back cut.back_is
