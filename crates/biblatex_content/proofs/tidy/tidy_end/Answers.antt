use Rattle.std.proofs.Common.{◌≡◌, true, false, sym, ◌∙◌}
use Rattle.biblatex_tex.specs.Character.{is_blank}
use Rattle.biblatex_content.proofs.TidyPrefixes.{none_passed, other_passed, space_passed, ends_before, passed_as}
use Rattle.biblatex_content.proofs.tidy.tidy_end.Goals as goal

pub loop-i-init : goal.loop-i-init
loop-i-init c =
    rw (c.into_iter-i-iterator.ensures.into_iter_gives, c.char_indices-i-items.ensures.rest, c.char_indices-i-items.ensures.offset) (none_passed c.args.text.now c.utf8.text)

pub loop-i-preserved-then-not-is_blank : goal.loop-i-preserved-then-not-is_blank
loop-i-preserved-then-not-is_blank c =
    let s = c.in-Some.ensures.steps in
    let other : is_blank c.in-Some.c ≡ false = sym c.is_blank.ensures ∙ c.if-not-is_blank.true in
    rw s.2 (other_passed _ c.args.text.now _ _ c.loop-i.end _ c.in-Some.c c.loop-i.invariant s.1 other)

pub returns-then-is_after_space : goal.returns-then-is_after_space
returns-then-is_after_space c = ends_before c.args.text.now _ _ _ (passed_as _ true _ _ _ _ c.if-is_after_space.true c.loop-i.invariant)

pub loop-i-preserved : goal.loop-i-preserved
loop-i-preserved c =
    let s = c.in-Some.ensures.steps in
    rw (s.2, s.0) (space_passed c.args.text.now _ _ c.loop-i.end _ c.in-Some.c (passed_as _ false _ _ _ _ c.if-is_after_space.false c.loop-i.invariant) s.1 c.if-c-ne32.false)

pub returns-then-is_after_space-2 : goal.returns-then-is_after_space-2
returns-then-is_after_space-2 c = ends_before c.args.text.now _ _ _ (passed_as _ true _ _ _ _ c.if-is_after_space-2.true c.loop-i.invariant)
