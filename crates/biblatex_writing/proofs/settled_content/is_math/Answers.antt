use Rattle.std.proofs.Common.{◌≡◌, ℕ, List, [], sym, ap, ◌∙◌, arith}
use Rattle.std.specs.Str.{chars}
use Rattle.std.specs.Str.Iter.{chars_rest}
use Rattle.std.proofs.lemmas.Str.{chars-nil}
use Rattle.std.proofs.lemmas.List.{nil_from_length}
use Rattle.laws.proofs.Text.{next_char}
use Rattle.biblatex_writing.specs.Rules.{is_math_at}
use Rattle.biblatex_writing.proofs.MathRoom.{shorter}
use Rattle.biblatex_writing.proofs.settled_content.is_math.Goals as goal

pub after-requires : goal.after-requires
after-requires c = omega (arith, shorter _ _ c.in-Some.c c.in-Some.ensures.steps.0, c.loop-c.invariant.room)

pub loop-c-preserved : goal.loop-c-preserved
loop-c-preserved c =
    let n = next_char _ _ c.in-Some.c c.loop-c.invariant.utf8 c.in-Some.ensures.steps.0 in
    record {
      same = sym (c.in-Some-after.ensures.next (chars (chars_rest c.next.new.self))) ∙ (ap (λ (x : List ℕ). is_math_at c.loop-c.read x) (sym n.chars_are) ∙ c.loop-c.invariant.same);
      room = omega (arith, shorter _ _ c.in-Some.c c.in-Some.ensures.steps.0, c.loop-c.invariant.room, c.in-Some-after.ensures.depth);
      utf8 = n.utf8;
    }

pub returns-in-None-after : goal.returns-in-None-after
returns-in-None-after c =
    let n = next_char _ _ c.in-Some.c c.loop-c.invariant.utf8 c.in-Some.ensures.steps.0 in
    sym (c.in-None-after.ensures.next (chars (chars_rest c.next.new.self))) ∙ (ap (λ (x : List ℕ). is_math_at c.loop-c.read x) (sym n.chars_are) ∙ c.loop-c.invariant.same)

pub returns : goal.returns
returns c =
    let empty : chars_rest c.loop-c.c-iterator ≡ [] = nil_from_length _ c.in-None.ensures.steps.0.0 in
    let nothing : chars (chars_rest c.loop-c.c-iterator) ≡ [] = ap chars empty ∙ chars-nil in
    c.is_closed.ensures ∙ (ap (λ (x : List ℕ). is_math_at c.loop-c.read x) (sym nothing) ∙ c.loop-c.invariant.same)
