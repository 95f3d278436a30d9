use Rattle.std.proofs.Common.{◌≡◌, ℕ, List, [], ◌++◌, sym, ap, ◌∙◌}
use Rattle.std.specs.Str.{chars}
use Rattle.std.specs.Str.Iter.{chars_rest}
use Rattle.std.proofs.lemmas.Str.{chars-nil}
use Rattle.std.proofs.lemmas.List.{nil_from_length}
use Rattle.laws.proofs.Text.{next_char}
use Rattle.biblatex_content.specs.Styled.{letters}
use Rattle.laws.specs.Text.{characters}
use Rattle.biblatex_content.specs.Writing.{written_after}
use Rattle.biblatex_content.proofs.WritingPieces.{letter_more}
use Rattle.biblatex_content.proofs.writing.push_run.Goals as goal

pub loop-c-preserved : goal.loop-c-preserved
loop-c-preserved c =
    let n = next_char _ _ c.in-Some.c c.loop-c.invariant.utf8 c.in-Some.ensures.steps.0 in
    let rest = letters c.args.kind (chars (chars_rest c.next.new.self)) in
    record {
      same = λ ms.
          rw c.is_grouped-is_open.ensures
          (letter_more (characters c.loop-c.text) (characters c.turn.new.text) _ c.loop-c.is_open c.args.kind c.in-Some.c (rest ++ ms) c.in_ok-turn.ensures c.in_ok-push_ordinary_character.ensures
          ∙ (ap (λ (x : List ℕ). written_after c.loop-c.text c.loop-c.is_open (letters c.args.kind x ++ ms)) (sym n.chars_are) ∙ c.loop-c.invariant.same ms));
      utf8 = n.utf8;
    }

pub returns : goal.returns
returns c =
    let empty : chars_rest c.loop-c.c-iterator ≡ [] = nil_from_length _ c.in-None.ensures.steps.0.0 in
    let nothing : chars (chars_rest c.loop-c.c-iterator) ≡ [] = ap chars empty ∙ chars-nil in
    λ ms. ap (λ (x : List ℕ). written_after c.loop-c.text c.loop-c.is_open (letters c.args.kind x ++ ms)) (sym nothing) ∙ c.loop-c.invariant.same ms
