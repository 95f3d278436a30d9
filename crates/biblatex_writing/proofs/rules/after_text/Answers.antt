use Rattle.std.proofs.Common.{◌≡◌, ℕ, List, [], ◌++◌, sym, ap, ◌∙◌}
use Rattle.std.specs.Str.{chars}
use Rattle.std.specs.Str.Iter.{chars_rest}
use Rattle.std.proofs.lemmas.Str.{chars-nil}
use Rattle.std.proofs.lemmas.List.{nil_from_length}
use Rattle.laws.proofs.Text.{next_char}
use Rattle.biblatex_content.specs.Styled.{letters}
use Rattle.biblatex_writing.proofs.rules.after_text.Goals as goal

pub loop-c-preserved : goal.loop-c-preserved
loop-c-preserved g c =
    let n = next_char _ _ c.in-Some.c c.loop-c.invariant.utf8 c.in-Some.ensures.steps.0 in
    let rest = letters c.args.kind (chars (chars_rest c.next.new.self)) in
    record {
      same = λ ms.
          sym (c.in-Some-after_character.ensures (rest ++ ms))
          ∙ (ap (λ (x : List ℕ). g.R.Rule.holds c.loop-c.rule (letters c.args.kind x ++ ms)) (sym n.chars_are) ∙ c.loop-c.invariant.same ms);
      utf8 = n.utf8;
    }

pub returns-in-None-after_character : goal.returns-in-None-after_character
returns-in-None-after_character g c = λ ms.
    let n = next_char _ _ c.in-Some.c c.loop-c.invariant.utf8 c.in-Some.ensures.steps.0 in
    let rest = letters c.args.kind (chars (chars_rest c.next.new.self)) in
    sym (c.loop-c.invariant.same ms)
    ∙ (ap (λ (x : List ℕ). g.R.Rule.holds c.loop-c.rule (letters c.args.kind x ++ ms)) n.chars_are ∙ c.in-None-after_character.ensures (rest ++ ms))

pub returns : goal.returns
returns g c = λ ms.
    let empty : chars_rest c.loop-c.c-iterator ≡ [] = nil_from_length _ c.in-None.ensures.steps.0.0 in
    let nothing : chars (chars_rest c.loop-c.c-iterator) ≡ [] = ap chars empty ∙ chars-nil in
    sym (c.loop-c.invariant.same ms) ∙ ap (λ (x : List ℕ). g.R.Rule.holds c.loop-c.rule (letters c.args.kind x ++ ms)) nothing
