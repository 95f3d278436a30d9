use Rattle.std.proofs.Common.{◌≡◌, ℕ, List, [], ◌++◌, sym, ap, ◌∙◌, append_assoc}
use Rattle.std.specs.List.{flat_map}
use Rattle.std.specs.Str.{chars}
use Rattle.std.specs.Str.Iter.{chars_rest}
use Rattle.std.proofs.lemmas.Str.{chars-nil}
use Rattle.std.proofs.lemmas.List.{append-nil, nil_from_length}
use Rattle.laws.proofs.Text.{next_char}
use Rattle.laws.specs.Text.{characters}
use Rattle.biblatex_content.specs.Writing.{written_as_is}
use Rattle.biblatex_content.proofs.writing.push_as_is.Goals as goal

pub loop-c-preserved : goal.loop-c-preserved
loop-c-preserved c =
    let n = next_char _ _ c.in-Some.c c.loop-c.invariant.utf8 c.in-Some.ensures.steps.0 in
    let old = characters c.loop-c.text in
    record {
      same =
          rw (c.in_ok-push_escaped.ensures, c.is_escapable.ensures)
          (append_assoc old (written_as_is c.in-Some.c) (flat_map written_as_is (chars (chars_rest c.next.new.self)))
          ∙ (ap (λ (x : List ℕ). old ++ flat_map written_as_is x) (sym n.chars_are) ∙ c.loop-c.invariant.same));
      utf8 = n.utf8;
    }

pub returns : goal.returns
returns c =
    let empty : chars_rest c.loop-c.c-iterator ≡ [] = nil_from_length _ c.in-None.ensures.steps.0.0 in
    let nothing : chars (chars_rest c.loop-c.c-iterator) ≡ [] = ap chars empty ∙ chars-nil in
    sym (append-nil (characters c.loop-c.text)) ∙ (ap (λ (x : List ℕ). characters c.loop-c.text ++ flat_map written_as_is x) (sym nothing) ∙ c.loop-c.invariant.same)
