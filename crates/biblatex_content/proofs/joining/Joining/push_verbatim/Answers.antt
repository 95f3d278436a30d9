use Rattle.std.proofs.Common.{◌≡◌, ℕ, List, [], ◌∷◌, ◌++◌, refl, sym, ap, ◌∙◌}
use Rattle.std.specs.Prelude.{if◌then◌else◌}
use Rattle.std.specs.Str.{chars}
use Rattle.std.specs.Str.Iter.{chars_rest}
use Rattle.std.proofs.lemmas.Str.{chars-nil}
use Rattle.std.proofs.lemmas.List.{append-nil, nil_from_length}
use Rattle.laws.specs.Characters.{backslash}
use Rattle.laws.proofs.Text.{next_char}
use Rattle.biblatex_content.specs.declared.chunk.Kind.TheVariants.{Verbatim}
use Rattle.biblatex_content.specs.Styled.{letters}
use Rattle.biblatex_content.specs.Verbatim.{verbatim_from, verbatim_piece, verbatim_text, is_verbatim_escape}
use Rattle.biblatex_content.specs.Views.{joined}
use Rattle.biblatex_content.proofs.StyledMembers.{letters_more}
use Rattle.biblatex_content.proofs.joining.Joining.push_verbatim.Goals as goal
use Rattle.biblatex_content.proofs.joining.Joining.push_verbatim.Goals.{then-is_escaped+in_ok-push, else-is_escaped}

pub loop-c-init : goal.loop-c-init
loop-c-init c = rw (c.into_iter-c-iterator.ensures.into_iter_gives, c.chars-c-items.ensures.rest) (record { written = refl; utf8 = c.utf8.piece })

pub loop-c-preserved : goal.loop-c-preserved
loop-c-preserved c =
    let n = next_char _ _ c.in-Some.c c.loop-c.invariant.utf8 c.in-Some.ensures.steps.0 in
    let rest = chars (chars_rest c.next.new.self) in
    let old = joined c.loop-c.self in
    record {
      written =
          rw (c.in_ok-is_escaped.ensures.pushed, c.in_ok-is_escaped.ensures.next)
          (letters_more old Verbatim (verbatim_piece c.loop-c.is_escaped c.in-Some.c) (verbatim_from (is_verbatim_escape c.loop-c.is_escaped c.in-Some.c) rest)
          ∙ (ap (λ (x : List ℕ). old ++ letters Verbatim (verbatim_from c.loop-c.is_escaped x)) (sym n.chars_are) ∙ c.loop-c.invariant.written));
      utf8 = n.utf8;
    }

pub returns : goal.returns
returns c =
    let empty : chars_rest c.loop-c.c-iterator ≡ [] = nil_from_length _ c.in-None.ensures.steps.0.0 in
    let nothing : chars (chars_rest c.loop-c.c-iterator) ≡ [] = ap chars empty ∙ chars-nil in
    let ends : joined c.loop-c.self ++ letters Verbatim (if c.loop-c.is_escaped then backslash ∷ [] else []) ≡ joined c.args.self ++ letters Verbatim (verbatim_text (chars c.args.piece.now)) =
    ap (λ (x : List ℕ). joined c.loop-c.self ++ letters Verbatim (verbatim_from c.loop-c.is_escaped x)) (sym nothing) ∙ c.loop-c.invariant.written in
    elim c.if-is_escaped.branch [
      | then-is_escaped+in_ok-push w ↦ rw w.self-is (w.in_ok-push.ensures.styled ∙ rw w.if-is_escaped.true at ends)
      | else-is_escaped w ↦ rw w.self-is (sym (append-nil (joined c.loop-c.self)) ∙ rw w.if-is_escaped.false at ends)
    ]
