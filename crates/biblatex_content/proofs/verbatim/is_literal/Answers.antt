use Rattle.std.proofs.Common.{◌≡◌, ℕ, List, [], ◌||◌, ◌==◌, not, true, refl, sym, ap, ◌∙◌, subst}
use Rattle.std.specs.Str.{chars}
use Rattle.std.specs.Str.Iter.{chars_rest}
use Rattle.std.proofs.lemmas.Str.{chars-nil}
use Rattle.std.proofs.lemmas.List.{nil_from_length}
use Rattle.laws.specs.Characters.{backslash}
use Rattle.laws.proofs.Text.{next_char}
use Rattle.biblatex_content.specs.Verbatim.{is_brace, verbatim_text}
use Rattle.biblatex_content.proofs.VerbatimLiteral.{literal_more}
use Rattle.biblatex_content.proofs.verbatim.is_literal.Goals as goal

pub loop-c-init : goal.loop-c-init
loop-c-init c = rw (c.into_iter-c-iterator.ensures.into_iter_gives, c.chars-c-items.ensures.rest) (record { same = λ e. e; utf8 = c.utf8.piece })

pub loop-c-preserved : goal.loop-c-preserved
loop-c-preserved c =
    let n = next_char _ _ c.in-Some.c c.loop-c.invariant.utf8 c.in-Some.ensures.steps.0 in
    let literal : not (c.in-Some.c == backslash || is_brace c.in-Some.c) ≡ true = sym c.is_literal_character.ensures ∙ c.if-not-is_literal_character.false in
    record {
      same = λ e. c.loop-c.invariant.same (subst (λ (x : List ℕ). verbatim_text x ≡ x) (sym n.chars_are) (literal_more c.in-Some.c (chars (chars_rest c.next.new.self)) literal e));
      utf8 = n.utf8;
    }

pub returns : goal.returns
returns c = λ e.
    let empty : chars_rest c.loop-c.c-iterator ≡ [] = nil_from_length _ c.in-None.ensures.steps.0.0 in
    let nothing : chars (chars_rest c.loop-c.c-iterator) ≡ [] = ap chars empty ∙ chars-nil in
    c.loop-c.invariant.same (subst (λ (x : List ℕ). verbatim_text x ≡ x) (sym nothing) refl)
