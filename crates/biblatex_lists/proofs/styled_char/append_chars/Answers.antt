use Rattle.std.proofs.Common.{◌≡◌, ℕ, List, [], ◌∷◌, ◌++◌, refl, sym, ap, ◌∙◌, append_assoc}
use Rattle.std.specs.Str.{chars}
use Rattle.std.specs.Str.Iter.{chars_rest}
use Rattle.std.proofs.lemmas.Str.{chars-nil}
use Rattle.std.proofs.lemmas.List.{nil_from_length, append-nil}
use Rattle.laws.proofs.Text.{next_char}
use Rattle.biblatex_lists.specs.declared.styled_char.StyledChar.{StyledChar}
use Rattle.biblatex_lists.specs.StyledChars.{in_style, of_style}
use Rattle.biblatex_lists.proofs.styled_char.append_chars.Goals as goal

pub loop-c-init : goal.loop-c-init
loop-c-init c = rw (c.into_iter-c-iterator.ensures.into_iter_gives, c.chars-c-items.ensures.rest) (record { same = refl; utf8 = c.utf8.text })

pub loop-c-preserved : goal.loop-c-preserved
loop-c-preserved c =
    let n = next_char _ _ c.in-Some.c c.loop-c.invariant.utf8 c.in-Some.ensures.steps.0 in
    let rest = of_style c.args.is_normal (chars (chars_rest c.next.new.self)) in
    record {
      same = ap (λ (ss : List StyledChar). ss ++ rest) c.in_ok-push.ensures.items ∙ (append_assoc c.loop-c.list.items (in_style c.args.is_normal c.in-Some.c ∷ []) rest
          ∙ (ap (λ (x : List ℕ). c.loop-c.list.items ++ of_style c.args.is_normal x) (sym n.chars_are) ∙ c.loop-c.invariant.same));
      utf8 = n.utf8;
    }

pub returns : goal.returns
returns c =
    let empty : chars_rest c.loop-c.c-iterator ≡ [] = nil_from_length _ c.in-None.ensures.steps.0.0 in
    let nothing : chars (chars_rest c.loop-c.c-iterator) ≡ [] = ap chars empty ∙ chars-nil in
    sym (append-nil c.loop-c.list.items) ∙ (ap (λ (x : List ℕ). c.loop-c.list.items ++ of_style c.args.is_normal x) (sym nothing) ∙ c.loop-c.invariant.same)
