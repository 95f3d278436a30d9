-- The parts of a name, as they are written and read.
use Rattle.std.proofs.Common.{◌≡◌, ℕ, Bool, true, false, not, ◌==◌, ◌&&◌, ◌||◌, List, [], ◌∷◌, ◌++◌, None, refl, sym, ap, ◌∙◌}
use Rattle.std.specs.List.{list_any, filter}
use Rattle.std.proofs.lemmas.Bool.{eqb-true}
use Rattle.biblatex_lists.specs.declared.styled_char.StyledChar.{StyledChar}
use Rattle.biblatex_lists.specs.StyledChars.{is_gap, in_style, of_style, plain}
use Rattle.biblatex_lists.specs.Parts.{begins_and, before_first}
use Rattle.laws.specs.Characters as character
use Rattle.laws.specs.Text.{is_filled}
use Rattle.biblatex_lists.specs.Writing.{space, begins_two_gaps, is_loose, holds, padded}
use Rattle.biblatex_lists.proofs.PartsTested.{or_first, or_second, both_false, and_true, and_first, and_second, not_true}
use Rattle.biblatex_lists.specs.declared.words.Mark.{Mark}
use Rattle.biblatex_lists.specs.declared.words.Mark.TheVariants.{Gap, Comma, Equals}
use Rattle.biblatex_lists.specs.Words.{is_mark, split_once, cut_at, words, joined_words, is_small, lead_count}
use Rattle.biblatex_lists.specs.PeopleWriting.{is_odd, is_unsteady, is_steady, is_name}
use Rattle.biblatex_lists.proofs.WordsWindows.{comma, holds_before_comma, no_gap_not_loose, space_not_loose}

-- Text that is empty, or words with one space between them, which nothing parts.
pub record IsField (x : List StyledChar) : Type 0 where
  pub steady : is_filled x ≡ true → holds is_unsteady (space ∷ x ++ space ∷ []) ≡ false

-- what is steady is not loose, and has no odd character
pub nowhere_loose : (ss : List StyledChar) → holds is_unsteady ss ≡ false → holds is_loose ss ≡ false
nowhere_loose [] e = refl
nowhere_loose (s ∷ ss) e =
    both_false (is_loose (s ∷ ss)) (holds is_loose ss)
    (or_second (is_odd s) (is_loose (s ∷ ss)) (or_first (is_unsteady (s ∷ ss)) (holds is_unsteady ss) e))
    (nowhere_loose ss (or_second (is_unsteady (s ∷ ss)) (holds is_unsteady ss) e))

-- a mark other than white space does not stand in what is steady
no_comma_in : (x : List StyledChar) → holds is_unsteady (x ++ space ∷ []) ≡ false → list_any (is_mark Comma) x ≡ false
no_comma_in [] e = refl
no_comma_in (s ∷ x) e =
    let here = or_first (is_odd s) (is_loose (s ∷ x ++ space ∷ [])) (or_first (is_unsteady (s ∷ x ++ space ∷ [])) (holds is_unsteady (x ++ space ∷ [])) e) in
    both_false (is_mark Comma s) (list_any (is_mark Comma) x)
    (or_first (is_mark Comma s) (is_mark Equals s) (or_first (is_mark Comma s || is_mark Equals s) (is_gap s && not (s.c == character.space)) here))
    (no_comma_in x (or_second (is_unsteady (s ∷ x ++ space ∷ [])) (holds is_unsteady (x ++ space ∷ [])) e))

no_equals_in : (x : List StyledChar) → holds is_unsteady (x ++ space ∷ []) ≡ false → list_any (is_mark Equals) x ≡ false
no_equals_in [] e = refl
no_equals_in (s ∷ x) e =
    let here = or_first (is_odd s) (is_loose (s ∷ x ++ space ∷ [])) (or_first (is_unsteady (s ∷ x ++ space ∷ [])) (holds is_unsteady (x ++ space ∷ [])) e) in
    both_false (is_mark Equals s) (list_any (is_mark Equals) x)
    (or_second (is_mark Comma s) (is_mark Equals s) (or_first (is_mark Comma s || is_mark Equals s) (is_gap s && not (s.c == character.space)) here))
    (no_equals_in x (or_second (is_unsteady (s ∷ x ++ space ∷ [])) (holds is_unsteady (x ++ space ∷ [])) e))

after_the_space : (x : List StyledChar) → holds is_unsteady (space ∷ x ++ space ∷ []) ≡ false → holds is_unsteady (x ++ space ∷ []) ≡ false
after_the_space x e = or_second (is_unsteady (space ∷ x ++ space ∷ [])) (holds is_unsteady (x ++ space ∷ [])) e

pub field_has_no_comma : (x : List StyledChar) → IsField x → list_any (is_mark Comma) x ≡ false
field_has_no_comma [] f = refl
field_has_no_comma (s ∷ x) f = no_comma_in (s ∷ x) (after_the_space (s ∷ x) (f.steady refl))

pub field_has_no_equals : (x : List StyledChar) → IsField x → list_any (is_mark Equals) x ≡ false
field_has_no_equals [] f = refl
field_has_no_equals (s ∷ x) f = no_equals_in (s ∷ x) (after_the_space (s ∷ x) (f.steady refl))

-- a field before a comma, after a space
pub field_before_comma : (x rest : List StyledChar) → IsField x → holds is_loose (comma ∷ rest) ≡ false → holds is_loose (space ∷ x ++ comma ∷ rest) ≡ false
field_before_comma [] rest f e = both_false (is_loose (space ∷ comma ∷ rest)) (holds is_loose (comma ∷ rest)) (space_not_loose comma rest refl refl) e
field_before_comma (s ∷ x) rest f e = holds_before_comma (space ∷ s ∷ x) rest (nowhere_loose (space ∷ s ∷ x ++ space ∷ []) (f.steady refl)) e

-- a text is cut at a comma after what has none
pub cut_before : (x rest : List StyledChar) → list_any (is_mark Comma) x ≡ false → cut_at Comma (x ++ comma ∷ rest) ≡ x ∷ cut_at Comma rest
cut_before [] rest e = refl
cut_before (s ∷ x) rest e =
    let here = or_first (is_mark Comma s) (list_any (is_mark Comma) x) e in
    let more = cut_before x rest (or_second (is_mark Comma s) (list_any (is_mark Comma) x) e) in
    rw (here, more) refl

pub cut_nowhere : (mark : Mark) (x : List StyledChar) → list_any (is_mark mark) x ≡ false → cut_at mark x ≡ x ∷ []
cut_nowhere mark [] e = refl
cut_nowhere mark (s ∷ x) e =
    let here = or_first (is_mark mark s) (list_any (is_mark mark) x) e in
    let more = cut_nowhere mark x (or_second (is_mark mark s) (list_any (is_mark mark) x) e) in
    rw (here, more) refl

pub no_pair : (x : List StyledChar) → list_any (is_mark Equals) x ≡ false → split_once Equals x ≡ None
no_pair [] e = refl
no_pair (s ∷ x) e =
    let here = or_first (is_mark Equals s) (list_any (is_mark Equals) x) e in
    let more = no_pair x (or_second (is_mark Equals s) (list_any (is_mark Equals) x) e) in
    rw (here, more) refl

-- words joined again
abbrev joined_parts : List (List StyledChar) → List ℕ
joined_parts ps = joined_words (filter is_filled ps)

leading_char : (s t : StyledChar) (qs : List (List StyledChar)) → joined_parts (before_first (s ∷ []) (before_first (t ∷ []) qs)) ≡ s.c ∷ joined_parts (before_first (t ∷ []) qs)
leading_char s t [] = refl
leading_char s t (q ∷ qs) = refl

leading_word : (s u : StyledChar) (qs : List (List StyledChar)) → joined_parts (before_first (s ∷ []) ([] ∷ before_first (u ∷ []) qs)) ≡ s.c ∷ character.space ∷ joined_parts (before_first (u ∷ []) qs)
leading_word s u [] = refl
leading_word s u (q ∷ qs) = refl

goes_on : (s : StyledChar) (x : List StyledChar) → is_gap s ≡ false → cut_at Gap (s ∷ x) ≡ before_first (s ∷ []) (cut_at Gap x)
goes_on s x e = rw e refl

ends_here : (s : StyledChar) (x : List StyledChar) → is_gap s ≡ true → cut_at Gap (s ∷ x) ≡ [] ∷ cut_at Gap x
ends_here s x e = rw e refl

is_space : (s : StyledChar) → is_gap s ≡ true → is_odd s ≡ false → s.c ≡ character.space
is_space s g e =
    let plain_space : not (s.c == character.space) ≡ false = (let k : (true && not (s.c == character.space)) ≡ false = rw g at (or_second (is_mark Comma s || is_mark Equals s) (is_gap s && not (s.c == character.space)) e) in k) in
    eqb-true s.c character.space (not_false (s.c == character.space) plain_space)
  where
    not_false : (b : Bool) → not b ≡ false → b ≡ true
    not_false true k = refl
    not_false false k = absurd cc

joined_steady : (s : StyledChar) (x : List StyledChar) → is_gap s ≡ false → holds is_unsteady (s ∷ x ++ space ∷ []) ≡ false → joined_words (words (s ∷ x)) ≡ plain (s ∷ x)
joined_steady s [] no_gap e = rw no_gap refl
joined_steady s (t ∷ []) no_gap e =
    let more = or_second (is_unsteady (s ∷ t ∷ space ∷ [])) (holds is_unsteady (t ∷ space ∷ [])) e in
    let loose = or_second (is_odd t) (is_loose (t ∷ space ∷ [])) (or_first (is_unsteady (t ∷ space ∷ [])) (holds is_unsteady (space ∷ [])) more) in
    let gap : is_gap t ≡ false = sym (and_true (is_gap t)) ∙ or_second (begins_and (t ∷ space ∷ [])) (begins_two_gaps (t ∷ space ∷ [])) loose in
    rw (no_gap, gap) refl
joined_steady s (t ∷ u ∷ x) no_gap e = by_gap (is_gap t) refl (λ g. joined_steady t (u ∷ x) g more) (λ g. joined_steady u x g further)
  where
    more : holds is_unsteady (t ∷ u ∷ x ++ space ∷ []) ≡ false
    more = or_second (is_unsteady (s ∷ t ∷ u ∷ x ++ space ∷ [])) (holds is_unsteady (t ∷ u ∷ x ++ space ∷ [])) e

    further : holds is_unsteady (u ∷ x ++ space ∷ []) ≡ false
    further = or_second (is_unsteady (t ∷ u ∷ x ++ space ∷ [])) (holds is_unsteady (u ∷ x ++ space ∷ [])) more

    here : is_unsteady (t ∷ u ∷ x ++ space ∷ []) ≡ false
    here = or_first (is_unsteady (t ∷ u ∷ x ++ space ∷ [])) (holds is_unsteady (u ∷ x ++ space ∷ [])) more

    two : is_gap t && is_gap u ≡ false
    two = or_second (begins_and (t ∷ u ∷ x ++ space ∷ [])) (is_gap t && is_gap u) (or_second (is_odd t) (is_loose (t ∷ u ∷ x ++ space ∷ [])) here)

    by_gap : (b : Bool) → is_gap t ≡ b → (is_gap t ≡ false → joined_words (words (t ∷ u ∷ x)) ≡ plain (t ∷ u ∷ x)) → (is_gap u ≡ false → joined_words (words (u ∷ x)) ≡ plain (u ∷ x))
        → joined_words (words (s ∷ t ∷ u ∷ x)) ≡ plain (s ∷ t ∷ u ∷ x)
    by_gap false g one other =
        ap joined_parts (goes_on s (t ∷ u ∷ x) no_gap ∙ ap (before_first (s ∷ [])) (goes_on t (u ∷ x) g))
        ∙ (leading_char s t (cut_at Gap (u ∷ x)) ∙ ap (λ (cs : List ℕ). s.c ∷ cs) (ap joined_parts (sym (goes_on t (u ∷ x) g)) ∙ one g))
    by_gap true g one other =
        let not_two : is_gap u ≡ false = (let k : (true && is_gap u) ≡ false = rw g at two in k) in
        let space_here : t.c ≡ character.space = is_space t g (or_first (is_odd t) (is_loose (t ∷ u ∷ x ++ space ∷ [])) here) in
        ap joined_parts (goes_on s (t ∷ u ∷ x) no_gap ∙ ap (before_first (s ∷ [])) (ends_here t (u ∷ x) g ∙ ap (λ (ps : List (List StyledChar)). [] ∷ ps) (goes_on u x not_two)))
        ∙ (leading_word s u (cut_at Gap x) ∙ (ap (λ (cs : List ℕ). s.c ∷ character.space ∷ cs) (ap joined_parts (sym (goes_on u x not_two)) ∙ other not_two)
        ∙ ap (λ (c : ℕ). s.c ∷ c ∷ plain (u ∷ x)) (sym space_here)))

-- the words of a field, joined again, are the field
pub joined_field : (x : List StyledChar) → IsField x → joined_words (words x) ≡ plain x
joined_field [] f = refl
joined_field (s ∷ x) f =
    let e = f.steady refl in
    let first = or_first (is_unsteady (space ∷ s ∷ x ++ space ∷ [])) (holds is_unsteady (s ∷ x ++ space ∷ [])) e in
    let loose = or_second (is_odd space) (is_loose (space ∷ s ∷ x ++ space ∷ [])) first in
    let no_gap : is_gap s ≡ false = or_second (begins_and (space ∷ s ∷ x ++ space ∷ [])) (is_gap s) loose in
    joined_steady s x no_gap (after_the_space (s ∷ x) e)

-- verbatim text is a field
verbatim_steady : (cs : List ℕ) → holds is_unsteady (of_style false cs ++ space ∷ []) ≡ false
verbatim_steady [] = refl
verbatim_steady (c ∷ cs) =
    both_false (is_unsteady (in_style false c ∷ of_style false cs ++ space ∷ [])) (holds is_unsteady (of_style false cs ++ space ∷ []))
    (no_gap_not_loose (in_style false c) (of_style false cs ++ space ∷ []) refl) (verbatim_steady cs)

pub verbatim_field : (cs : List ℕ) → IsField (of_style false cs)
verbatim_field [] = record { steady = λ e. absurd cc }
verbatim_field (c ∷ cs) = record {
  steady = λ e.
      both_false (is_unsteady (space ∷ in_style false c ∷ of_style false cs ++ space ∷ [])) (holds is_unsteady (in_style false c ∷ of_style false cs ++ space ∷ []))
      (space_not_loose (in_style false c) (of_style false cs ++ space ∷ []) refl refl) (verbatim_steady (c ∷ cs));
}

-- a part of a name in its style is a field
pub part_field : (cs : List ℕ) (b : Bool) → is_steady cs ≡ b → IsField (of_style b cs)
part_field cs true e = record { steady = λ f. not_true (holds is_unsteady (padded cs)) e }
part_field cs false e = verbatim_field cs

pub name_field : (cs : List ℕ) (b : Bool) → is_name cs ≡ b → IsField (of_style b cs)
name_field cs true e = record { steady = λ f. not_true (holds is_unsteady (padded cs)) (and_first (is_steady cs) (not (list_any is_small (words (of_style true cs)))) e) }
name_field cs false e = verbatim_field cs

-- and the name itself has no small word
pub lead_none : (ws : List (List StyledChar)) → list_any is_small ws ≡ false → lead_count ws ≡ 0
lead_none [] e = refl
lead_none (w ∷ []) e = refl
lead_none (w ∷ v ∷ ws) e =
    let here = or_first (is_small w) (list_any is_small (v ∷ ws)) e in
    let more = lead_none (v ∷ ws) (or_second (is_small w) (list_any is_small (v ∷ ws)) e) in
    rw (here, more) refl

verbatim_has_no_gap : (cs : List ℕ) → list_any (is_mark Gap) (of_style false cs) ≡ false
verbatim_has_no_gap [] = refl
verbatim_has_no_gap (c ∷ cs) = verbatim_has_no_gap cs

verbatim_has_no_small : (cs : List ℕ) → list_any is_small (words (of_style false cs)) ≡ false
verbatim_has_no_small [] = refl
verbatim_has_no_small (c ∷ cs) = ap (λ (ps : List (List StyledChar)). list_any is_small (filter is_filled ps)) (cut_nowhere Gap (of_style false (c ∷ cs)) (verbatim_has_no_gap (c ∷ cs)))

pub name_small : (cs : List ℕ) (b : Bool) → is_name cs ≡ b → list_any is_small (words (of_style b cs)) ≡ false
name_small cs true e = not_true (list_any is_small (words (of_style true cs))) (and_second (is_steady cs) (not (list_any is_small (words (of_style true cs)))) e)
name_small cs false e = verbatim_has_no_small cs
