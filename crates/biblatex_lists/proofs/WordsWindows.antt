-- A comma ends what might be the word `and` between white space.
use Rattle.std.proofs.Common.{◌≡◌, true, false, ◌&&◌, List, [], ◌∷◌, ◌++◌, refl}
use Rattle.laws.specs.Characters as character
use Rattle.biblatex_lists.specs.declared.styled_char.StyledChar.{StyledChar}
use Rattle.biblatex_lists.specs.StyledChars.{is_gap, spells, in_style}
use Rattle.biblatex_lists.specs.Parts.{begins_and}
use Rattle.biblatex_lists.specs.Writing.{space, begins_two_gaps, is_loose, holds}
use Rattle.biblatex_lists.proofs.PartsTested.{or_first, or_second, both_false, and_false}
use Rattle.biblatex_lists.proofs.ReadBack.{no_gap_no_and, no_letter_no_and}

-- a Normal comma
abbrev pub comma : StyledChar
comma = in_style true character.comma

and_before_comma : (s : StyledChar) (x rest : List StyledChar) → begins_and (s ∷ x ++ space ∷ []) ≡ false → begins_and (s ∷ x ++ comma ∷ rest) ≡ false
and_before_comma s [] [] e = refl
and_before_comma s [] (u ∷ []) e = refl
and_before_comma s [] (u ∷ v ∷ []) e = refl
and_before_comma s [] (u ∷ v ∷ w ∷ rest) e = rw (and_false (is_gap s)) refl
and_before_comma s (a ∷ []) [] e = refl
and_before_comma s (a ∷ []) (u ∷ []) e = refl
and_before_comma s (a ∷ []) (u ∷ v ∷ rest) e = rw (and_false (is_gap s && spells character.lower_a a)) refl
and_before_comma s (a ∷ n ∷ []) [] e = refl
and_before_comma s (a ∷ n ∷ []) (u ∷ rest) e = rw (and_false ((is_gap s && spells character.lower_a a) && spells character.lower_n n)) refl
and_before_comma s (a ∷ n ∷ d ∷ []) rest e = and_false (((is_gap s && spells character.lower_a a) && spells character.lower_n n) && spells character.lower_d d)
and_before_comma s (a ∷ n ∷ d ∷ t ∷ x) rest e = e

two_before_comma : (s : StyledChar) (x rest : List StyledChar) → begins_two_gaps (s ∷ x ++ space ∷ []) ≡ false → begins_two_gaps (s ∷ x ++ comma ∷ rest) ≡ false
two_before_comma s [] rest e = and_false (is_gap s)
two_before_comma s (a ∷ x) rest e = e

loose_before_comma : (s : StyledChar) (x rest : List StyledChar) → is_loose (s ∷ x ++ space ∷ []) ≡ false → is_loose (s ∷ x ++ comma ∷ rest) ≡ false
loose_before_comma s x rest e =
    both_false (begins_and (s ∷ x ++ comma ∷ rest)) (begins_two_gaps (s ∷ x ++ comma ∷ rest))
    (and_before_comma s x rest (or_first (begins_and (s ∷ x ++ space ∷ [])) (begins_two_gaps (s ∷ x ++ space ∷ [])) e))
    (two_before_comma s x rest (or_second (begins_and (s ∷ x ++ space ∷ [])) (begins_two_gaps (s ∷ x ++ space ∷ [])) e))

-- a text that is not loose before a space is not loose before a comma
pub holds_before_comma : (y rest : List StyledChar) → holds is_loose (y ++ space ∷ []) ≡ false → holds is_loose (comma ∷ rest) ≡ false → holds is_loose (y ++ comma ∷ rest) ≡ false
holds_before_comma [] rest e more = more
holds_before_comma (s ∷ y) rest e more =
    both_false (is_loose (s ∷ y ++ comma ∷ rest)) (holds is_loose (y ++ comma ∷ rest))
    (loose_before_comma s y rest (or_first (is_loose (s ∷ y ++ space ∷ [])) (holds is_loose (y ++ space ∷ [])) e))
    (holds_before_comma y rest (or_second (is_loose (s ∷ y ++ space ∷ [])) (holds is_loose (y ++ space ∷ [])) e) more)

no_gap_no_two : (s : StyledChar) (ss : List StyledChar) → is_gap s ≡ false → begins_two_gaps (s ∷ ss) ≡ false
no_gap_no_two s [] e = refl
no_gap_no_two s (t ∷ ss) e = rw e refl

-- a character that is not white space is not loose
pub no_gap_not_loose : (s : StyledChar) (ss : List StyledChar) → is_gap s ≡ false → is_loose (s ∷ ss) ≡ false
no_gap_not_loose s ss e = both_false (begins_and (s ∷ ss)) (begins_two_gaps (s ∷ ss)) (no_gap_no_and s ss e) (no_gap_no_two s ss e)

-- nor is a space before a character that is neither white space nor the letter a
pub space_not_loose : (a : StyledChar) (ss : List StyledChar) → spells character.lower_a a ≡ false → is_gap a ≡ false → is_loose (space ∷ a ∷ ss) ≡ false
space_not_loose a ss e g = both_false (begins_and (space ∷ a ∷ ss)) (begins_two_gaps (space ∷ a ∷ ss)) (no_letter_no_and space a ss e) g

-- a text that is not loose is not loose after a comma
pub comma_before : (rest : List StyledChar) → holds is_loose rest ≡ false → holds is_loose (comma ∷ rest) ≡ false
comma_before rest e = both_false (is_loose (comma ∷ rest)) (holds is_loose rest) (no_gap_not_loose comma rest refl) e
