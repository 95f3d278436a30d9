-- Texts that were written are read back.
use Rattle.std.proofs.Common.{◌≡◌, ℕ, Bool, true, false, ◌&&◌, List, [], ◌∷◌, ◌++◌, map, refl, sym, ap, ◌∙◌, append_assoc}
use Rattle.std.specs.List.{flat_map, list_all}
use Rattle.biblatex_content.specs.Styled.{letters}
use Rattle.biblatex_lists.specs.declared.styled_char.StyledChar.{StyledChar}
use Rattle.biblatex_lists.specs.StyledChars.{is_gap, spells, in_style, of_style, styled_chars}
use Rattle.biblatex_lists.specs.Parts.{begins_and, trimmed, without_first_gaps, before_others, without_last_gaps, parts}
use Rattle.biblatex_lists.specs.TextList.{texts_of}
use Rattle.laws.specs.Characters.{lower_a}
use Rattle.laws.specs.Text.{is_filled}
use Rattle.biblatex_lists.specs.Writing.{kind, and_word, after_and, space, begins_two_gaps, is_loose, holds, padded, is_plain, written_text, written_texts}
use Rattle.biblatex_lists.specs.Laws.{IsReadBack, ReadsBack}
use Rattle.biblatex_lists.proofs.PartsTested.{or_first, or_second, both_false, and_first, and_second, and_true, not_true}
use Rattle.biblatex_lists.proofs.StyledCharsTexts.{chars_of_letters, chars_of_both, plain_of_style}
use Rattle.biblatex_lists.proofs.WritingJoined.{IsPart, AreParts, past_first, parts_joined}

-- a weaker test holds nowhere either
pub nowhere_and : (ss : List StyledChar) → holds is_loose ss ≡ false → holds begins_and ss ≡ false
nowhere_and [] e = refl
nowhere_and (s ∷ ss) e =
    both_false (begins_and (s ∷ ss)) (holds begins_and ss)
    (or_first (begins_and (s ∷ ss)) (begins_two_gaps (s ∷ ss)) (or_first (is_loose (s ∷ ss)) (holds is_loose ss) e))
    (nowhere_and ss (or_second (is_loose (s ∷ ss)) (holds is_loose ss) e))

pub nowhere_two_gaps : (ss : List StyledChar) → holds is_loose ss ≡ false → holds begins_two_gaps ss ≡ false
nowhere_two_gaps [] e = refl
nowhere_two_gaps (s ∷ ss) e =
    both_false (begins_two_gaps (s ∷ ss)) (holds begins_two_gaps ss)
    (or_second (begins_and (s ∷ ss)) (begins_two_gaps (s ∷ ss)) (or_first (is_loose (s ∷ ss)) (holds is_loose ss) e))
    (nowhere_two_gaps ss (or_second (is_loose (s ∷ ss)) (holds is_loose ss) e))

-- a text with no white space before the space after it
pub no_end_gaps : (ss : List StyledChar) → holds begins_two_gaps (ss ++ space ∷ []) ≡ false → without_last_gaps ss ≡ ss
no_end_gaps [] e = refl
no_end_gaps (s ∷ []) e =
    let no_gap : is_gap s ≡ false = sym (and_true (is_gap s)) ∙ or_first (is_gap s && true) false e in
    rw no_gap refl
no_end_gaps (s ∷ t ∷ ss) e =
    let more = or_second (begins_two_gaps (s ∷ t ∷ ss ++ space ∷ [])) (holds begins_two_gaps (t ∷ ss ++ space ∷ [])) e in
    ap (before_others s) (no_end_gaps (t ∷ ss) more)

-- a text without white space at its ends
pub trimmed_already : (ss : List StyledChar) → holds begins_two_gaps (space ∷ ss ++ space ∷ []) ≡ false → trimmed ss ≡ ss
trimmed_already [] e = refl
trimmed_already (s ∷ ss) e =
    let no_gap : is_gap s ≡ false = or_first (is_gap s) (holds begins_two_gaps (s ∷ ss ++ space ∷ [])) e in
    let more = or_second (is_gap s) (holds begins_two_gaps (s ∷ ss ++ space ∷ [])) e in
    let prefix : without_first_gaps (s ∷ ss) ≡ s ∷ ss = rw no_gap refl in
    ap without_last_gaps prefix ∙ no_end_gaps (s ∷ ss) more

-- verbatim text holds nothing that parts
pub no_gap_no_and : (s : StyledChar) (ss : List StyledChar) → is_gap s ≡ false → begins_and (s ∷ ss) ≡ false
no_gap_no_and s [] e = refl
no_gap_no_and s (a ∷ []) e = refl
no_gap_no_and s (a ∷ n ∷ []) e = refl
no_gap_no_and s (a ∷ n ∷ d ∷ []) e = refl
no_gap_no_and s (a ∷ n ∷ d ∷ t ∷ ss) e = rw e refl

pub no_letter_no_and : (s a : StyledChar) (ss : List StyledChar) → is_gap s && spells lower_a a ≡ false → begins_and (s ∷ a ∷ ss) ≡ false
no_letter_no_and s a [] e = refl
no_letter_no_and s a (n ∷ []) e = refl
no_letter_no_and s a (n ∷ d ∷ []) e = refl
no_letter_no_and s a (n ∷ d ∷ t ∷ ss) e = rw e refl

verbatim_has_no_and : (cs : List ℕ) → holds begins_and (of_style false cs ++ space ∷ []) ≡ false
verbatim_has_no_and [] = refl
verbatim_has_no_and (c ∷ cs) = both_false _ _ (no_gap_no_and (in_style false c) (of_style false cs ++ space ∷ []) refl) (verbatim_has_no_and cs)

pub verbatim_is_part : (cs : List ℕ) → IsPart (of_style false cs)
verbatim_is_part [] = record { alone = refl }
verbatim_is_part (c ∷ cs) = record { alone = both_false _ _ (no_letter_no_and space (in_style false c) (of_style false cs ++ space ∷ []) refl) (verbatim_has_no_and (c ∷ cs)) }

verbatim_ends : (cs : List ℕ) → without_last_gaps (of_style false cs) ≡ of_style false cs
verbatim_ends [] = refl
verbatim_ends (c ∷ []) = refl
verbatim_ends (c ∷ d ∷ cs) = ap (before_others (in_style false c)) (verbatim_ends (d ∷ cs))

pub verbatim_trimmed : (cs : List ℕ) → trimmed (of_style false cs) ≡ of_style false cs
verbatim_trimmed [] = refl
verbatim_trimmed (c ∷ cs) = verbatim_ends (c ∷ cs)

-- a text in its style is a part, and has no white space at its ends
text_is_part : (cs : List ℕ) (b : Bool) → is_plain cs ≡ b → IsPart (of_style b cs)
text_is_part cs true e = record { alone = nowhere_and (padded cs) (not_true (holds is_loose (padded cs)) e) }
text_is_part cs false e = verbatim_is_part cs

text_is_trimmed : (cs : List ℕ) (b : Bool) → is_plain cs ≡ b → trimmed (of_style b cs) ≡ of_style b cs
text_is_trimmed cs true e = trimmed_already (of_style true cs) (nowhere_two_gaps (padded cs) (not_true (holds is_loose (padded cs)) e))
text_is_trimmed cs false e = verbatim_trimmed cs

-- a text in its style
abbrev styled_text : List ℕ → List StyledChar
styled_text cs = of_style (is_plain cs) cs

texts_are_parts : (ts : List (List ℕ)) → AreParts (map styled_text ts)
texts_are_parts [] = tt
texts_are_parts (t ∷ ts) = (text_is_part t (is_plain t) refl, texts_are_parts ts)

-- the characters of texts after a first one
chars_after : (ts : List (List ℕ)) → styled_chars (flat_map after_and (map written_text ts)) ≡ past_first (map styled_text ts)
chars_after [] = refl
chars_after (t ∷ ts) =
    let here : styled_chars (after_and (written_text t)) ≡ of_style true and_word ++ styled_text t =
    chars_of_both (letters (kind true) and_word) (written_text t) ∙ ap (λ (ss : List StyledChar). of_style true and_word ++ ss) (chars_of_letters (is_plain t) t) in
    chars_of_both (after_and (written_text t)) (flat_map after_and (map written_text ts))
    ∙ (ap (λ (ss : List StyledChar). ss ++ styled_chars (flat_map after_and (map written_text ts))) here
    ∙ (ap (λ (ss : List StyledChar). (of_style true and_word ++ styled_text t) ++ ss) (chars_after ts)
    ∙ append_assoc (of_style true and_word) (styled_text t) (past_first (map styled_text ts))))

chars_joined : (t : List ℕ) (ts : List (List ℕ)) → styled_chars (written_texts (t ∷ ts)) ≡ styled_text t ++ past_first (map styled_text ts)
chars_joined t ts =
    chars_of_both (written_text t) (flat_map after_and (map written_text ts))
    ∙ (ap (λ (ss : List StyledChar). ss ++ styled_chars (flat_map after_and (map written_text ts))) (chars_of_letters (is_plain t) t)
    ∙ ap (λ (ss : List StyledChar). styled_text t ++ ss) (chars_after ts))

-- texts that are not empty, as parts
filled_text : (b : Bool) (t : List ℕ) (ps : List (List StyledChar)) (ts : List (List ℕ)) → is_filled t ≡ true → texts_of ps ≡ ts → texts_of (of_style b t ∷ ps) ≡ t ∷ ts
filled_text b [] ps ts e more = absurd cc
filled_text b (c ∷ cs) ps ts e more = rw (more, plain_of_style b (c ∷ cs)) refl

texts_of_trimmed : (ts : List (List ℕ)) → IsReadBack ts → texts_of (map trimmed (map styled_text ts)) ≡ ts
texts_of_trimmed [] e = refl
texts_of_trimmed (t ∷ ts) e =
    rw (text_is_trimmed t (is_plain t) refl)
    (filled_text (is_plain t) t (map trimmed (map styled_text ts)) ts (and_first (is_filled t) (list_all is_filled ts) e) (texts_of_trimmed ts (and_second (is_filled t) (list_all is_filled ts) e)))

pub texts_are_back : ReadsBack
texts_are_back [] e = refl
texts_are_back (t ∷ ts) e =
    ap (λ (ss : List StyledChar). texts_of (parts ss)) (chars_joined t ts)
    ∙ (ap texts_of (parts_joined (styled_text t) (map styled_text ts) (texts_are_parts (t ∷ ts))) ∙ texts_of_trimmed (t ∷ ts) e)
