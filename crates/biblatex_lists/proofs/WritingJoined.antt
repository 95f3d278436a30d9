-- Parts that are joined by ` and `, and cut again.
use Rattle.std.proofs.Common.{◌≡◌, Bool, true, false, ◌&&◌, List, [], ◌∷◌, ◌++◌, map, refl, sym, ap, ◌∙◌}
use Rattle.std.proofs.lemmas.List.{append-nil}
use Rattle.laws.specs.Characters as character
use Rattle.biblatex_lists.specs.declared.styled_char.StyledChar.{StyledChar}
use Rattle.biblatex_lists.specs.StyledChars.{is_gap, spells, of_style}
use Rattle.biblatex_lists.specs.Parts.{begins_and, before_first, cut, trimmed, parts}
use Rattle.biblatex_lists.specs.Writing.{and_word, space, holds}
use Rattle.biblatex_lists.proofs.PartsTested.{or_first, or_second, and_false}
use Rattle.biblatex_lists.proofs.PartsCut.{before_none, before_more, cut_goes_on}

-- between two spaces the text has no word `and` between white space
pub record IsPart (ss : List StyledChar) : Type 0 where
  pub alone : holds begins_and (space ∷ ss ++ space ∷ []) ≡ false

-- each of the texts is such a part
abbrev pub AreParts : List (List StyledChar) → Type 0
AreParts [] = Unit {0}
AreParts (p ∷ ps) = IsPart p × AreParts ps

-- parts that stand after a first one
abbrev pub past_first : List (List StyledChar) → List StyledChar
past_first [] = []
past_first (p ∷ ps) = of_style true and_word ++ (p ++ past_first ps)

-- a space is none of the letters, wherever it stands
three : (a b : Bool) → (a && b) && false ≡ false
three a b = and_false (a && b)

two : (a b c : Bool) → ((a && b) && false) && c ≡ false
two a b c = rw (and_false (a && b)) refl

one : (a b c d : Bool) → (((a && b) && false) && c) && d ≡ false
one a b c d = rw (two a b c) refl

-- what stands after a space after a text does not matter
pub same_window : (s : StyledChar) (x rest : List StyledChar) → begins_and (s ∷ x ++ space ∷ []) ≡ false → begins_and (s ∷ x ++ space ∷ rest) ≡ false
same_window s [] [] e = refl
same_window s [] (u ∷ []) e = refl
same_window s [] (u ∷ v ∷ []) e = refl
same_window s [] (u ∷ v ∷ w ∷ rest) e = rw (and_false (is_gap s)) refl
same_window s (a ∷ []) [] e = refl
same_window s (a ∷ []) (u ∷ []) e = refl
same_window s (a ∷ []) (u ∷ v ∷ rest) e = rw (and_false (is_gap s && spells character.lower_a a)) refl
same_window s (a ∷ n ∷ []) [] e = refl
same_window s (a ∷ n ∷ []) (u ∷ rest) e = rw (and_false ((is_gap s && spells character.lower_a a) && spells character.lower_n n)) refl
same_window s (a ∷ n ∷ d ∷ []) rest e = e
same_window s (a ∷ n ∷ d ∷ t ∷ x) rest e = e

-- nor does it matter whether the space stands there
pub window_at_end : (s : StyledChar) (x : List StyledChar) → begins_and (s ∷ x ++ space ∷ []) ≡ false → begins_and (s ∷ x) ≡ false
window_at_end s [] e = refl
window_at_end s (a ∷ []) e = refl
window_at_end s (a ∷ n ∷ []) e = refl
window_at_end s (a ∷ n ∷ d ∷ []) e = refl
window_at_end s (a ∷ n ∷ d ∷ t ∷ x) e = e

-- a part before is not cut
pub part_at_start : (x rest : List StyledChar) → holds begins_and (x ++ space ∷ []) ≡ false → cut (x ++ space ∷ rest) ≡ before_first x (cut (space ∷ rest))
part_at_start [] rest e = sym (before_none 0 (space ∷ rest))
part_at_start (s ∷ x) rest e =
    let here = or_first (begins_and (s ∷ x ++ space ∷ [])) (holds begins_and (x ++ space ∷ [])) e in
    let more = or_second (begins_and (s ∷ x ++ space ∷ [])) (holds begins_and (x ++ space ∷ [])) e in
    cut_goes_on s (x ++ space ∷ rest) (same_window s x rest here)
    ∙ (ap (before_first (s ∷ [])) (part_at_start x rest more) ∙ before_more (s ∷ []) x (cut (space ∷ rest)))

-- a part alone is not cut
pub part_alone : (x : List StyledChar) → holds begins_and (x ++ space ∷ []) ≡ false → cut x ≡ x ∷ []
part_alone [] e = refl
part_alone (s ∷ x) e =
    let here = or_first (begins_and (s ∷ x ++ space ∷ [])) (holds begins_and (x ++ space ∷ [])) e in
    let more = or_second (begins_and (s ∷ x ++ space ∷ [])) (holds begins_and (x ++ space ∷ [])) e in
    cut_goes_on s x (window_at_end s x here) ∙ ap (before_first (s ∷ [])) (part_alone x more)

-- parts are cut where they were joined
cut_joined : (x : List StyledChar) (ps : List (List StyledChar)) → holds begins_and (x ++ space ∷ []) ≡ false → AreParts ps → cut (x ++ past_first ps) ≡ x ∷ map (λ (p : List StyledChar). space ∷ p) ps
cut_joined x [] e all = ap cut (append-nil x) ∙ part_alone x e
cut_joined x (p ∷ ps) e all =
    part_at_start x (of_style true (character.lower_a ∷ character.lower_n ∷ character.lower_d ∷ character.space ∷ []) ++ (p ++ past_first ps)) e
    ∙ (ap (λ (q : List StyledChar). q ∷ cut ((space ∷ p) ++ past_first ps)) (append-nil x)
    ∙ ap (λ (qs : List (List StyledChar)). x ∷ qs) (cut_joined (space ∷ p) ps all.0.alone all.1))

-- the space before a part goes
trimmed_after : (ps : List (List StyledChar)) → map trimmed (map (λ (p : List StyledChar). space ∷ p) ps) ≡ map trimmed ps
trimmed_after [] = refl
trimmed_after (p ∷ ps) = ap (λ (qs : List (List StyledChar)). trimmed p ∷ qs) (trimmed_after ps)

-- joined parts are read as they were, trimmed
pub parts_joined : (p : List StyledChar) (ps : List (List StyledChar)) → AreParts (p ∷ ps) → parts (p ++ past_first ps) ≡ map trimmed (p ∷ ps)
parts_joined p ps all =
    let inside = or_second (begins_and (space ∷ p ++ space ∷ [])) (holds begins_and (p ++ space ∷ [])) all.0.alone in
    ap (map trimmed) (cut_joined p ps inside all.1) ∙ ap (λ (qs : List (List StyledChar)). trimmed p ∷ qs) (trimmed_after ps)
