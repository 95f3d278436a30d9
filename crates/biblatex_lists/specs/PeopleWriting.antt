-- Writing a list of people: each as `prefix name, suffix, given name`, without the suffix where it is empty. What would be
-- read otherwise is verbatim.
use Rattle.std.specs.Prelude.{ℕ, Bool, true, false, not, ◌==◌, ◌&&◌, ◌||◌, List, [], ◌∷◌, ◌++◌, map}
use Rattle.std.specs.List.{list_any}
use Rattle.laws.specs.Characters.{space, comma}
use Rattle.biblatex_content.specs.Styled.{Member, letters}
use Rattle.biblatex_content.specs.declared.chunk.Kind.TheVariants.{Normal}
use Rattle.biblatex_lists.specs.declared.styled_char.StyledChar.{StyledChar}
use Rattle.biblatex_lists.specs.StyledChars.{is_gap, of_style}
use Rattle.biblatex_lists.specs.Writing.{kind, joined, holds, is_loose, padded}
use Rattle.biblatex_lists.specs.declared.words.Mark.TheVariants.{Comma, Equals}
use Rattle.biblatex_lists.specs.Words.{is_mark, is_small, words}
use Rattle.biblatex_lists.specs.Reading.{Named}

-- a comma, an equals sign, or white space other than the space
abbrev pub is_odd : StyledChar → Bool
is_odd s = is_mark Comma s || is_mark Equals s || (is_gap s && not (s.c == space))

-- whether what stands at the start would part a name, or be no space between two words
abbrev pub is_unsteady : List StyledChar → Bool
is_unsteady [] = false
is_unsteady (s ∷ ss) = is_odd s || is_loose (s ∷ ss)

-- whether a Normal text is read as words with one space between them, and no more
abbrev pub is_steady : List ℕ → Bool
is_steady cs = not (holds is_unsteady (padded cs))

-- whether a Normal text has no small word either
abbrev pub is_name : List ℕ → Bool
is_name cs = is_steady cs && not (list_any is_small (words (of_style true cs)))

-- a part of a name, verbatim where it would be read otherwise than it stands; of the name itself also where it has a small word
abbrev pub written_part : List ℕ → List Member
written_part cs = letters (kind (is_steady cs)) cs

abbrev pub written_name : List ℕ → List Member
written_name cs = letters (kind (is_name cs)) cs

-- the prefix stands before a space
abbrev pub before_name : List ℕ → List Member
before_name [] = []
before_name (c ∷ cs) = written_part (c ∷ cs) ++ letters Normal (space ∷ [])

-- the suffix stands after a comma and a space
abbrev pub after_name : List ℕ → List Member
after_name [] = []
after_name (c ∷ cs) = letters Normal (comma ∷ space ∷ []) ++ written_part (c ∷ cs)

-- the given name stands after a comma, and after a space where there is one
abbrev pub given_after : List ℕ → List Member
given_after [] = letters Normal (comma ∷ [])
given_after (c ∷ cs) = letters Normal (comma ∷ space ∷ []) ++ written_part (c ∷ cs)

abbrev pub written_person : Named → List Member
written_person n = before_name n.prefix ++ (written_name n.name ++ (after_name n.suffix ++ given_after n.given_name))

abbrev pub written_people : List Named → List Member
written_people ns = joined (map written_person ns)
