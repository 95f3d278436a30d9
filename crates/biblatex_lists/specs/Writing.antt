-- How a list is written: ` and ` between its parts; a text that would be read otherwise than it stands is verbatim.
use Rattle.std.specs.Prelude.{ℕ, Bool, true, false, not, ◌&&◌, ◌||◌, List, [], ◌∷◌, ◌++◌, map, flat_map}
use Rattle.biblatex_content.specs.declared.chunk.Kind.{Kind}
use Rattle.biblatex_content.specs.declared.chunk.Kind.TheVariants.{Normal, Verbatim}
use Rattle.biblatex_content.specs.Styled.{Member, letters}
use Rattle.biblatex_content.specs.Views.{styled}
use Rattle.laws.specs.Characters as character
use Rattle.laws.specs.Text.{characters}
use Rattle.biblatex_lists.specs.declared.styled_char.StyledChar.{StyledChar}
use Rattle.biblatex_lists.specs.declared.writing.Writing.{Writing}
use Rattle.biblatex_lists.specs.StyledChars.{in_style, of_style, is_gap}
use Rattle.biblatex_lists.specs.Parts.{begins_and}

-- the kind of text that is Normal or not
abbrev pub kind : Bool → Kind
kind true = Normal
kind false = Verbatim

-- the word that stands between two parts, with the spaces round it
abbrev pub and_word : List ℕ
and_word = character.space ∷ character.lower_a ∷ character.lower_n ∷ character.lower_d ∷ character.space ∷ []

-- a part after ` and `
abbrev pub after_and : List Member → List Member
after_and p = letters Normal and_word ++ p

-- the parts with ` and ` between them
abbrev pub joined : List (List Member) → List Member
joined [] = []
joined (p ∷ ps) = p ++ flat_map after_and ps

-- a Normal space
abbrev pub space : StyledChar
space = in_style true character.space

-- a Normal text between two spaces
abbrev pub padded : List ℕ → List StyledChar
padded cs = space ∷ of_style true cs ++ space ∷ []

-- whether what stands at the start would part the text, or be no space between two words: the word `and` between white
-- space, or white space twice
abbrev pub begins_two_gaps : List StyledChar → Bool
begins_two_gaps [] = false
begins_two_gaps (s ∷ []) = false
begins_two_gaps (s ∷ t ∷ ss) = is_gap s && is_gap t

abbrev pub is_loose : List StyledChar → Bool
is_loose ss = begins_and ss || begins_two_gaps ss

-- whether the test holds somewhere in the text, of what stands from there on
abbrev pub holds : (List StyledChar → Bool) → List StyledChar → Bool
holds test [] = false
holds test (s ∷ ss) = test (s ∷ ss) || holds test ss

-- whether a Normal text is read as one part just as it stands
abbrev pub is_plain : List ℕ → Bool
is_plain cs = not (holds is_loose (padded cs))

-- a text as a part of a list
abbrev pub written_text : List ℕ → List Member
written_text cs = letters (kind (is_plain cs)) cs

abbrev pub written_texts : List (List ℕ) → List Member
written_texts ts = joined (map written_text ts)

-- what has been written
abbrev pub so_far : Writing → List Member
so_far w = styled w.chunks.items ++ letters (kind w.is_normal) (characters w.run)
