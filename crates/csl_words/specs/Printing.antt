-- What the attributes of an element say to print. In it a run of white space is one space. Characters are numbers.
use Rattle.std.specs.Prelude.{ℕ, Bool, true, false, not, ◌==◌, ◌&&◌, ◌||◌, List, [], ◌∷◌, ◌++◌, if◌then◌else◌, Option}
use Rattle.std.specs.Option.{option_map}
use Rattle.laws.specs.Characters.{space}
use Rattle.xml_text.specs.Character.{is_space}
use Rattle.xml_tree.specs.Trees.{Element}
use Rattle.csl_words.specs.Looking.{attribute, text_of}

-- what a character becomes, where white space stands before it or not
abbrev pub spaced_part : Bool → ℕ → List ℕ
spaced_part after_space c = if is_space c then (if after_space then [] else space ∷ []) else c ∷ []

abbrev pub spaced_from : Bool → List ℕ → List ℕ
spaced_from after_space [] = []
spaced_from after_space (c ∷ cs) = spaced_part after_space c ++ spaced_from (is_space c) cs

-- A text in which each run of white space of XML is one space. A space that does not break is no white space of XML.
abbrev pub spaced : List ℕ → List ℕ
spaced cs = spaced_from false cs

-- whether a character stays as it is: it is no white space, or a space after another character
abbrev pub stays : Bool → ℕ → Bool
stays after_space c = not (is_space c) || (c == space && not after_space)

abbrev pub all_stay : Bool → List ℕ → Bool
all_stay after_space [] = true
all_stay after_space (c ∷ cs) = stays after_space c && all_stay (is_space c) cs

-- whether all white space in a text is spaces that stand alone
abbrev pub is_spaced : List ℕ → Bool
is_spaced cs = all_stay false cs

-- what an attribute says to print, if there is one
abbrev pub printed : List ℕ → Element → Option (List ℕ)
printed name e = option_map spaced (attribute name e)

-- what an attribute says to print, empty where there is none
abbrev pub printed_text : List ℕ → Element → List ℕ
printed_text name e = spaced (text_of name e)
