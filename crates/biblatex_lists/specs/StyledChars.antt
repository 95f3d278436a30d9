-- A styled text as a flat list: its characters, of which those that are not Normal never part anything.
use Rattle.std.specs.Prelude.{ℕ, Bool, true, false, ◌==◌, ◌&&◌, List, [], ◌∷◌, map, flat_map}
use Rattle.std.specs.Char.{is_whitespace, to_ascii_lowercase}
use Rattle.biblatex_content.specs.declared.chunk.Kind.TheVariants.{Normal, Verbatim}
use Rattle.biblatex_content.specs.Styled.{Member, Letter, Math}
use Rattle.biblatex_lists.specs.declared.styled_char.StyledChar.{StyledChar}

-- a character, Normal or not
abbrev pub in_style : Bool → ℕ → StyledChar
in_style is_normal c = record { c = c; is_normal = is_normal }

-- characters of one style
abbrev pub of_style : Bool → List ℕ → List StyledChar
of_style is_normal cs = map (in_style is_normal) cs

-- the characters of a member; those of a math piece are as verbatim ones
abbrev pub of_member : Member → List StyledChar
of_member (Letter Normal c) = in_style true c ∷ []
of_member (Letter Verbatim c) = in_style false c ∷ []
of_member (Math text) = of_style false text

-- the characters of a styled text
abbrev pub styled_chars : List Member → List StyledChar
styled_chars ms = flat_map of_member ms

-- white space that parts
abbrev pub is_gap : StyledChar → Bool
is_gap s = s.is_normal && is_whitespace s.c

-- the letter, in either case
abbrev pub spells : ℕ → StyledChar → Bool
spells lower s = s.is_normal && to_ascii_lowercase s.c == lower

-- the characters without their styles
abbrev pub plain : List StyledChar → List ℕ
plain ss = map (λ s. s.c) ss
