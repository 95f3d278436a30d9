-- How entries are shown, as bytes.
use Rattle.std.specs.Prelude.{ℕ, Bool, true, false, not, ◌||◌, ◌==◌, List, [], ◌∷◌, ◌++◌, flat_map, if◌then◌else◌, encode_utf8, codes}
use Rattle.std.specs.List.{AllByRecursion}
use Rattle.std.specs.Char.{is_control}
use Rattle.std.specs.Char.Escape.{escape_unicode}
use Rattle.laws.specs.Characters.{line_feed, space, dollar_sign, at_sign, backslash, open_brace, close_brace}
use Rattle.laws.specs.Text.{text}
use Rattle.biblatex.specs.Kind.{Kind}
use Rattle.biblatex.specs.Kind.TheVariants.{Normal, Verbatim}
use Rattle.biblatex.specs.Styled.{Member, Letter, Math}
use Rattle.biblatex.specs.Fields.{Named, AreInOrder}
use Rattle.biblatex.specs.Entries.{Source}

-- a backslash, a dollar sign, a brace or a control character
abbrev pub is_marked : ℕ → Bool
is_marked c = is_control c || (c == backslash || (c == dollar_sign || (c == open_brace || c == close_brace)))

-- any other character
abbrev pub is_plain : ℕ → Bool
is_plain c = not (is_marked c)

-- a character: \u{..} with its number in hexadecimal digits, or itself
abbrev pub shown_character : ℕ → List ℕ
shown_character c = if is_marked c then text (escape_unicode c) else encode_utf8 c

abbrev pub shown_characters : List ℕ → List ℕ
shown_characters cs = flat_map shown_character cs

-- the kind of characters
abbrev pub kind_of : Bool → Kind
kind_of true = Verbatim
kind_of false = Normal

-- the brace where verbatim characters end or begin: whether such came before, whether such come now
abbrev pub turning : Bool → Bool → List ℕ
turning true true = []
turning true false = close_brace ∷ []
turning false true = open_brace ∷ []
turning false false = []

-- Members, where verbatim characters may stand before them: those stand in braces, math between dollar signs.
abbrev pub shown_from : Bool → List Member → List ℕ
shown_from is_open [] = turning is_open false
shown_from is_open (Letter Normal c ∷ ms) = turning is_open false ++ (shown_character c ++ shown_from false ms)
shown_from is_open (Letter Verbatim c ∷ ms) = turning is_open true ++ (shown_character c ++ shown_from true ms)
shown_from is_open (Math cs ∷ ms) = turning is_open false ++ (dollar_sign ∷ (shown_characters cs ++ dollar_sign ∷ shown_from false ms))

-- a line for a field: two spaces, its name, an equals sign, its value
abbrev pub shown_field : Named → List ℕ
shown_field f = codes "  " ++ (f.0 ++ (codes " = " ++ (shown_from false f.1.text ++ line_feed ∷ [])))

-- a line for an entry with its type and key, and one for each of its fields
abbrev pub shown_entry : Source → List ℕ
shown_entry e = at_sign ∷ (e.entry_type.name ++ (space ∷ (e.key ++ (line_feed ∷ flat_map shown_field e.fields))))

abbrev pub shown : List Source → List ℕ
shown es = flat_map shown_entry es

-- the fields of each entry stand in the order of their names' bytes
abbrev pub AreAllInOrder : List Source → Type 0
AreAllInOrder es = AllByRecursion (λ e. AreInOrder e.fields) es
