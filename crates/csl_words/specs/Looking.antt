-- What tables have for texts, and what the attributes of an element say. Texts are bytes here, as the words of tables are; those of a tree are
-- characters.
use Rattle.std.specs.Prelude.{ℕ, ℤ, Bool, false, not, ◌==◌, List, [], length, map, if◌then◌else◌, Option, Some, None, option_and_then, unwrap_or, Result, Ok, Err, filter, filter_map, unsigned_abs}
use Rattle.std.specs.Borrow.{Bor}
use Rattle.std.specs.List.{find, slice_split}
use Rattle.std.specs.Option.{option_map}
use Rattle.std.specs.Str.{bytes_eq}
use Rattle.laws.specs.Characters.{space}
use Rattle.laws.specs.Text.{text, is_filled}
use Rattle.texts.specs.Reading.{number_at}
use Rattle.texts.specs.declared.reader.Unreadable.{Unreadable}
use Rattle.xml_text.specs.Tokens.{At}
use Rattle.xml_tree.specs.Trees.{Attribute, Element, Tagged}
use Rattle.xml_schema.specs.Faults.{is_had}
use Rattle.csl_words.specs.declared.options.TheConstants.{BOOLEANS}

-- a word of a constant
abbrev pub Word : Type 0
Word = record { now : List ℕ }

-- a table of words, each with what it stands for, as a constant has it
abbrev pub table : {X : Type 0} → List (Word × X) → List (List ℕ × X)
table {X} rows = map (λ (r : Word × X). (r.0.now, r.1)) rows

-- a table as code is handed it
abbrev pub row_view : {X : Type 0} → Bor (List ℕ) × X → List ℕ × X
row_view r = (r.0.now, r.1)

abbrev pub table_view : {X : Type 0} → List (Bor (List ℕ) × X) → List (List ℕ × X)
table_view {X} rows = map (λ (r : Bor (List ℕ) × X). row_view r) rows

-- what the first row of that word has
unfoldable pub in_table : {X : Type 0} → List (List ℕ × X) → List ℕ → Option X
in_table {X} rows t = option_map (λ (r : List ℕ × X). r.1) (find (λ (r : List ℕ × X). bytes_eq t r.0) rows)

-- the value of the first attribute of that name without a namespace, if there is one
abbrev pub value_among : List ℕ → List (At Attribute) → Option (List ℕ)
value_among name attributes = option_map (λ (a : At Attribute). a.v.value) (find (is_had name) attributes)

abbrev pub attribute : List ℕ → Element → Option (List ℕ)
attribute name (Tagged left n attributes content) = value_among name attributes

-- the value of an attribute, empty where there is none
abbrev pub text_of : List ℕ → Element → List ℕ
text_of name e = unwrap_or (attribute name e) []

-- the value of an attribute is that word
abbrev pub says : List ℕ → List ℕ → Element → Bool
says name word e = bytes_eq (text (text_of name e)) word

-- what a table has for the value of an attribute; nothing where there is none
abbrev pub value_by : {X : Type 0} → List (List ℕ × X) → List ℕ → Element → Option X
value_by {X} rows name e = option_and_then (λ (value : List ℕ). in_table rows (text value)) (attribute name e)

-- whether something is so, if an attribute says it
abbrev pub is_set : List ℕ → Element → Option Bool
is_set name e = value_by (table BOOLEANS.now) name e

-- the value of an attribute says that something is so
abbrev pub is_true : List ℕ → Element → Bool
is_true name e = unwrap_or (is_set name e) false

-- a number that was read, if nothing follows it
abbrev pub whole_number : Result (ℤ × List ℕ) Unreadable → Option ℕ
whole_number (Ok p) = if is_filled p.1 then None else Some (unsigned_abs p.0)
whole_number (Err e) = None

-- the number that characters are, if they are nothing but the digits of one
abbrev pub number_in : List ℕ → Option ℕ
number_in cs = whole_number (number_at cs)

-- the number that an attribute says
abbrev pub number : List ℕ → Element → Option ℕ
number name e = option_and_then number_in (attribute name e)

-- a part of a text is a word
abbrev pub is_word : List ℕ → Bool
is_word part = not (length part == 0)

-- the words of a text, which spaces part
abbrev pub words_of : List ℕ → List (List ℕ)
words_of t = filter is_word (slice_split (λ b. b == space) t)

-- the words in the value of an attribute
abbrev pub words_in : List ℕ → Element → List (List ℕ)
words_in name e = words_of (text (text_of name e))

-- what a table has for them; a word that it lacks is passed over
abbrev pub values_by : {X : Type 0} → List (List ℕ × X) → List ℕ → Element → List X
values_by {X} rows name e = filter_map (in_table rows) (words_in name e)
