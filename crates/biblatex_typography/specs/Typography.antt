-- What LaTeX prints for apostrophes and quotation marks as they are typed, in the texts of entries.
use Rattle.std.specs.Prelude.{ℕ, Bool, false, ◌==◌, ◌&&◌, ◌||◌, List, [], ◌∷◌, map, if◌then◌else◌}
use Rattle.laws.specs.Characters.{apostrophe, grave_accent, left_single_quotation_mark, right_single_quotation_mark, left_double_quotation_mark, right_double_quotation_mark}
use Rattle.biblatex_content.specs.declared.chunk.Kind.TheVariants.{Normal, Verbatim}
use Rattle.biblatex_content.specs.Styled.{Member, Letter, Math}
use Rattle.biblatex_content.specs.Verbatim.{is_verbatim_name}
use Rattle.biblatex_fields.specs.Fields.{Named}
use Rattle.biblatex_fields.specs.Value.{Value}
use Rattle.biblatex_entries.specs.Entries.{Source}
use Rattle.biblatex_meaning.specs.Listed.{Listed}

-- a mark: ' or `
abbrev pub is_mark : ℕ → Bool
is_mark c = c == apostrophe || c == grave_accent

-- what a character prints by itself: ' is ’, ` is ‘, and all others are themselves
abbrev pub single : ℕ → ℕ
single c =
    if c == apostrophe then right_single_quotation_mark
    else if c == grave_accent then left_single_quotation_mark
    else c

-- what two equal marks print: '' is ”, and `` is “
abbrev pub double : ℕ → ℕ
double c =
    if c == apostrophe then right_double_quotation_mark else left_double_quotation_mark

abbrev pub is_pair : ℕ → ℕ → Bool
is_pair c d = is_mark c && c == d

-- from the left, two neighbours that are a pair become one, and each of the others becomes one by itself
abbrev pub paired : {A : Type 0} → (A → A → Bool) → (A → A) → (A → A) → List A → List A
paired are_pair of_pair of_one [] = []
paired are_pair of_pair of_one (a ∷ []) = of_one a ∷ []
paired are_pair of_pair of_one (a ∷ b ∷ rest) =
    if are_pair a b
    then of_pair a ∷ paired are_pair of_pair of_one rest
    else of_one a ∷ paired are_pair of_pair of_one (b ∷ rest)

-- characters as they are printed
abbrev pub typographic_text : List ℕ → List ℕ
typographic_text cs = paired is_pair double single cs

-- a member with another character; a formula stays
abbrev pub with_character : (ℕ → ℕ) → Member → Member
with_character f (Letter kind c) = Letter kind (f c)
with_character f (Math cs) = Math cs

-- marks of one kind of text are a pair
abbrev pub are_pair : Member → Member → Bool
are_pair (Letter Normal c) (Letter Normal d) = is_pair c d
are_pair (Letter Verbatim c) (Letter Verbatim d) = is_pair c d
are_pair m n = false

-- a content as it is printed
abbrev pub typographic : List Member → List Member
typographic ms = paired are_pair (with_character double) (with_character single) ms

abbrev pub typographic_value : Value → Value
typographic_value v = record { text = typographic v.text; spans = v.spans; is_joined = v.is_joined }

-- fields that are read verbatim stay
abbrev pub typographic_field : Named → Named
typographic_field f = if is_verbatim_name f.0 then f else (f.0, typographic_value f.1)

abbrev pub typographic_entry : Source → Source
typographic_entry e = record {
  key = e.key;
  entry_type = e.entry_type;
  fields = map typographic_field e.fields;
}

-- each entry under the names that it has
abbrev pub typographic_file : Listed → Listed
typographic_file b = record { entries = map typographic_entry b.entries; index = b.index }
