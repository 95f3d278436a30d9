-- Classes of characters of XML 1.0, fifth edition, and of its namespaces. Characters are numbers.
use Rattle.std.specs.Prelude.{ℕ, Bool, not, ◌==◌, ◌||◌, ◌&&◌, nat_le, List, [], ◌∷◌}
use Rattle.std.specs.List.{list_any}
use Rattle.xml_text.specs.declared.character.Class.{Class}
use Rattle.xml_text.specs.declared.character.Class.TheVariants.{Legal, Space, NameStart, NameCharacter, Digit, HexDigit, DoubleQuoted, SingleQuoted}

-- a character from the first to the last
abbrev pub lies_in : ℕ → ℕ × ℕ → Bool
lies_in c range = nat_le range.0 c && nat_le c range.1

abbrev pub lies_in_one : List (ℕ × ℕ) → ℕ → Bool
lies_in_one ranges c = list_any (λ range. lies_in c range) ranges

-- Char: no control character but tab, line feed and carriage return, no surrogate, neither U+FFFE nor U+FFFF
abbrev pub legal_ranges : List (ℕ × ℕ)
legal_ranges = (0x9, 0xA) ∷ (0xD, 0xD) ∷ (0x20, 0xD7FF) ∷ (0xE000, 0xFFFD) ∷ (0x10000, 0x10FFFF) ∷ []

-- NameStartChar but for the colon
abbrev pub name_start_ranges : List (ℕ × ℕ)
name_start_ranges =
    (0x41, 0x5A) ∷ (0x5F, 0x5F) ∷ (0x61, 0x7A) ∷ (0xC0, 0xD6) ∷ (0xD8, 0xF6) ∷ (0xF8, 0x2FF) ∷ (0x370, 0x37D) ∷ (0x37F, 0x1FFF) ∷ (0x200C, 0x200D) ∷
    (0x2070, 0x218F) ∷ (0x2C00, 0x2FEF) ∷ (0x3001, 0xD7FF) ∷ (0xF900, 0xFDCF) ∷ (0xFDF0, 0xFFFD) ∷ (0x10000, 0xEFFFF) ∷ []

-- what NameChar has beside them
abbrev pub name_more_ranges : List (ℕ × ℕ)
name_more_ranges = (0x2D, 0x2E) ∷ (0x30, 0x39) ∷ (0xB7, 0xB7) ∷ (0x300, 0x36F) ∷ (0x203F, 0x2040) ∷ []

-- S
abbrev pub is_space : ℕ → Bool
is_space c = c == 32 || c == 9 || c == 10 || c == 13

-- Whether a character is of a class: Char; S; what a name may begin with and have in it, but for the colon; a digit; a hexadecimal digit;
-- what an attribute's value may have in it between either quotes, but for references.
unfoldable pub passes : Class → ℕ → Bool
passes Legal c = lies_in_one legal_ranges c
passes Space c = is_space c
passes NameStart c = lies_in_one name_start_ranges c
passes NameCharacter c = lies_in_one name_start_ranges c || lies_in_one name_more_ranges c
passes Digit c = lies_in c (0x30, 0x39)
passes HexDigit c = lies_in c (0x30, 0x39) || lies_in c (0x41, 0x46) || lies_in c (0x61, 0x66)
passes DoubleQuoted c = lies_in_one legal_ranges c && not (c == 60 || c == 38 || c == 34)
passes SingleQuoted c = lies_in_one legal_ranges c && not (c == 60 || c == 38 || c == 39)
