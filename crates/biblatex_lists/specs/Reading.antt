-- Reading a list of people.
use Rattle.std.specs.Prelude.{ℕ, zero, suc, ◌-◌, Bool, true, false, ◌==◌, ◌&&◌, List, [], ◌∷◌, ◌++◌, map, flat_map, length, take, drop, if◌then◌else◌, Option, Some, None, codes}
use Rattle.std.specs.List.{filter, list_all}
use Rattle.std.specs.Str.{bytes_eq}
use Rattle.laws.specs.Characters.{lower_e, lower_h, lower_o, lower_r, lower_s, lower_t}
use Rattle.laws.specs.Text.{text, is_filled}
use Rattle.biblatex_content.specs.Styled.{Member}
use Rattle.biblatex_lists.specs.declared.styled_char.StyledChar.{StyledChar}
use Rattle.biblatex_lists.specs.StyledChars.{styled_chars, plain}
use Rattle.biblatex_lists.specs.Parts.{parts, trimmed}
use Rattle.biblatex_lists.specs.declared.words.Mark.TheVariants.{Comma, Equals}
use Rattle.biblatex_lists.specs.Words.{split_once, cut_at, words, joined_words, small_at, lead_count}

-- The parts of a person's name, as characters.
pub record Named : Type 0 where
  pub name : List ℕ
  pub given_name : List ℕ
  pub prefix : List ℕ
  pub suffix : List ℕ

-- a person of whose name no part is there
abbrev pub nobody : Named
nobody = record { name = []; given_name = []; prefix = []; suffix = [] }

-- whether there is a word in any part
abbrev pub is_named : Named → Bool
is_named n = is_filled (n.name ++ n.given_name ++ n.prefix ++ n.suffix)

-- without small words before the last word: the last word is the name, the rest is given
abbrev pub by_last_word : List (List StyledChar) → Named
by_last_word ws = record nobody { name = joined_words (drop (length ws - 1) ws); given_name = joined_words (take (length ws - 1) ws) }

-- with small words, the last of which ends the first part: the prefix goes from the first of them on, and the name follows it
abbrev pub by_small_words : List (List StyledChar) → List (List StyledChar) → Named
by_small_words leading name = record nobody {
  name = joined_words name;
  given_name = joined_words (take (small_at leading) leading);
  prefix = joined_words (drop (small_at leading) leading);
}

-- a name without commas, so many of whose words end in the last small word other than the last word
abbrev pub by_count : ℕ → List (List StyledChar) → Named
by_count zero ws = by_last_word ws
by_count (suc n) ws = by_small_words (take (suc n) ws) (drop (suc n) ws)

-- a name without commas
abbrev pub without_commas : List (List StyledChar) → Named
without_commas ws = by_count (lead_count ws) ws

-- a name with commas: the words of the first part up to the last small one other than the last word are the prefix
abbrev pub with_commas : List (List StyledChar) → List (List StyledChar) → List (List StyledChar) → Named
with_commas ws suffix given = record {
  name = joined_words (drop (lead_count ws) ws);
  given_name = joined_words given;
  prefix = joined_words (take (lead_count ws) ws);
  suffix = joined_words suffix;
}

-- the parts between commas: the name; the name and what is given; the name, the suffix, and what is given
abbrev pub by_parts : List (List StyledChar) → Named
by_parts [] = nobody
by_parts (p ∷ []) = without_commas (words p)
by_parts (p ∷ q ∷ []) = with_commas (words p) [] (words q)
by_parts (p ∷ q ∷ r ∷ ps) = with_commas (words p) (words q) (flat_map words (r ∷ ps))

-- a key, as bytes, and the words of its value
abbrev pub pair_of : Option (List StyledChar × List StyledChar) → Option (List ℕ × List ℕ)
pair_of None = None
pair_of (Some p) = if is_filled (trimmed p.0) then Some (text (plain (trimmed p.0)), joined_words (words p.1)) else None

-- the key and the value around the first equals sign; there must be a key
abbrev pub pair : List StyledChar → Option (List ℕ × List ℕ)
pair ss = pair_of (split_once Equals ss)

abbrev pub is_some : {A : Type 0} → Option A → Bool
is_some None = false
is_some (Some x) = true

-- the value of a key; other keys are dropped
abbrev pub with_value : List ℕ → List ℕ → Named → Named
with_value key value n = if bytes_eq key (codes "family") then record n { name = value }
    else (if bytes_eq key (codes "given") then record n { given_name = value }
    else (if bytes_eq key (codes "prefix") then record n { prefix = value }
    else (if bytes_eq key (codes "suffix") then record n { suffix = value } else n)))

abbrev pub with_pair : Option (List ℕ × List ℕ) → Named → Named
with_pair None n = n
with_pair (Some p) n = with_value p.0 p.1 n

-- parts that are keys and values; of equal keys the last one counts
abbrev pub with_pairs : List (List StyledChar) → Named → Named
with_pairs [] n = n
with_pairs (p ∷ ps) n = with_pairs ps (with_pair (pair p) n)

-- the person whose name these parts between commas are
abbrev pub person_of : List (List StyledChar) → Named
person_of ps = if list_all (λ p. is_some (pair p)) ps then with_pairs ps nobody else by_parts ps

-- the person whose name a text is
abbrev pub person_in : List StyledChar → Named
person_in ss = person_of (cut_at Comma ss)

-- whether a text has some part of a name
abbrev pub is_someone : List StyledChar → Bool
is_someone ss = is_named (person_in ss)

-- the Normal letter, in this case
abbrev pub is_letter : ℕ → StyledChar → Bool
is_letter c s = s.is_normal && s.c == c

-- whether the text is `others`, in Normal letters of lower case
abbrev pub is_others : List StyledChar → Bool
is_others (o ∷ t ∷ h ∷ e ∷ r ∷ s ∷ []) = is_letter lower_o o && is_letter lower_t t && is_letter lower_h h && is_letter lower_e e && is_letter lower_r r && is_letter lower_s s
is_others ss = false

-- whether the last text is `others`
abbrev pub ends_in_others : List (List StyledChar) → Bool
ends_in_others [] = false
ends_in_others (p ∷ []) = is_others p
ends_in_others (p ∷ q ∷ ps) = ends_in_others (q ∷ ps)

-- the texts without a last `others`
abbrev pub without_others : List (List StyledChar) → List (List StyledChar)
without_others ps = if ends_in_others ps then take (length ps - 1) ps else ps

-- the people in parts between `and`
abbrev pub people_of : List (List StyledChar) → List Named
people_of ps = map person_in (without_others (filter is_someone ps))

-- the people in a value
abbrev pub people_in : List Member → List Named
people_in ms = people_of (parts (styled_chars ms))
