-- Texts by their numbers, and the cites that print them.
use Rattle.std.specs.Prelude.{◌≡◌, ℕ, ◌<◌, true, List, map, Option, Some, string_bytes}
use Rattle.std.specs.BTreeMap.{BTreeMap, btree_map_len}
use Rattle.std.specs.Map.{lookup}
use Rattle.std.specs.Str.{bytes_eq}
use Rattle.driver_names.specs.declared.printed.Printed.{Printed}
use Rattle.driver_disambiguation.specs.declared.hashed_text.HashedText.{HashedText}

-- the number of the text of these bytes, if it has one
abbrev pub number_under : BTreeMap HashedText ℕ → List ℕ → Option ℕ
number_under texts q = lookup (λ k. bytes_eq q (string_bytes k.text)) texts.entries

-- texts of one number are the same
abbrev pub AreInjective : BTreeMap HashedText ℕ → Type 0
AreInjective texts = (q r : List ℕ) (n : ℕ) → number_under texts q ≡ Some n → number_under texts r ≡ Some n → bytes_eq q r ≡ true

-- the numbers of texts are below how many these are
abbrev pub AreBelow : BTreeMap HashedText ℕ → Type 0
AreBelow texts = (q : List ℕ) (n : ℕ) → number_under texts q ≡ Some n → n < btree_map_len texts

-- each text has a number of its own, below how many texts there are
abbrev pub AreNumbers : BTreeMap HashedText ℕ → Type 0
AreNumbers texts = AreInjective texts × AreBelow texts

-- each text has the number that it had
abbrev pub AreStill : BTreeMap HashedText ℕ → BTreeMap HashedText ℕ → Type 0
AreStill old new = (q : List ℕ) (n : ℕ) → number_under old q ≡ Some n → number_under new q ≡ Some n

-- the number of the text that a cite prints
abbrev pub number_of : BTreeMap HashedText ℕ → Printed → Option ℕ
number_of texts s = number_under texts (string_bytes s.text)

-- cites have the numbers of what they print
abbrev pub AreNumbered : BTreeMap HashedText ℕ → List ℕ → List Printed → Type 0
AreNumbered texts numbers ss = AreNumbers texts × (map (number_of texts) ss ≡ map Some numbers)
