-- Words, each once, and the places at which they stand. Words are bytes.
use Rattle.std.specs.Prelude.{◌≡◌, ℕ, Bool, not, List, [], ◌∷◌, ◌++◌, filter, if◌then◌else◌, Option, String}
use Rattle.std.specs.BTreeMap.{BTreeMap, get_by_text}
use Rattle.std.specs.Global.{Global}
use Rattle.std.specs.List.{list_any, position}
use Rattle.std.specs.Str.{bytes_eq}

-- a word is one of these
abbrev pub is_one_of : List (List ℕ) → List ℕ → Bool
is_one_of words t = list_any (λ (w : List ℕ). bytes_eq w t) words

-- words with one more, unless it is one of them
abbrev pub with_word : List (List ℕ) → List ℕ → List (List ℕ)
with_word words t = if is_one_of words t then words else words ++ t ∷ []

-- each word of a list where it comes first
abbrev pub each_once : List (List ℕ) → List (List ℕ)
each_once [] = []
each_once (w ∷ ws) = w ∷ filter (λ (v : List ℕ). not (bytes_eq w v)) (each_once ws)

-- the place of a word among these, if it is one of them
abbrev pub place_among : List (List ℕ) → List ℕ → Option ℕ
place_among words t = position (λ (w : List ℕ). bytes_eq w t) words

-- a map has the place of each of these words, and nothing else
abbrev pub ArePlaces : BTreeMap (String Global) ℕ → List (List ℕ) → Type 0
ArePlaces places words = (t : List ℕ) → get_by_text places t ≡ place_among words t
