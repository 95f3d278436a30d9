-- Entries under the numbers of their keys. Keys are bytes.
use Rattle.std.specs.Prelude.{◌≡◌, ℕ, ◌<◌, true, List, map, Option, Some}
use Rattle.std.specs.Str.{bytes_eq}
use Rattle.literature_entries.specs.Views.{key_view}
use Rattle.literature_entries.specs.declared.entry.Entry.{Entry}

-- each entry is under the number of its key
abbrev pub AreUnder : (List ℕ → Option ℕ) → List (ℕ × Entry) → Type 0
AreUnder number_of es = map (λ e. number_of (key_view e.1)) es ≡ map (λ e. Some e.0) es

-- keys of one number are the same
abbrev pub AreInjective : (List ℕ → Option ℕ) → Type 0
AreInjective number_of = (p q : List ℕ) (n : ℕ) → number_of p ≡ Some n → number_of q ≡ Some n → bytes_eq p q ≡ true

-- all numbers are below the next one
abbrev pub AreBelow : (List ℕ → Option ℕ) → ℕ → Type 0
AreBelow number_of next = (q : List ℕ) (n : ℕ) → number_of q ≡ Some n → n < next

-- each key has a number of its own, below the next one, and each entry is under that of its key
abbrev pub AreNumbered : (List ℕ → Option ℕ) → ℕ → List (ℕ × Entry) → Type 0
AreNumbered number_of next es = AreUnder number_of es × AreInjective number_of × AreBelow number_of next
