-- Sets of texts, which are bytes.
use Rattle.std.specs.Prelude.{◌≡◌, ℕ, Bool, not, ◌||◌, List, Result, Ok, Err}
use Rattle.std.specs.Borrow.{Bor}
use Rattle.std.specs.Str.{bytes_eq}
use Rattle.std.specs.declared.cmp.Ordering.{Ordering}
use Rattle.std.specs.Ordering.{nat_cmp}
use Rattle.std.specs.Cmp.Lexicographic.{slice_cmp}
use Rattle.std.specs.BTreeSet.{BTreeSet, contains}
pub use Rattle.csl_nodes.specs.Words.{is_one_of}

-- how texts are ordered
abbrev pub text_cmp : Bor (List ℕ) → Bor (List ℕ) → Ordering
text_cmp a b = slice_cmp nat_cmp a.now b.now

-- a text as the key of a set
abbrev pub key_of : List ℕ → Bor (List ℕ)
key_of t = record { ref_ptr = (0, 0); now = t }

-- a set has the text
abbrev pub has_text : BTreeSet (Bor (List ℕ)) → List ℕ → Bool
has_text s t = contains text_cmp s (key_of t)

-- a set has the texts of a list
abbrev pub AreTexts : BTreeSet (Bor (List ℕ)) → List (List ℕ) → Type 0
AreTexts s ts = (t : List ℕ) → has_text s t ≡ is_one_of ts t

-- after adding a text: whether it was new, and which texts there are
abbrev pub Adds : {E : Type 0} → BTreeSet (Bor (List ℕ)) → BTreeSet (Bor (List ℕ)) → List ℕ → Result Bool E → Type 0
Adds old new t (Ok b) = (b ≡ not (has_text old t)) × ((u : List ℕ) → has_text new u ≡ (bytes_eq t u || has_text old u))
Adds old new t (Err e) = Unit {0}
