-- The content of a verbatim field, as a relation by cases. Characters are numbers.
use Rattle.std.specs.Prelude.{◌≡◌, ℕ, true, false, ◌==◌, ◌||◌, List, [], ◌∷◌}
use Rattle.laws.specs.Characters.{backslash}
use Rattle.laws.specs.Runs.{Bars}
use Rattle.biblatex_readings_grammar.specs.Characters.{is_brace, is_escapable}

-- What is written, and what it gives.
pub data IsVerbatim : List ℕ → List ℕ → Type 0 where
  nothing : IsVerbatim [] []
  -- a backslash and one of these characters: that character
  escaped : (c : ℕ) (cs t : List ℕ) → is_escapable c ≡ true → IsVerbatim cs t → IsVerbatim (backslash ∷ c ∷ cs) (c ∷ t)
  -- another brace: nothing
  brace : (c : ℕ) (cs t : List ℕ) → is_brace c ≡ true → IsVerbatim cs t → IsVerbatim (c ∷ cs) t
  -- another backslash: itself
  lone_backslash : (cs t : List ℕ) → Bars is_escapable cs → IsVerbatim cs t → IsVerbatim (backslash ∷ cs) (backslash ∷ t)
  -- another character: itself
  itself : (c : ℕ) (cs t : List ℕ) → (is_brace c || c == backslash) ≡ false → IsVerbatim cs t → IsVerbatim (c ∷ cs) (c ∷ t)
