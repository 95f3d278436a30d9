-- Math pieces. Characters are numbers.
use Rattle.std.specs.Prelude.{◌≡◌, ℕ, Bool, true, false, ◌==◌, ◌||◌, ◌&&◌, not, List, [], ◌∷◌, ◌++◌}
use Rattle.laws.specs.Characters.{dollar_sign, backslash, open_brace, close_brace}

-- No brace and no backslash stands for itself, and a dollar sign only within braces.
abbrev pub bars : Bool → ℕ → Bool
bars within c = c == open_brace || c == close_brace || c == backslash || (c == dollar_sign && not within)

-- A text with balanced braces, outside braces or within them: nothing; a character, then more; a backslash and the character that it
-- takes, then more; braces around a text, then more.
pub data IsBalanced : Bool → List ℕ → Type 0 where
  nothing : (within : Bool) → IsBalanced within []
  character : (within : Bool) (c : ℕ) (more : List ℕ) → bars within c ≡ false → IsBalanced within more → IsBalanced within (c ∷ more)
  escaped : (within : Bool) (c : ℕ) (more : List ℕ) → IsBalanced within more → IsBalanced within (backslash ∷ c ∷ more)
  braces : (within : Bool) (inner more : List ℕ) → IsBalanced true inner → IsBalanced within more → IsBalanced within (open_brace ∷ (inner ++ close_brace ∷ more))

-- After a dollar sign: what stands up to the next one at its depth of braces, and what follows that one.
abbrev pub IsMath : List ℕ → List ℕ → List ℕ → Type 0
IsMath cs t rest = IsBalanced false t × (cs ≡ t ++ dollar_sign ∷ rest)

-- A dollar sign before this text has no partner.
abbrev pub LacksPartner : List ℕ → Type 0
LacksPartner cs = (t rest : List ℕ) → IsMath cs t rest → ⊥
