-- Tidied texts, by what is in them and in what order.
use Rattle.std.specs.Prelude.{◌≡◌, ◌⊎◌, ℕ, true, List, [], ◌∷◌, ◌++◌}
use Rattle.laws.specs.Characters.{space}
use Rattle.biblatex_tex.specs.Character.{is_blank}
use Rattle.biblatex_content.specs.Styled.{Member, Letter, Math}

-- A member is a blank, of either kind.
abbrev pub IsBlank : Member → Type 0
IsBlank (Letter kind c) = is_blank c ≡ true
IsBlank (Math t) = ⊥

-- All members are blanks.
abbrev pub AreBlank : List Member → Type 0
AreBlank [] = Unit {0}
AreBlank (m ∷ ms) = IsBlank m × AreBlank ms

-- The last member is a blank, or there is none.
abbrev pub EndsLoose : List Member → Type 0
EndsLoose ms = (ms ≡ []) ⊎ ((a : List Member) × (m : Member) × (ms ≡ a ++ m ∷ []) × IsBlank m)

-- A member becomes this one: a blank a space of its kind, and each other member itself.
abbrev pub Becomes : Member → Member → Type 0
Becomes m n = ((IsBlank m → ⊥) × (n ≡ m)) ⊎ ((kind : _) × (c : ℕ) × (m ≡ Letter kind c) × IsBlank m × (n ≡ Letter kind space))

-- Between what stands before it and what stands after it a blank may go: it is the first member, or stands after a blank, or
-- nothing but blanks stands after it.
abbrev pub MayGo : List Member → Member → List Member → Type 0
MayGo front m back = IsBlank m × (EndsLoose front ⊎ AreBlank back)

-- The members that stand after others, and those that they become: each stays in its order, but for blanks that may go.
pub data LeavesOut : List Member → List Member → List Member → Type 0 where
  done : (front : List Member) → LeavesOut front [] []
  stays : (front : List Member) (m n : Member) (ms ns : List Member) → Becomes m n → LeavesOut (front ++ m ∷ []) ms ns → LeavesOut front (m ∷ ms) (n ∷ ns)
  goes : (front : List Member) (m : Member) (ms ns : List Member) → MayGo front m ms → LeavesOut (front ++ m ∷ []) ms ns → LeavesOut front (m ∷ ms) ns

-- No blank stands at an end or after a blank.
abbrev pub IsTight : List Member → Type 0
IsTight ms = (front back : List Member) (m : Member) → ms ≡ front ++ m ∷ back → IsBlank m → (EndsLoose front → ⊥) × (back ≡ [] → ⊥)

-- A text, and what it is when it is tidied.
abbrev pub IsTidied : List Member → List Member → Type 0
IsTidied ms ns = LeavesOut [] ms ns × IsTight ns
