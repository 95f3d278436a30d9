-- The longest prefix of a text whose characters all pass a test.
use Rattle.std.specs.Prelude.{◌≡◌, ℕ, Bool, true, false, List, [], ◌∷◌, if◌then◌else◌}

-- the characters from the start on that pass
abbrev pub prefix_of : (ℕ → Bool) → List ℕ → List ℕ
prefix_of test [] = []
prefix_of test (c ∷ cs) = if test c then c ∷ prefix_of test cs else []

-- what follows them
abbrev pub after : (ℕ → Bool) → List ℕ → List ℕ
after test [] = []
after test (c ∷ cs) = if test c then after test cs else c ∷ cs

-- each character passes
abbrev pub AllPassTest : (ℕ → Bool) → List ℕ → Type 0
AllPassTest test [] = Unit {0}
AllPassTest test (c ∷ cs) = (test c ≡ true) × AllPassTest test cs

-- no run begins here: the text is empty, or its first character does not pass
abbrev pub Bars : (ℕ → Bool) → List ℕ → Type 0
Bars test [] = Unit {0}
Bars test (c ∷ cs) = test c ≡ false
