-- The months and days that there are, by cases. They count from one. The year before 1 is 0, and a year before 0 is as long as the one
-- that is as far after it.
use Rattle.std.specs.Prelude.{◌≡◌, ℕ, ◌≤◌, ◌%◌, ◌⊎◌}

-- Every fourth year is a leap year, but of the centuries only every fourth.
abbrev pub IsLeap : ℕ → Type 0
IsLeap y = (y % 4 ≡ 0) × (y % 100 ≡ 0 → y % 400 ≡ 0)

-- A month is one of twelve.
abbrev pub IsMonth : ℕ → Type 0
IsMonth m = (1 ≤ m) × (m ≤ 12)

-- The numbers 21 to 24 stand for seasons.
abbrev pub IsSeason : ℕ → Type 0
IsSeason m = (21 ≤ m) × (m ≤ 24)

-- April, June, September and November
abbrev pub IsShort : ℕ → Type 0
IsShort m = (m ≡ 4) ⊎ ((m ≡ 6) ⊎ ((m ≡ 9) ⊎ (m ≡ 11)))

-- Each month has the days 1 to 28. February has a day 29 in a leap year. Every other month has 29 and 30, and those that are not short
-- have 31.
abbrev pub HasDay : ℕ → ℕ → ℕ → Type 0
HasDay y m d = (1 ≤ d)
    × ((d ≤ 28) ⊎ (((d ≡ 29) × (m ≡ 2) × IsLeap y) ⊎ (((d ≤ 30) × (m ≡ 2 → ⊥)) ⊎ ((d ≡ 31) × (m ≡ 2 → ⊥) × (IsShort m → ⊥)))))
