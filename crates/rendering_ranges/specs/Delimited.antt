-- Another text in place of the en dashes of ranges.
use Rattle.std.specs.Prelude.{◌≡◌, ℕ, ◌==◌, ◌&&◌, ◌||◌, Bool, false, not, List, [], ◌∷◌, ◌++◌, if◌then◌else◌}
use Rattle.laws.specs.Characters.{en_dash}
use Rattle.laws.specs.Text.{is_filled}
use Rattle.rendering_ranges.specs.Dashes.{dash_follows, has_come_after}

-- an en dash that is the only dash between commas and ampersands is the delimiter; whether a dash
-- has come
abbrev pub exchanged : List ℕ → Bool → ℕ → List ℕ → List ℕ
exchanged delimiter has_come c cs =
    if c == en_dash && not (has_come || dash_follows cs) then delimiter else c ∷ []

-- each character of a text as it is printed
abbrev pub delimited_after : List ℕ → Bool → List ℕ → List ℕ
delimited_after delimiter has_come [] = []
delimited_after delimiter has_come (c ∷ cs) =
    exchanged delimiter has_come c cs
    ++ delimited_after delimiter (has_come_after has_come c) cs

-- a text with a delimiter in its ranges; without one it stays as it is
abbrev pub delimited : List ℕ → List ℕ → List ℕ
delimited delimiter cs =
    if is_filled delimiter then delimited_after delimiter false cs else cs

-- Where an en dash is the delimiter, a text stays as it is.
abbrev pub EnDashesStay : Type 0
EnDashesStay = (cs : List ℕ) → delimited (en_dash ∷ []) cs ≡ cs
