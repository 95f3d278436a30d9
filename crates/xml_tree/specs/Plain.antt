-- Characters that stand for themselves in texts without carriage returns. Characters are numbers.
use Rattle.std.specs.Prelude.{ℕ, Bool, not, ◌==◌, ◌&&◌, ◌||◌, List}
use Rattle.laws.specs.Runs.{after}
use Rattle.laws.specs.Text.{is_filled}

-- in character data all but carriage returns; in a value neither tabs nor line feeds
abbrev pub is_plain : Bool → ℕ → Bool
is_plain in_value c = not (c == 13 || in_value && (c == 9 || c == 10))

-- each character of a text does
abbrev pub are_plain : Bool → List ℕ → Bool
are_plain in_value cs = not (is_filled (after (is_plain in_value) cs))
