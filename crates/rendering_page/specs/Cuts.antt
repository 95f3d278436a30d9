-- How a text is cut from its end.
use Rattle.std.specs.Prelude.{◌≡◌, ◌<◌, ◌+◌, ℕ, List, [], ◌++◌, length}

-- A text is cut before its last characters, so many of them; or all of it is cut, and so many are missing.
pub record IsCut (cs : List ℕ) (count : ℕ) (leading back : List ℕ) (missing : ℕ) : Type 0 where
  pub parts : cs ≡ leading ++ back
  pub long : length back + missing ≡ count
  pub all : 0 < missing → leading ≡ []
