-- What stands between numbers. Characters are numbers.
use Rattle.std.specs.Prelude.{ℕ, ◌==◌, List, [], ◌∷◌, if◌then◌else◌, Option, Some, None}
use Rattle.laws.specs.Characters.{ampersand, comma}
use Rattle.laws.specs.Runs.{after}
use Rattle.texts.specs.Character.{passes}
use Rattle.texts.specs.declared.character.Class.TheVariants.{Space, Dash}
use Rattle.literature_numbers.specs.declared.separator.NumericDelimiter.{NumericDelimiter}
use Rattle.literature_numbers.specs.declared.separator.NumericDelimiter.TheVariants.{Comma, Ampersand, Hyphen}

-- a comma, an ampersand, or dashes
abbrev pub delimiter_at : List ℕ → Option (NumericDelimiter × List ℕ)
delimiter_at [] = None
delimiter_at (c ∷ cs) = if c == comma then Some (Comma, cs) else (if c == ampersand then Some (Ampersand, cs) else (if passes Dash c then Some (Hyphen, after (passes Dash) cs) else None))

-- spaces round a separator go with it
abbrev pub between : List ℕ → Option (NumericDelimiter × List ℕ) → Option NumericDelimiter × List ℕ
between cs None = (None, cs)
between cs (Some (d, rest)) = (Some d, after (passes Space) rest)

-- the separator that stands here, with spaces round it, or nothing
unfoldable pub separator_at : List ℕ → Option NumericDelimiter × List ℕ
separator_at cs = between cs (delimiter_at (after (passes Space) cs))
