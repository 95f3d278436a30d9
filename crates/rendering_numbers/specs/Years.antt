-- Years as texts.
use Rattle.std.specs.Prelude.{ℕ, ◌+◌, ◌%◌, Bool, ◌==◌, nat_le, List, ◌++◌, if◌then◌else◌, ℤ, pos, negsuc}
use Rattle.std.specs.Fmt.{decimal}
use Rattle.date_parts.specs.Written.{padded}

-- a year from 1 on: of one from 1000 on only the last two digits where it is short; one below has its era after it
abbrev pub year_since : ℕ → Bool → List ℕ → List ℕ
year_since n short ad = if nat_le 1000 n then (if short then padded 2 (n % 100) else decimal n) else decimal n ++ ad

-- A year with what is written for its era. Years before 1 are counted back from there: the year 0 is the first of them.
abbrev pub year_text : ℤ → Bool → List ℕ → List ℕ → List ℕ
year_text (pos n) short ad bc = if n == 0 then decimal 1 ++ bc else year_since n short ad
year_text (negsuc n) short ad bc = decimal (n + 2) ++ bc
