-- Reading from the left: what stands there, and the text after it, or that it does not stand there. Characters are numbers.
use Rattle.std.specs.Prelude.{ℕ, Bool, true, false, ◌==◌, ◌&&◌, nat_lt, nat_le, ◌^◌, List, [], ◌∷◌, length, if◌then◌else◌, Result, Ok, Err, ℤ, pos}
use Rattle.std.specs.Str.Parse.{digits_value}
use Rattle.laws.specs.Runs.{prefix_of, after}
use Rattle.texts.specs.Character.{passes}
use Rattle.texts.specs.declared.character.Class.TheVariants.{Digit, Mark}
use Rattle.texts.specs.declared.reader.Unreadable.{Unreadable}
use Rattle.texts.specs.declared.reader.Unreadable.TheVariants.{NotThere}

-- digits spell a number: one digit or more, and at most 2147483647
abbrev pub is_number : List ℕ → Bool
is_number digits = nat_lt 0 (length digits) && nat_lt (digits_value 10 digits) (2 ^ 31)

-- the number that the digits from the start on spell
abbrev pub number_at : List ℕ → Result (ℤ × List ℕ) Unreadable
number_at cs = if is_number (prefix_of (passes Digit) cs) then Ok (pos (digits_value 10 (prefix_of (passes Digit) cs)), after (passes Digit) cs) else Err NotThere

-- the number of a run of digits of which there are at least and at most so many
abbrev pub digits_at : ℕ → ℕ → List ℕ → Result (ℕ × List ℕ) Unreadable
digits_at least most cs =
    if nat_le least (length (prefix_of (passes Digit) cs)) && nat_le (length (prefix_of (passes Digit) cs)) most then Ok (digits_value 10 (prefix_of (passes Digit) cs), after (passes Digit) cs) else Err NotThere

-- one character is wanted
abbrev pub token_at : ℕ → List ℕ → Result (List ℕ) Unreadable
token_at c [] = Err NotThere
token_at c (d ∷ cs) = if d == c then Ok cs else Err NotThere

-- whether a character stands here, and what follows it
abbrev pub taken : ℕ → List ℕ → Bool × List ℕ
taken c [] = (false, [])
taken c (d ∷ cs) = if d == c then (true, cs) else (false, d ∷ cs)

-- a mark of an uncertain or approximate date, or nothing
abbrev pub mark_at : List ℕ → Bool × List ℕ
mark_at [] = (false, [])
mark_at (c ∷ cs) = if passes Mark c then (true, cs) else (false, c ∷ cs)

-- the text is at its end
abbrev pub end_at : List ℕ → Result (List ℕ) Unreadable
end_at [] = Ok []
end_at (c ∷ cs) = Err NotThere
