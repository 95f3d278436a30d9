-- Ranges of pages: which texts are read, and how they are written. Characters are numbers.
use Rattle.std.specs.Prelude.{ℕ, ◌<◌, ◌^◌, ◌==◌, ◌||◌, List, [], ◌∷◌, ◌++◌, if◌then◌else◌, Option, Some, None, Result, Ok, Err, unsigned_abs}
use Rattle.std.specs.List.{flat_map}
use Rattle.std.specs.Fmt.{decimal}
use Rattle.std.specs.declared.ops.Range.{Range}
use Rattle.laws.specs.Characters.{space, ampersand, comma, en_dash}
use Rattle.laws.specs.Results.{◌>>=◌}
use Rattle.laws.specs.Runs.{after}
use Rattle.laws.specs.Steps.{each}
use Rattle.texts.specs.Character.{passes}
use Rattle.texts.specs.Reading.{number_at}
use Rattle.texts.specs.declared.character.Class.TheVariants.{Space, Dash}
use Rattle.texts.specs.declared.reader.Unreadable.{Unreadable}
use Rattle.biblatex_content.specs.declared.chunk.Kind.TheVariants.{Normal}
use Rattle.biblatex_content.specs.Styled.{Member, letters, plain}
use Rattle.biblatex_dates.specs.declared.error.TypeErrorKind.{TypeErrorKind}
use Rattle.biblatex_dates.specs.declared.error.TypeErrorKind.TheVariants as faults

-- the pages from one to another
abbrev pub from_to : ℕ → ℕ → Range ℕ
from_to first last = record { start = first; end = last }

-- a number of one digit or more, at most 2147483647
abbrev pub page_at : List ℕ → Result (ℕ × List ℕ) Unreadable
page_at cs = number_at cs >>= λ n. Ok (unsigned_abs n.0, n.1)

-- after dashes, and the spaces after them
abbrev pub dashes_from : List ℕ → Option (List ℕ)
dashes_from [] = None
dashes_from (c ∷ cs) = if passes Dash c then Some (after (passes Space) (after (passes Dash) (c ∷ cs))) else None

-- what stands after dashes with spaces round them, if there are any
abbrev pub dashes_after : List ℕ → Option (List ℕ)
dashes_after cs = dashes_from (after (passes Space) cs)

-- after a comma or an ampersand, and the spaces after it
abbrev pub comma_from : List ℕ → Option (List ℕ)
comma_from [] = None
comma_from (c ∷ cs) = if c == comma || c == ampersand then Some (after (passes Space) cs) else None

-- what stands after a comma or an ampersand with spaces round it, if there is one
abbrev pub comma_after : List ℕ → Option (List ℕ)
comma_after cs = comma_from (after (passes Space) cs)

-- where there are dashes, the pages from the first one to the one after them; else the first one alone
abbrev pub last_from : ℕ → List ℕ → Option (List ℕ) → Result (Range ℕ × List ℕ) Unreadable
last_from first cs None = Ok (from_to first first, cs)
last_from first cs (Some rest) = page_at rest >>= λ last. Ok (from_to first last.0, last.1)

abbrev pub last_following : ℕ → List ℕ → Result (Range ℕ × List ℕ) Unreadable
last_following first cs = last_from first cs (dashes_after cs)

-- a page, or two with dashes between
unfoldable pub range_at : List ℕ → Result (Range ℕ × List ℕ) Unreadable
range_at cs = page_at cs >>= λ first. last_following first.0 first.1

-- after a comma or an ampersand a range is wanted
abbrev pub range_from : List ℕ → Option (List ℕ) → Result (Option (Range ℕ) × List ℕ) Unreadable
range_from cs None = Ok (None, cs)
range_from cs (Some rest) = range_at rest >>= λ r. Ok (Some r.0, r.1)

-- a comma or an ampersand and a range, or nothing
unfoldable pub next_range_at : List ℕ → Result (Option (Range ℕ) × List ℕ) Unreadable
next_range_at cs = range_from cs (comma_after cs)

-- a range, and further ones
unfoldable pub ranges_at : List ℕ → Result (List (Range ℕ) × List ℕ) Unreadable
ranges_at cs = do
  first ← range_at cs
  others ← each next_range_at first.1
  Ok (first.0 ∷ others.0, others.1)

-- what was read up to the end of the text, or a fault
abbrev pub whole : {X : Type 0} → Result (X × List ℕ) Unreadable → Result X TypeErrorKind
whole (Err e) = Err faults.Unreadable
whole (Ok (x, [])) = Ok x
whole (Ok (x, c ∷ cs)) = Err faults.Unreadable

-- the range that a text spells
abbrev pub range_of : List ℕ → Result (Range ℕ) TypeErrorKind
range_of cs = whole (range_at cs)

-- the ranges that a text spells
abbrev pub ranges_of : List ℕ → Result (List (Range ℕ)) TypeErrorKind
ranges_of cs = whole (ranges_at cs)

abbrev pub reads_range : List Member → Result (Range ℕ) TypeErrorKind
reads_range ms = range_of (plain ms)

abbrev pub reads_ranges : List Member → Result (List (Range ℕ)) TypeErrorKind
reads_ranges ms = ranges_of (plain ms)

-- the first page, and where the last one is another, an en dash and the last one
abbrev pub range_text : Range ℕ → List ℕ
range_text r = if r.start == r.end then decimal r.start else decimal r.start ++ en_dash ∷ decimal r.end

-- a comma, a space and a range
abbrev pub more_text : Range ℕ → List ℕ
more_text r = comma ∷ space ∷ range_text r

-- the ranges, with a comma and a space between
abbrev pub ranges_text : List (Range ℕ) → List ℕ
ranges_text [] = []
ranges_text (r ∷ rs) = range_text r ++ flat_map more_text rs

abbrev pub writes_range : Range ℕ → List Member
writes_range r = letters Normal (range_text r)

abbrev pub writes_ranges : List (Range ℕ) → List Member
writes_ranges rs = letters Normal (ranges_text rs)

-- pages up to 2147483647
abbrev pub ArePages : Range ℕ → Type 0
ArePages r = (r.start < 2 ^ 31) × (r.end < 2 ^ 31)

-- each of them of pages up to 2147483647
abbrev pub AllArePages : List (Range ℕ) → Type 0
AllArePages [] = Unit {0}
AllArePages (r ∷ rs) = ArePages r × AllArePages rs

-- one range or more, each of pages up to 2147483647
abbrev pub AreSomePages : List (Range ℕ) → Type 0
AreSomePages [] = ⊥
AreSomePages (r ∷ rs) = AllArePages (r ∷ rs)
