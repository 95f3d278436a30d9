-- What the reader holds and gives, without where it lies in memory.
use Rattle.std.specs.Global.{Global}
use Rattle.std.specs.Prelude.{◌≡◌, ◌≤◌, ℕ, List, ◌++◌, map, length, Option, Some, None, Vec, Result, Ok, Err}
use Rattle.std.specs.Str.{chars}
use Rattle.std.specs.Borrow.{Bor}
use Rattle.laws.specs.Results.{◌>>=◌}
use Rattle.laws.specs.Text.{spelled}
use Rattle.biblatex_text.specs.Raw.{At, Piece, normal, abbreviation, Field, Entry, Item, nothing, definitions, an_entry, Raw}
use Rattle.biblatex_text.specs.Reading.{Refusal}
use Rattle.biblatex_text.specs.declared.cursor.Reader.{Reader}
use Rattle.biblatex_text.specs.declared.spanned.Spanned.{Spanned}
use Rattle.biblatex_text.specs.declared.raw.RawChunk.{RawChunk}
use Rattle.biblatex_text.specs.declared.raw.RawChunk.TheVariants as chunks
use Rattle.biblatex_text.specs.declared.raw.Pair.{Pair}
use Rattle.biblatex_text.specs.declared.raw.RawEntry.{RawEntry}
use Rattle.biblatex_text.specs.declared.raw.RawBibliography.{RawBibliography}
use Rattle.biblatex_text.specs.declared.raw.RawItem.{RawItem}
use Rattle.biblatex_text.specs.declared.raw.RawItem.TheVariants as items
use Rattle.biblatex_text.specs.declared.token.Fault.{Fault}
use Rattle.biblatex_text.specs.declared.error.Stop.{Stop}
use Rattle.biblatex_text.specs.declared.error.Stop.TheVariants as stops
use Rattle.biblatex_text.specs.declared.error.RawError.{RawError}
use Rattle.biblatex_text.specs.declared.error.RawError.TheVariants as errors

-- the characters that are left to read
abbrev pub left : Reader → List ℕ
left r = chars r.rest.now

-- a reader of the same source, at the same offset or after it
abbrev pub GoesOn : Reader → Reader → Type 0
GoesOn old new = (new.source.now ≡ old.source.now) × (length new.rest.now ≤ length old.rest.now)

-- how many bytes its source has
abbrev pub size : Reader → ℕ
size r = length r.source.now

-- the view of a value, with its span
abbrev pub spanned_view : {X Y : Type 0} → (X → Y) → Spanned X → At Y
spanned_view view s = record { v = view s.v; start = s.span.start; end = s.span.end }

abbrev pub spanned_text_view : Spanned (Bor (List ℕ)) → At (List ℕ)
spanned_text_view s = spanned_view spelled s

abbrev pub chunk_view : RawChunk → Piece
chunk_view (chunks.Normal t) = normal (chars t.now)
chunk_view (chunks.Abbreviation t) = abbreviation (chars t.now)

abbrev pub piece_view : Spanned RawChunk → At Piece
piece_view s = spanned_view chunk_view s

abbrev pub pieces_view : Vec (Spanned RawChunk) Global → List (At Piece)
pieces_view v = map piece_view v.items

abbrev pub value_view : Spanned (Vec (Spanned RawChunk) Global) → At (List (At Piece))
value_view s = spanned_view pieces_view s

abbrev pub field_view : Pair → Field
field_view p = record { name = spanned_text_view p.key; value = value_view p.value }

abbrev pub fields_view : Vec Pair Global → List Field
fields_view v = map field_view v.items

abbrev pub raw_entry_view : RawEntry → Entry
raw_entry_view e = record { kind = spanned_text_view e.kind; key = spanned_text_view e.key; fields = fields_view e.fields }

abbrev pub entry_view : Spanned RawEntry → At Entry
entry_view s = spanned_view raw_entry_view s

abbrev pub raw_item_view : RawItem → Item
raw_item_view items.Nothing = nothing
raw_item_view (items.Definitions pairs) = definitions (fields_view pairs)
raw_item_view (items.Entry e) = an_entry (raw_entry_view e)

abbrev pub item_view : Spanned RawItem → At Item
item_view s = spanned_view raw_item_view s

abbrev pub raw_view : RawBibliography → Raw
raw_view b = record { entries = map entry_view b.entries.items; abbreviations = fields_view b.abbreviations }

-- What a function returned, under the view, and what it left to read, or its fault where the text from there on is left, are
-- what reading gives.
abbrev pub Reads : {X Y : Type 0} → (X → Y) → Result X Fault → List ℕ → Result (Y × List ℕ) Refusal → Type 0
Reads view (Ok x) rest read = read ≡ Ok (view x, rest)
Reads view (Err f) rest read = read ≡ Err (f, rest)

-- the same of what a function left to read alone
abbrev pub Passes : {X : Type 0} → Result X Fault → List ℕ → Result (List ℕ) Refusal → Type 0
Passes (Ok x) rest read = read ≡ Ok rest
Passes (Err f) rest read = read ≡ Err (f, rest)

-- A fault stands where the text from there on is left; memory may run out at any time.
abbrev pub Stops : {Y : Type 0} → Stop → List ℕ → Result Y Refusal → Type 0
Stops stops.Memory rest read = Unit {0}
Stops (stops.Fault f) rest read = read ≡ Err (f, rest)

-- the same of functions that take memory
abbrev pub Gives : {X Y : Type 0} → (X → Y) → Result X Stop → List ℕ → Result (Y × List ℕ) Refusal → Type 0
Gives view (Ok x) rest read = read ≡ Ok (view x, rest)
Gives view (Err s) rest read = Stops s rest read

-- what was there, before what was read
abbrev pub prepended : {X : Type 0} → List X → Result (List X × List ℕ) Refusal → Result (List X × List ℕ) Refusal
prepended before read = read >>= λ p. Ok (before ++ p.0, p.1)

abbrev pub GivesRest : {X : Type 0} → Result X Stop → List ℕ → Result (List ℕ) Refusal → Type 0
GivesRest (Ok x) rest read = read ≡ Ok rest
GivesRest (Err s) rest read = Stops s rest read

abbrev pub GivesAll : {X Y : Type 0} → (X → Y) → Result X Stop → List ℕ → Result Y Refusal → Type 0
GivesAll view (Ok x) rest read = read ≡ Ok (view x)
GivesAll view (Err s) rest read = Stops s rest read

-- the fault that an error is, and its offset; out of memory is none
abbrev pub refusal_of : RawError → Option (Fault × ℕ)
refusal_of errors.Memory = None
refusal_of (errors.Refused fault at) = Some (fault, at)
