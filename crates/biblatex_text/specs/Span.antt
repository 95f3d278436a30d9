-- Pieces of a source. Positions and texts are bytes here.
use Rattle.std.specs.Global.{Global}
use Rattle.std.specs.Prelude.{◌≡◌, ℕ, ◌≤◌, List, All, Vec, slice_range}
use Rattle.std.specs.Str.{IsCharBoundary}
use Rattle.std.specs.Borrow.{Bor}
use Rattle.biblatex_text.specs.declared.spanned.Spanned.{Spanned}
use Rattle.biblatex_text.specs.declared.raw.RawChunk.{RawChunk}
use Rattle.biblatex_text.specs.declared.raw.RawChunk.TheVariants as chunks
use Rattle.biblatex_text.specs.declared.raw.Pair.{Pair}
use Rattle.biblatex_text.specs.declared.raw.RawEntry.{RawEntry}
use Rattle.biblatex_text.specs.declared.raw.RawBibliography.{RawBibliography}
use Rattle.biblatex_text.specs.declared.raw.RawItem.{RawItem}
use Rattle.biblatex_text.specs.declared.raw.RawItem.TheVariants as items

-- a range of the source, between two boundaries of characters
abbrev pub IsRange : List ℕ → ℕ → ℕ → Type 0
IsRange source start end = (start ≤ end) × IsCharBoundary source start × IsCharBoundary source end

-- the piece is the slice of the source at the range
abbrev pub IsSlice : List ℕ → List ℕ → ℕ → ℕ → Type 0
IsSlice source piece start end = IsRange source start end × (slice_range source start end ≡ piece)

abbrev pub IsTextOf : List ℕ → Spanned (Bor (List ℕ)) → Type 0
IsTextOf source s = IsSlice source s.v.now s.span.start s.span.end

-- the text of a piece
abbrev pub written : RawChunk → List ℕ
written (chunks.Normal t) = t.now
written (chunks.Abbreviation t) = t.now

abbrev pub IsPieceOf : List ℕ → Spanned RawChunk → Type 0
IsPieceOf source s = IsSlice source (written s.v) s.span.start s.span.end

-- the range of a value, and each piece of it
abbrev pub IsValueOf : List ℕ → Spanned (Vec (Spanned RawChunk) Global) → Type 0
IsValueOf source s = IsRange source s.span.start s.span.end × All (IsPieceOf source) s.v.items

-- the name and the value of a field
abbrev pub IsPairOf : List ℕ → Pair → Type 0
IsPairOf source p = IsTextOf source p.key × IsValueOf source p.value

abbrev pub ArePairsOf : List ℕ → Vec Pair Global → Type 0
ArePairsOf source v = All (IsPairOf source) v.items

-- the kind, the key and all of each field
abbrev pub IsEntryOf : List ℕ → RawEntry → Type 0
IsEntryOf source e = IsTextOf source e.kind × IsTextOf source e.key × ArePairsOf source e.fields

abbrev pub IsItemOf : List ℕ → RawItem → Type 0
IsItemOf source items.Nothing = Unit {0}
IsItemOf source (items.Definitions pairs) = ArePairsOf source pairs
IsItemOf source (items.Entry e) = IsEntryOf source e

abbrev pub IsSpannedItemOf : List ℕ → Spanned RawItem → Type 0
IsSpannedItemOf source s = IsRange source s.span.start s.span.end × IsItemOf source s.v

abbrev pub IsSpannedEntryOf : List ℕ → Spanned RawEntry → Type 0
IsSpannedEntryOf source s = IsRange source s.span.start s.span.end × IsEntryOf source s.v

-- each kind, key, name and piece is the source's slice at its range, and values and entries have ranges of the source
abbrev pub IsRawOf : List ℕ → RawBibliography → Type 0
IsRawOf source b = All (IsSpannedEntryOf source) b.entries.items × ArePairsOf source b.abbreviations
