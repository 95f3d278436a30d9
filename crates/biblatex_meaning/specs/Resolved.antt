-- What a text means: its entries with their references resolved, or the first refusal.
use Rattle.std.specs.Prelude.{◌≡◌, ℕ, ◌<◌, List, length, map, slice_get, Option, Some, None, IfSome, Result, Ok, Err}
use Rattle.std.specs.Option.{option_map}
use Rattle.laws.specs.Text.{text}
use Rattle.biblatex_text.specs.Raw.{At, Raw}
use Rattle.biblatex_text.specs.Items.{raw_of}
use Rattle.biblatex_text.specs.declared.token.Fault.{Fault}
use Rattle.biblatex_fields.specs.Fields.{value_named, AreInOrder}
use Rattle.biblatex_fields.specs.Abbreviations.{Glossary, AreFlags}
use Rattle.biblatex_entries.specs.Entries.{Source}
use Rattle.biblatex_entries.specs.TypeNames.{TypeName}
use Rattle.biblatex_inheritance.specs.Resolved.{Table}
use Rattle.biblatex_inheritance.specs.Solution.{Solves, IsOnly, NoneIsCircular, IsRefusedAs, fault_at}
use Rattle.biblatex_inheritance.specs.declared.error.ResolveError.{ResolveError}
use Rattle.biblatex_inheritance.specs.declared.error.ResolveError.TheVariants as errors
use Rattle.biblatex_meaning.specs.Listed.{Listed, references, IsAsRead}
use Rattle.biblatex_meaning.specs.Reading.{Refusal, refused_at, raw, reference_cycle, unreadable_date, Loaded, loaded}

-- an entry but for its fields
abbrev pub head : Source → List ℕ × TypeName
head e = (e.key, e.entry_type)

-- the fields of each entry, as what stands under each name
abbrev pub table_of : Option Source → Table
table_of None name = None
table_of (Some e) name = value_named name e.fields

abbrev pub tables : List Source → ℕ → Table
tables es i = table_of (slice_get es i)

-- Entries with their references resolved: each keeps its index, key and type, and names mean what they meant; the fields are the one
-- solution of the equation of inheritance, each entry's in the order of their names; no entry reaches itself, and no entry that needs
-- a date has a reference whose date cannot be read.
pub record IsResolved (read resolved : Listed) : Type 0 where
  pub heads : map head resolved.entries ≡ map head read.entries
  pub index : resolved.index ≡ read.index
  pub equation : Solves read.entries (references read) (tables resolved.entries)
  pub only : IsOnly read.entries (references read) (tables resolved.entries)
  pub ordered : (i : ℕ) → IfSome (slice_get resolved.entries i) (λ e. AreInOrder e.fields)
  pub acyclic : NoneIsCircular (references read)
  pub readable : (i : ℕ) → i < length read.entries → fault_at read.entries (references read) (tables resolved.entries) i ≡ None

-- the refusal of entries that are not resolved, at the key of the one that reaches itself or whose date cannot be read
abbrev pub unresolved_at : List (At (List ℕ)) → ResolveError → Option Refusal
unresolved_at keys errors.Memory = None
unresolved_at keys (errors.ReferenceCycle n) = option_map (λ key. refused_at key (reference_cycle (text key.v))) (slice_get keys n)
unresolved_at keys (errors.UnreadableDate f) = option_map (λ key. refused_at key (unreadable_date f.kind)) (slice_get keys f.reference)

-- the number of the entry at whose key the refusal stands
abbrev pub number_of : ResolveError → Option ℕ
number_of errors.Memory = None
number_of (errors.ReferenceCycle n) = Some n
number_of (errors.UnreadableDate f) = Some f.reference

-- Entries that are not resolved: the first of them that reaches itself is refused; else, of the first that needs a date and has a
-- reference whose date cannot be read, the first such reference.
pub record IsUnresolved (read : Loaded) (r : Refusal) : Type 0 where
  pub error : ResolveError
  pub why : IsRefusedAs read.listed.entries (references read.listed) error
  pub refusal : unresolved_at read.keys error ≡ Some r

-- what comes of entries once their references are to be resolved
abbrev pub ComesTo : Loaded → Result Listed Refusal → Type 0
ComesTo read (Ok resolved) = IsResolved read.listed resolved
ComesTo read (Err r) = IsUnresolved read r

-- What was read means this once references are to be resolved, and each name means the last entry that has it as its key or an
-- alias; a refusal stays.
abbrev pub Means : Result Loaded Refusal → Result Listed Refusal → Type 0
Means (Ok read) answer = IsAsRead read.listed × ComesTo read answer
Means (Err r) answer = answer ≡ Err r

-- What a raw text means, by a glossary of its abbreviations with flags for those that reach themselves.
pub record IsMeaningOf (r : Raw) (answer : Result Listed Refusal) : Type 0 where
  pub glossary : Glossary
  pub definitions : glossary.definitions ≡ r.abbreviations
  pub flags : AreFlags glossary.flags glossary.definitions
  pub means : Means (loaded glossary r.entries) answer

-- what a text means: what its raw text means, or the refusal of the raw grammar at its byte
abbrev pub IsTextMeaningOf : Result Raw (Fault × ℕ) → Result Listed Refusal → Type 0
IsTextMeaningOf (Ok r) answer = IsMeaningOf r answer
IsTextMeaningOf (Err f) answer = answer ≡ Err (record { reason = raw f.0; start = f.1; end = f.1 })

-- the characters of a text mean this
abbrev pub TextMeans : List ℕ → Result Listed Refusal → Type 0
TextMeans cs answer = IsTextMeaningOf (raw_of cs) answer
