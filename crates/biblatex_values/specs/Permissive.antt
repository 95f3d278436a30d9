-- Values that may be chunks as they are.
use Rattle.std.specs.Prelude.{◌≡◌, List, Result, Ok, Err}
use Rattle.biblatex_content.specs.Styled.{Member}
use Rattle.biblatex_dates.specs.declared.error.TypeErrorKind.{TypeErrorKind}

-- a value of a type, or a styled text
pub data Permitted (V : Type 0) : Type 0 where
  Value : V → Permitted V
  Text : List Member → Permitted V

-- the value that the type reads, or the styled text itself
abbrev pub or_text : {V : Type 0} → List Member → Result V TypeErrorKind → Result (Permitted V) TypeErrorKind
or_text ms (Ok v) = Ok (Value v)
or_text ms (Err kind) = Ok (Text ms)

abbrev pub reads_permissive : {V : Type 0} → (List Member → Result V TypeErrorKind) → List Member → Result (Permitted V) TypeErrorKind
reads_permissive reads ms = or_text ms (reads ms)

abbrev pub writes_permissive : {V : Type 0} → (V → List Member) → Permitted V → List Member
writes_permissive writes (Value v) = writes v
writes_permissive writes (Text ms) = ms

-- values that the type reads back, and styled texts that it refuses
abbrev pub IsPermitted : {V : Type 0} → (List Member → Result V TypeErrorKind) → (V → Type 0) → Permitted V → Type 0
IsPermitted reads InClass (Value v) = InClass v
IsPermitted reads InClass (Text ms) = (kind : TypeErrorKind) × (reads ms ≡ Err kind)
