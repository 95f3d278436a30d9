-- Why texts are refused. In reasons names and keys are bytes; as they are written they are characters.
use Rattle.std.specs.Prelude.{ℕ, List}
use Rattle.biblatex_text.specs.Raw.{At}
use Rattle.biblatex_text.specs.declared.token.Fault.{Fault}
use Rattle.biblatex_dates.specs.declared.error.TypeErrorKind.{TypeErrorKind}

-- Why a text is refused: it is not of the raw grammar; an abbreviation in a field means nothing, or reaches itself; a command is
-- malformed; a key has a meaning already; an entry reaches itself; or an entry needs a date, and the date of one of its references
-- cannot be read.
pub data Reason : Type 0 where
  raw : Fault → Reason
  unknown_abbreviation : List ℕ → Reason
  abbreviation_cycle : List ℕ → Reason
  malformed_command : Reason
  duplicate_key : List ℕ → Reason
  reference_cycle : List ℕ → Reason
  unreadable_date : TypeErrorKind → Reason

-- a reason, and the bytes of the source where it stands
pub record Refusal : Type 0 where
  pub reason : Reason
  pub start : ℕ
  pub end : ℕ

-- a reason that stands where something is written
abbrev pub refused_at : {X : Type 0} → At X → Reason → Refusal
refused_at a reason = record { reason = reason; start = a.start; end = a.end }
