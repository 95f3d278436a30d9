-- What a sink took, and how often it failed.
use Rattle.std.specs.Prelude.{◌≡◌, ℕ, ◌+◌, ◌-◌, ◌^◌, ◌<◌, ◌⊎◌, ◌==◌, ◌&&◌, nat_lt, List, ◌++◌, length, Option, Some, None, Result, Ok, Err, MatchResult, MatchBool, if◌then◌else◌}
use Rattle.std.specs.Io.KnownBytes.{Appends}
use Rattle.laws.specs.Counts.{next_count}
use Rattle.sinks.specs.declared.sink.SinkFault.{SinkFault}
use Rattle.sinks.specs.declared.sink.SinkFault.TheVariants.{Failed, TookNothing}

-- a call counts exactly where it failed, or took none of some bytes
abbrev pub CountsFailure : {E : Type 0} → ℕ → ℕ → Result ℕ E → List ℕ → Type 0
CountsFailure old new r bytes = MatchResult r (λ n. MatchBool (n == 0 && nat_lt 0 (length bytes)) (new ≡ next_count old) (new ≡ old)) (λ _. new ≡ next_count old)

-- some call failed or took none of some bytes: the count rose, or stood at its last value
abbrev pub HasFailed : ℕ → ℕ → Type 0
HasFailed old new = (old < new) ⊎ (new ≡ 2 ^ 64 - 1)

-- known bytes grow by a prefix of the text
abbrev pub AppendsPrefix : Option (List ℕ) → Option (List ℕ) → List ℕ → Type 0
AppendsPrefix old new bytes = (prefix : List ℕ) × (rest : List ℕ) × (bytes ≡ prefix ++ rest) × Appends old new prefix

-- what is wrong with the answer of a call of `write` with these bytes, if something is
abbrev pub fault_in : {E : Type 0} → Result ℕ E → List ℕ → Option SinkFault
fault_in (Err e) bytes = Some Failed
fault_in (Ok n) bytes = if n == 0 && nat_lt 0 (length bytes) then Some TookNothing else None

-- the last fault after such a call
abbrev pub or_before : Option SinkFault → Option SinkFault → Option SinkFault
or_before before None = before
or_before before (Some fault) = Some fault

abbrev pub fault_after : {E : Type 0} → Option SinkFault → Result ℕ E → List ℕ → Option SinkFault
fault_after before r bytes = or_before before (fault_in r bytes)
