-- How texts change a sink that is offered nothing after its first fault.
use Rattle.std.specs.Prelude.{◌≡◌, ℕ, List, Option, Some, Result, Err, MatchResult}
use Rattle.std.specs.Io.KnownBytes.{Appends}
use Rattle.laws.specs.Counts.{next_count}
use Rattle.sinks.specs.Sinks.{HasFailed, AppendsPrefix}
use Rattle.sinks.specs.declared.sink.SinkFault.{SinkFault}
use Rattle.sinks.specs.declared.target.SinkTarget.{SinkTarget}

-- A sink took the bytes and no call failed; or it took a prefix of them, the last call failed or took nothing, and that is the fault.
abbrev pub IsWritten : {W : Type 0} → (W → Option (List ℕ)) → (W → ℕ) → (W → Option SinkFault) → W → List ℕ → W → Result (Unit {0}) SinkFault → Type 0
IsWritten contents failures last old bytes new r =
    MatchResult r (λ _. Appends (contents old) (contents new) bytes × (failures new ≡ failures old))
    (λ e. AppendsPrefix (contents old) (contents new) bytes × HasFailed (failures old) (failures new) × (failures new ≡ next_count (failures old)) × (last new ≡ Some e))

-- How bytes are written to a sink with what was answered so far: after a fault nothing is written, and the fault stays.
abbrev pub IsWrittenAfter : {W : Type 0} → (W → Option (List ℕ)) → (W → ℕ) → (W → Option SinkFault) → Result (Unit {0}) SinkFault → W → List ℕ → Result (Unit {0}) SinkFault → W → Type 0
IsWrittenAfter contents failures last before old bytes after new =
    MatchResult before (λ _. IsWritten contents failures last old bytes new after) (λ e. (after ≡ Err e) × (new ≡ old))

-- how a text changes such a target
abbrev pub TakesUntilFault : {W : Type 0} → (W → Option (List ℕ)) → (W → ℕ) → (W → Option SinkFault) → SinkTarget W → List ℕ → SinkTarget W → Type 0
TakesUntilFault contents failures last s bytes t =
    (t.sink.ghost_name ≡ s.sink.ghost_name) × IsWrittenAfter contents failures last s.result s.sink.now bytes t.result t.sink.now
