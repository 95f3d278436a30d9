-- What a program says of a fault, and what it leaves of its output.
use Rattle.std.specs.Prelude.{◌≡◌, ℕ, List, ◌++◌, Option, ◌⊎◌, ⊤, codes}
use Rattle.std.specs.Io.KnownBytes.{Appends}
use Rattle.sinks.specs.Sinks.{HasFailed, AppendsPrefix}

-- the program's name, what it says, a line feed
abbrev pub line : List ℕ → List ℕ → List ℕ
line program message = program ++ (codes ": " ++ (message ++ codes "\n"))

abbrev pub no_memory : List ℕ → List ℕ
no_memory program = line program (codes "out of memory")

abbrev pub not_written : List ℕ → List ℕ
not_written program = line program (codes "write failed")

-- some output is to be written, and this holds of it
abbrev pub Served : Type 1
Served = (List ℕ → Type 0) → Type 0

-- Nothing was written; or a call of `write` failed or took nothing, and a prefix of an output that was to be written was taken.
abbrev pub IsUntouched : {O : Type 0} → Served → O → O → Option (List ℕ) → Option (List ℕ) → ℕ → ℕ → Type 0
IsUntouched Serves old new taken_before taken_after failed_before failed_after =
    (new ≡ old) ⊎ (HasFailed failed_before failed_after × Serves (λ output. AppendsPrefix taken_before taken_after output))

-- Why a program fails: one of its faults; or there was no memory; or an output that was to be written was not taken whole.
abbrev pub IsReason : List ℕ → (List ℕ → Type 0) → Served → ℕ → ℕ → List ℕ → Type 0
IsReason program IsFault Serves failed_before failed_after message =
    IsFault message ⊎ ((message ≡ no_memory program) ⊎ ((message ≡ not_written program) × HasFailed failed_before failed_after × Serves (λ output. ⊤)))

-- known bytes grow by what one of these says, or some call failed
abbrev pub Says : (List ℕ → Type 0) → Option (List ℕ) → Option (List ℕ) → ℕ → ℕ → Type 0
Says IsMessage old new failed_before failed_after = ((message : List ℕ) × IsMessage message × Appends old new message) ⊎ HasFailed failed_before failed_after
