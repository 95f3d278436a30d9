-- That each run of the program has an end.
use Rattle.std.specs.Prelude.{◌≡◌, ℕ, List, Result, Err}
use Rattle.std.specs.Borrow.{Bor}
use Rattle.programs.specs.declared.files.ReadFault.TheVariants.{Memory}
use Rattle.cite_command.specs.Program.{Reads, Job, job_of, ServesJob, IsJobFault}

-- how a run ends: with an output, or with the message for a fault
pub data End : Type 0 where
  output : List ℕ → End
  message : List ℕ → End

-- whether what words ask for ends so: this output is served, or this is the message
abbrev pub IsEndOf : Reads → Result Job (List ℕ) → End → Type 0
IsEndOf read job (output bytes) = ServesJob read job (λ served. served ≡ bytes)
IsEndOf read job (message bytes) = IsJobFault read job bytes

-- memory did not run out for any file
abbrev pub HasMemory : Reads → Type 0
HasMemory read = (path : List ℕ) → read path ≡ Err Memory → ⊥

-- what words ask for ends in some way, and in no other
pub record HasOneEnd (read : Reads) (job : Result Job (List ℕ)) : Type 0 where
  pub end : End
  pub is : IsEndOf read job end
  pub only : (other : End) → IsEndOf read job other → other ≡ end

abbrev pub EachRunHasOneEnd : Type 0
EachRunHasOneEnd = (read : Reads) (words : List (Bor (List ℕ))) → HasMemory read → HasOneEnd read (job_of words)
