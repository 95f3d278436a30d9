-- Each run of the program has one end.
use Rattle.std.proofs.Common.{◌≡◌, ℕ, true≢false, List, is_ok, Result, Ok, Err, refl, sym, ap, ◌∙◌}
use Rattle.programs.specs.Files.{Outcome}
use Rattle.programs.specs.declared.files.ReadFault.TheVariants.{Memory, Unreadable}
use Rattle.cite_command.specs.Program.{Reads, Job, job_of, line, refusal_message, path_text, task_in, ServesBytes, IsBytesFault, ServesJob, IsJobFault}
use Rattle.cite_requests.specs.Stages.{Refusal}
use Rattle.cite.specs.Verdict.{IsVerdict}
use Rattle.cite.proofs.VerdictsUnique.{one_verdict}
use Rattle.cite_laws.specs.Ends.{End, output, message, IsEndOf, HasMemory, HasOneEnd, EachRunHasOneEnd}
use Rattle.cite_laws.proofs.Verdicts.{one_verdict_there}

-- a value is no fault, and values or faults that make equal results are equal
apart : {F X : Type 0} (x : X) (f : F) (P : Type 0) → Ok x ≡ Err f → P
apart x f P e = absurd (true≢false (ap is_ok e))

abbrev value_or : {F X : Type 0} → X → Result X F → X
value_or x (Ok y) = y
value_or x (Err f) = x

abbrev fault_or : {F X : Type 0} → F → Result X F → F
fault_or f (Ok x) = f
fault_or f (Err g) = g

same_value : {F X : Type 0} (x y : X) → Path (Result X F) (Ok x) (Ok y) → x ≡ y
same_value {F} x y e = ap (value_or x) e

same_fault : {F X : Type 0} (f g : F) → Path (Result X F) (Err f) (Err g) → f ≡ g
same_fault {F} {X} f g e = ap (fault_or f) e

-- whether bytes that were read end so
abbrev IsBytesEnd : Job → Outcome → Outcome → End → Type 0
IsBytesEnd job b d (output bytes) = ServesBytes job b d (λ served. served ≡ bytes)
IsBytesEnd job b d (message bytes) = IsBytesFault job b d bytes

record HasOneBytesEnd (job : Job) (b d : Outcome) : Type 0 where
  end : End
  is : IsBytesEnd job b d end
  only : (other : End) → IsBytesEnd job b d other → other ≡ end

-- where both files were read
of_bytes : (job : Job) (b d : List ℕ) → HasOneBytesEnd job (Ok b) (Ok d)
of_bytes job b d = let one = one_verdict_there b (task_in job d) in by one.answer one.is
  where
    only_output : (o : List ℕ) → IsVerdict b (task_in job d) (Ok o) → (other : End) → IsBytesEnd job (Ok b) (Ok d) other → other ≡ output o
    only_output o is (output bytes) (served, too, same) = ap output (sym same ∙ same_value served o (one_verdict b (task_in job d) (Ok served) (Ok o) too is))
    only_output o is (message bytes) (refusal, too, same) = apart o refusal (message bytes ≡ output o) (one_verdict b (task_in job d) (Ok o) (Err refusal) is too)

    only_message : (r : Refusal) → IsVerdict b (task_in job d) (Err r) → (other : End) → IsBytesEnd job (Ok b) (Ok d) other → other ≡ message (refusal_message r)
    only_message r is (output bytes) (served, too, same) = apart served r (output bytes ≡ message (refusal_message r)) (one_verdict b (task_in job d) (Ok served) (Err r) too is)
    only_message r is (message bytes) (refusal, too, same) = ap message (same ∙ ap refusal_message (same_fault refusal r (one_verdict b (task_in job d) (Err refusal) (Err r) too is)))

    by : (answer : Result (List ℕ) Refusal) → IsVerdict b (task_in job d) answer → HasOneBytesEnd job (Ok b) (Ok d)
    by (Ok o) is = record { end = output o; is = (o, is, refl); only = only_output o is }
    by (Err r) is = record { end = message (refusal_message r); is = (r, is, refl); only = only_message r is }

of_outcomes : (job : Job) (b d : Outcome) → (b ≡ Err Memory → ⊥) → (d ≡ Err Memory → ⊥) → HasOneBytesEnd job b d
of_outcomes job (Err Memory) d b_memory d_memory = absurd (b_memory refl)
of_outcomes job (Err Unreadable) d b_memory d_memory = record { end = message (line (path_text job.bib)); is = refl; only = only }
  where
    only : (other : End) → IsBytesEnd job (Err Unreadable) d other → other ≡ message (line (path_text job.bib))
    only (output bytes) served = absurd served
    only (message bytes) same = ap message same
of_outcomes job (Ok b) (Err Memory) b_memory d_memory = absurd (d_memory refl)
of_outcomes job (Ok b) (Err Unreadable) b_memory d_memory = record { end = message (line (path_text job.document)); is = refl; only = only }
  where
    only : (other : End) → IsBytesEnd job (Ok b) (Err Unreadable) other → other ≡ message (line (path_text job.document))
    only (output bytes) served = absurd served
    only (message bytes) same = ap message same
of_outcomes job (Ok b) (Ok d) b_memory d_memory = of_bytes job b d

of_job : (read : Reads) → HasMemory read → (job : Result Job (List ℕ)) → HasOneEnd read job
of_job read memory (Err text) = record { end = message (line text); is = refl; only = only }
  where
    only : (other : End) → IsEndOf read (Err text) other → other ≡ message (line text)
    only (output bytes) served = absurd served
    only (message bytes) same = ap message same
of_job read memory (Ok job) = record { end = one.end; is = is one.end one.is; only = λ other too. one.only other (bytes_end other too) }
  where
    one : HasOneBytesEnd job (read job.bib) (read job.document)
    one = of_outcomes job (read job.bib) (read job.document) (memory job.bib) (memory job.document)

    is : (end : End) → IsBytesEnd job (read job.bib) (read job.document) end → IsEndOf read (Ok job) end
    is (output bytes) served = served
    is (message bytes) fault = fault

    bytes_end : (end : End) → IsEndOf read (Ok job) end → IsBytesEnd job (read job.bib) (read job.document) end
    bytes_end (output bytes) served = served
    bytes_end (message bytes) fault = fault

pub one_end_there : EachRunHasOneEnd
one_end_there read words memory = of_job read memory (job_of words)
