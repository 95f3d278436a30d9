-- The messages for refusals, each of which is one line.
use Rattle.std.specs.Prelude.{ℕ, All, List, [], Err}
use Rattle.biblatex.specs.Lines.{HasNoLineFeed}
use Rattle.interop.specs.Bridge.{Fault}
use Rattle.cite_requests.specs.Stages.{Refusal, fields_refused}
use Rattle.cite.specs.Verdict.{Task, IsVerdict}
use Rattle.cite_requests.specs.Refusals.{refusal_text}
use Rattle.cite_command.specs.Program.{fault_message}

-- the fields that a refusal reports
abbrev pub faults_in : Refusal → List Fault
faults_in (fields_refused faults) = faults
faults_in other = []

-- there is no line feed in the text of a refusal, nor in the message for each of its fields
pub record HasLineMessages (refusal : Refusal) : Type 0 where
  pub text : HasNoLineFeed (refusal_text refusal)
  pub faults : All (λ f. HasNoLineFeed (fault_message f)) (faults_in refusal)

-- the messages of every refusal that a call comes to are one line each
abbrev pub RefusalsHaveLineMessages : Type 0
RefusalsHaveLineMessages = (bib : List ℕ) (task : Task) (refusal : Refusal) → IsVerdict bib task (Err refusal) → HasLineMessages refusal
