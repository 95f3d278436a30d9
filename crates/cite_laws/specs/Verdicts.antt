-- That each call of `cite` has a verdict.
use Rattle.std.specs.Prelude.{◌≡◌, ℕ, List, Result}
use Rattle.cite_requests.specs.Stages.{Refusal}
use Rattle.cite.specs.Verdict.{Task, IsVerdict}

-- the call has to do something, and nothing else
pub record HasOneVerdict (bib : List ℕ) (task : Task) : Type 0 where
  pub answer : Result (List ℕ) Refusal
  pub is : IsVerdict bib task answer
  pub only : (other : Result (List ℕ) Refusal) → IsVerdict bib task other → other ≡ answer

abbrev pub EachCallHasOneVerdict : Type 0
EachCallHasOneVerdict = (bib : List ℕ) (task : Task) → HasOneVerdict bib task
