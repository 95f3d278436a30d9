-- What is known of a call that writes: of what was taken, and of a refusal.
use Rattle.std.specs.Prelude.{ℕ, List}
use Rattle.cite_requests.specs.Answers.{Writes, IsRefusalUnlessWrite}
use Rattle.cite_requests.specs.declared.error.CiteError.{CiteError}
use Rattle.cite.specs.Alike.{ForAlike}
use Rattle.cite.specs.Roads.{ForRewriting}
use Rattle.cite.specs.Verdict.{Task, IsVerdict}

-- this holds of the output for a bib text, which is also the output for each that is alike to it, and for its rewriting
pub record IsCited (bib : List ℕ) (task : Task) (P : List ℕ → Type 0) : Type 0 where
  pub output : Writes (IsVerdict bib task) P
  pub alike : ForAlike bib task (λ other. Writes (IsVerdict other task) P)
  pub rewriting : ForRewriting bib (λ other. Writes (IsVerdict other task) P)

-- an error is the first refusal of a bib text, and of its rewriting, unless it is a failed write
pub record IsRefusedAlike (bib : List ℕ) (task : Task) (e : CiteError) : Type 0 where
  pub first : IsRefusalUnlessWrite e (IsVerdict bib task)
  pub rewriting : ForRewriting bib (λ other. IsRefusalUnlessWrite e (IsVerdict other task))
