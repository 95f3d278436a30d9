-- The output for a bib text is that for each that is alike to it, and for its rewriting.
use Rattle.std.proofs.Common.{ℕ, List}
use Rattle.cite_requests.specs.Answers.{Writes}
use Rattle.cite.specs.Cited.{IsCited}
use Rattle.cite.specs.Verdict.{Task, IsVerdict}
use Rattle.cite.proofs.AlikeAnswers.{writes_alike}
use Rattle.cite.proofs.RewrittenAnswers.{writes_rewritten}

pub output_cited : (bib : List ℕ) (task : Task) (taken : List ℕ → Type 0) → Writes (IsVerdict bib task) taken → IsCited bib task taken
output_cited bib task taken output = record { output = output; alike = writes_alike bib task taken output; rewriting = writes_rewritten bib task taken output }
