-- What is right of a bib text is right of each that is alike to it.
use Rattle.std.proofs.Common.{ℕ, List, Result, Ok}
use Rattle.cite.specs.Alike.{ForAlike}
use Rattle.cite_requests.specs.Answers.{Answers, Writes}
use Rattle.cite.specs.Verdict.{Task, IsVerdict}
use Rattle.cite_requests.specs.declared.error.CiteError.{CiteError}
use Rattle.cite_requests.proofs.AnswersWeaker.{answers_weaker}
use Rattle.cite.proofs.VerdictsAlike.{alike_verdicts}

module _ (bib : List ℕ) (task : Task) where
  pub answers_alike : {X : Type 0} (view : X → List ℕ) (r : Result X CiteError) → Answers view r (IsVerdict bib task) → ForAlike bib task (λ other. Answers view r (IsVerdict other task))
  answers_alike view r h = λ other alike. answers_weaker view r (IsVerdict bib task) (IsVerdict other task) (λ a is. alike_verdicts bib other task alike a is) h

  pub writes_alike : (P : List ℕ → Type 0) → Writes (IsVerdict bib task) P → ForAlike bib task (λ other. Writes (IsVerdict other task) P)
  writes_alike P h = λ other alike. (h.0, alike_verdicts bib other task alike (Ok h.0) h.1, h.2)
