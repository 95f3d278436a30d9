-- What is right of a bib text is right of its rewriting.
use Rattle.std.proofs.Common.{◌≡◌, ℕ, List, Result, Ok, Err, sym, subst}
use Rattle.std.specs.Prelude.{IfErr}
use Rattle.biblatex.specs.Listed.{Listed}
use Rattle.cite_requests.specs.Answers.{Answers, Writes, IsRefusal, UnlessWrite}
use Rattle.cite.specs.Cited.{IsRefusedAlike}
use Rattle.cite.specs.Roads.{ForRewriting, IsSettledFile, rewritten}
use Rattle.cite_requests.specs.Stages.{Refusal}
use Rattle.cite.specs.Verdict.{Task, IsVerdict}
use Rattle.cite_requests.specs.declared.error.CiteError.{CiteError}
use Rattle.cite_requests.specs.declared.error.CiteError.TheVariants as errors
use Rattle.cite_requests.proofs.AnswersWeaker.{answers_weaker, refused_weaker}
use Rattle.cite.proofs.SameVerdicts.{same_verdicts}

-- what holds of an error holds unless it is a failed write
unless_write : (e : CiteError) (P : Type 0) → P → UnlessWrite e P
unless_write errors.Memory P h = h
unless_write (errors.BibText error) P h = h
unless_write (errors.Fields faults) P h = h
unless_write (errors.Document error) P h = h
unless_write (errors.Name name) P h = h
unless_write (errors.Selector index error) P h = h
unless_write errors.Overflow P h = h
unless_write (errors.Write fault) P h = tt

module _ (bib : List ℕ) (task : Task) where
  of_rewriting : (file : Listed) → IsSettledFile bib file → (answer : Result (List ℕ) Refusal) → IsVerdict bib task answer → IsVerdict (rewritten file) task answer
  of_rewriting file h answer = (same_verdicts bib file task h answer).0

  pub answers_rewritten : {X : Type 0} (view : X → List ℕ) (r : Result X CiteError) → Answers view r (IsVerdict bib task) → ForRewriting bib (λ other. Answers view r (IsVerdict other task))
  answers_rewritten view r is = λ file h. answers_weaker view r (IsVerdict bib task) (IsVerdict (rewritten file) task) (of_rewriting file h) is

  pub writes_rewritten : (P : List ℕ → Type 0) → Writes (IsVerdict bib task) P → ForRewriting bib (λ other. Writes (IsVerdict other task) P)
  writes_rewritten P is = λ file h. (is.0, of_rewriting file h (Ok is.0) is.1, is.2)

  pub refused_alike : {X : Type 0} (r : Result X CiteError) (e : CiteError) → r ≡ Err e → IsRefusal e (IsVerdict bib task) → IfErr r (IsRefusedAlike bib task)
  refused_alike {X} r e same is =
      subst (λ (r : Result X CiteError). IfErr r (IsRefusedAlike bib task)) (sym same)
      (record {
        first = unless_write e (IsRefusal e (IsVerdict bib task)) is;
        rewriting = λ file h.
            unless_write e (IsRefusal e (IsVerdict (rewritten file) task)) (refused_weaker e (IsVerdict bib task) (IsVerdict (rewritten file) task) (λ r. of_rewriting file h (Err r)) is);
      })
