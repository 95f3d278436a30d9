-- Each call of `cite` has one verdict.
use Rattle.std.proofs.Common.{ℕ, Bool, true, false, List, Result, Err, refl}
use Rattle.std.specs.Str.{chars, is_utf8}
use Rattle.laws.specs.Results.{◌>>=◌}
use Rattle.biblatex.specs.Listed.{Listed}
use Rattle.biblatex_meaning.proofs.Meaning.{text_meaning}
use Rattle.cite_requests.specs.Works.{Works}
use Rattle.cite_requests.specs.Stages.{Refusal, bib_not_utf8, bib_refused, refused_as, IsReadIf, IsRead, library_stage, AreWorksOf}
use Rattle.cite.specs.Verdict.{Task, verdict, IsVerdict}
use Rattle.cite.proofs.VerdictsUnique.{one_verdict}
use Rattle.cite_laws.specs.Verdicts.{HasOneVerdict}

read_there : (bib : List ℕ) → (read : Result Listed Refusal) × IsRead bib read
read_there bib = by (is_utf8 bib)
  where
    by : (is_text : Bool) → (read : Result Listed Refusal) × IsReadIf is_text bib read
    by true = let there = text_meaning (chars bib) in (refused_as bib_refused there.0, (there.0, there.1, refl))
    by false = (Err bib_not_utf8, refl)

works_there : (bib : List ℕ) → (works : Result Works Refusal) × AreWorksOf bib works
works_there bib = let read = read_there bib in (read.0 >>= library_stage, (read.0, read.1, refl))

verdict_there : (bib : List ℕ) (task : Task) → (answer : Result (List ℕ) Refusal) × IsVerdict bib task answer
verdict_there bib task = let works = works_there bib in (verdict works.0 task, (works.0, works.1, refl))

pub one_verdict_there : (bib : List ℕ) (task : Task) → HasOneVerdict bib task
one_verdict_there bib task =
    let there = verdict_there bib task in
    record { answer = there.0; is = there.1; only = λ other is. one_verdict bib task other there.0 is there.1 }
