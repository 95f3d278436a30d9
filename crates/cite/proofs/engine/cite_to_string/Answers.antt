use Rattle.std.proofs.Common.{◌≡◌, ℕ, List, Result, Ok, Err, rules, sym, subst, String, string_bytes}
use Rattle.std.specs.Global.{Global}
use Rattle.cite_requests.specs.Answers.{Answers}
use Rattle.cite.specs.Verdict.{IsVerdict}
use Rattle.cite.specs.Views.{task_of}
use Rattle.cite_requests.specs.declared.error.CiteError.{CiteError}
use Rattle.cite.proofs.AlikeAnswers.{answers_alike}
use Rattle.cite.proofs.RewrittenAnswers.{answers_rewritten}
use Rattle.cite.proofs.engine.cite_to_string.Goals as goal

pub returns-in_err-output-clause-alike : goal.returns-in_err-output-clause-alike
returns-in_err-output-clause-alike c =
    let task = task_of c.args.document.now c.args.style.now c.args.locale.now c.args.sections.now c.args.format in
    let is : c.from_residual.result ≡ Err c.in_err-output.field-0.0 = search rules in
    answers_alike c.args.bib.now task (λ s. string_bytes s) c.from_residual.result
    (subst (λ (r : Result (String Global) CiteError). Answers (λ s. string_bytes s) r (IsVerdict c.args.bib.now task)) (sym is) c.in_err-output.ensures)

pub returns-clause-alike : goal.returns-clause-alike
returns-clause-alike c =
    let task = task_of c.args.document.now c.args.style.now c.args.locale.now c.args.sections.now c.args.format in
    let written : Result (String Global) CiteError = Ok c.in_ok-to_text.field-0 in
    answers_alike c.args.bib.now task (λ s. string_bytes s) written
    (subst (λ (bytes : List ℕ). IsVerdict c.args.bib.now task (Ok bytes)) (sym c.in_ok-to_text.ensures) c.in_ok-output.ensures)

pub returns-in_err-output-clause-rewriting : goal.returns-in_err-output-clause-rewriting
returns-in_err-output-clause-rewriting c =
    let task = task_of c.args.document.now c.args.style.now c.args.locale.now c.args.sections.now c.args.format in
    let is : c.from_residual.result ≡ Err c.in_err-output.field-0.0 = search rules in
    answers_rewritten c.args.bib.now task (λ s. string_bytes s) c.from_residual.result
    (subst (λ (r : Result (String Global) CiteError). Answers (λ s. string_bytes s) r (IsVerdict c.args.bib.now task)) (sym is) c.in_err-output.ensures)

pub returns-clause-rewriting : goal.returns-clause-rewriting
returns-clause-rewriting c =
    let task = task_of c.args.document.now c.args.style.now c.args.locale.now c.args.sections.now c.args.format in
    let written : Result (String Global) CiteError = Ok c.in_ok-to_text.field-0 in
    answers_rewritten c.args.bib.now task (λ s. string_bytes s) written
    (subst (λ (bytes : List ℕ). IsVerdict c.args.bib.now task (Ok bytes)) (sym c.in_ok-to_text.ensures) c.in_ok-output.ensures)
