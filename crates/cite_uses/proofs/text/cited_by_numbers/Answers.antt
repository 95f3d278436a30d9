use Rattle.std.proofs.Common.{◌≡◌, [], subst, string_bytes}
use Rattle.rendering_output.specs.declared.writing.BufWriteFormat.TheVariants.{Plain}
use Rattle.cite_requests.specs.Answers.{Answers}
use Rattle.cite_requests.specs.Requests.{context_of}
use Rattle.cite.specs.Verdict.{Task, IsVerdict}
use Rattle.cite.specs.Views.{task_of}
use Rattle.cite_uses.specs.Tasks.{by_numbers}
use Rattle.cite_uses.proofs.text.cited_by_numbers.Goals as goal

pub returns : goal.returns
returns c =
    let task : task_of c.args.document.now c.in_ok-style.style c.in_ok-locale.locale [] Plain ≡ by_numbers c.args.document.now = λ i. record {
      document = c.args.document.now;
      context = context_of (c.in_ok-style.ensures i) (c.in_ok-locale.ensures i);
      sections = [];
      format = Plain;
    } in
    subst (λ (t : Task). Answers (λ s. string_bytes s) c.cite_to_string.result (IsVerdict c.args.bib.now t)) task c.cite_to_string.ensures.text
