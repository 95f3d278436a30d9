use Rattle.std.proofs.Common.{◌≡◌, ℕ, List, Err, string_bytes, sym, ap, ◌∙◌, append-nil}
use Rattle.std.proofs.lemmas.Result.{IfOk-weaker}
use Rattle.cite_csl_styles.specs.Sources.{line}
use Rattle.cite_csl.specs.Run.{sections_in}
use Rattle.cite_csl.proofs.SectionLine.{section_said}
use Rattle.cite_csl.proofs.program.section_line.Goals as goal

pub returns-in_ok-why-in_default : goal.returns-in_ok-why-in_default
returns-in_ok-why-in_default c sections is =
    IfOk-weaker c.line.result _ (λ s. sections_in sections ≡ Err (string_bytes s))
    (λ s h. section_said sections c.args.error.now c.in_default.not-Memory is
    ∙ ap (λ (bs : List ℕ). Err (line bs)) (sym c.in_ok-why-in_default.ensures.ok ∙ sym c.as_str.ensures.value ∙ sym (append-nil c.as_str.result.now)) ∙ ap (λ (bs : List ℕ). Err bs) (sym h)) c.line.ensures
