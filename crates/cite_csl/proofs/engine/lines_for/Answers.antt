use Rattle.std.proofs.Common.{◌≡◌, ℕ, List, Err, flat_map, string_bytes, rules, sym, ap, subst, ◌∙◌, append-nil}
use Rattle.std.specs.Str.{chars}
use Rattle.std.proofs.lemmas.Result.{IfOk-weaker}
use Rattle.cite_markers.specs.Views.{document_view}
use Rattle.cite_requests.specs.Answers.{IsRefusal}
use Rattle.cite_requests.specs.Refusals.{error_text}
use Rattle.cite_requests.specs.declared.error.CiteError.{CiteError}
use Rattle.cite_csl.specs.Names.{name_lines, names_of, rendered_lines}
use Rattle.cite_csl.specs.Views.{cited_view}
use Rattle.cite_csl.specs.Works.{said_by}
use Rattle.cite_csl_styles.specs.Sources.{line}
use Rattle.cite_csl_styles.specs.Views.{source_view}
use Rattle.cite_csl.proofs.RefusedLines.{other_lines}
use Rattle.cite_csl.proofs.engine.lines_for.Goals as goal

pub returns-in-Name : goal.returns-in-Name
returns-in-Name c stage is =
    let d = source_view c.args.document.now.file in
    let works = cited_view c.args.works in
    let pieces = document_view c.args.document.now.document in
    let refused = subst (λ (e : CiteError). IsRefusal e (λ a. stage ≡ a)) c.in-Name.is is in
    IfOk-weaker c.unknown_lines.result _ (λ s. said_by (rendered_lines d works pieces) stage ≡ Err (string_bytes s))
    (λ s h. ap (said_by (rendered_lines d works pieces)) refused
    ∙ ap (λ (bs : List ℕ). Err bs) (ap (λ (t : List ℕ). flat_map (name_lines d works) (names_of pieces (chars t))) (sym c.args.document.now.whole) ∙ sym h)) c.unknown_lines.ensures

pub returns-in_ok-why-in_default : goal.returns-in_ok-why-in_default
returns-in_ok-why-in_default c stage is =
    let d = source_view c.args.document.now.file in
    let works = cited_view c.args.works in
    let pieces = document_view c.args.document.now.document in
    let why : string_bytes c.in_ok-why-in_default.why ≡ error_text c.args.error.now = search rules in
    IfOk-weaker c.line.result _ (λ s. said_by (rendered_lines d works pieces) stage ≡ Err (string_bytes s))
    (λ s h. other_lines d works pieces stage c.args.error.now c.in_default.not-Name c.in_default.not-Memory is
    ∙ ap (λ (bs : List ℕ). Err (line bs)) (sym why ∙ sym c.as_str.ensures.value ∙ sym (append-nil c.as_str.result.now)) ∙ ap (λ (bs : List ℕ). Err bs) (sym h)) c.line.ensures
