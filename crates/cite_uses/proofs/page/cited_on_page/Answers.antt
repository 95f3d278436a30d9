use Rattle.std.proofs.Common.{◌≡◌, ◌≤◌, ℕ, List, [], ◌++◌, length, Option, Some, None, Ok, subst, sym, ap, ◌∙◌}
use Rattle.std.proofs.Math.Dec.{ltb}
use Rattle.std.proofs.lemmas.Bool.{ltb-false}
use Rattle.cite_requests.specs.Answers.{IsRefusalUnlessWrite, OnWrite, Writes}
use Rattle.cite_requests.specs.declared.error.CiteError.{CiteError}
use Rattle.rendering_output.specs.declared.writing.BufWriteFormat.TheVariants.{Html}
use Rattle.cite.specs.Verdict.{IsVerdict}
use Rattle.cite.specs.Views.{task_of}
use Rattle.cite_uses.specs.declared.page.Page.{Page}
use Rattle.cite_uses.proofs.PageErrors.{filled, still_refused, without_room}
use Rattle.cite_uses.proofs.page.cited_on_page.Goals as goal

-- what is known
abbrev known : Option (List ℕ) → List ℕ
known None = []
known (Some xs) = xs

pub returns-in-Ok-clause-whole : goal.returns-in-Ok-clause-whole
returns-in-Ok-clause-whole c =
    let written = c.in-Ok.ensures.written.output in
    let empty : c.new-sink.result.writer.bytes.items ≡ [] = ap known c.new-sink.ensures.contents ∙ c.new.ensures.items in
    let taken : c.cite-done.new.sink.writer.bytes.items ≡ written.0 = written.2 ∙ ap (λ (xs : List ℕ). xs ++ written.0) empty in
    let shown : c.into_inner-page.result.bytes.items ≡ written.0 = ap (λ (p : Page). p.bytes.items) c.into_inner-page.ensures ∙ taken in
    subst (λ (bytes : List ℕ). IsVerdict c.args.bib.now (task_of c.args.document.now c.args.style.now c.args.locale.now [] Html) (Ok bytes)) (sym shown) written.1

pub returns-in-Err-clause-refused : goal.returns-in-Err-clause-refused
returns-in-Err-clause-refused c =
    let wanted = IsVerdict c.args.bib.now (task_of c.args.document.now c.args.style.now c.args.locale.now [] Html) in
    subst (λ (e : CiteError). IsRefusalUnlessWrite e wanted) (sym c.page_error.ensures)
    (still_refused (ltb c.len.result c.args.room) c.in-Err.error wanted c.in-Err.ensures.refused.first)

pub returns-in-Err-clause-full : goal.returns-in-Err-clause-full
returns-in-Err-clause-full c =
    let wanted = IsVerdict c.args.bib.now (task_of c.args.document.now c.args.style.now c.args.locale.now [] Html) in
    let page = c.into_inner-page.result in
    let empty : c.new-sink.result.writer.bytes.items ≡ [] = ap known c.new-sink.ensures.contents ∙ c.new.ensures.items in
    subst (λ (e : CiteError). OnWrite e (Writes wanted (λ output. c.args.room ≤ length output))) (sym c.page_error.ensures)
    (without_room (ltb c.len.result c.args.room) c.in-Err.error _ _ c.in-Err.ensures.cut_short (λ full p.
    let prefix = p.2.0 in
    let taken : page.bytes.items ≡ prefix = ap (λ (q : Page). q.bytes.items) c.into_inner-page.ensures ∙ (p.2.3 ∙ ap (λ (xs : List ℕ). xs ++ prefix) empty) in
    (p.0, p.1, filled c.args.room page.bytes.items p.0 prefix p.2.1 (subst (λ (n : ℕ). c.args.room ≤ n) (c.len.ensures ∙ page.bytes.ok.0) (ltb-false c.len.result c.args.room full)) taken p.2.2)))
