use Rattle.std.proofs.Common.{◌≡◌, ◌++◌, ℕ, List, Option, codes, string_bytes, rules, ap, ap₂, ◌∙◌}
use Rattle.std.proofs.lemmas.Result.{on_ok_weaker}
use Rattle.interop.specs.Views.{fault_view}
use Rattle.cite_csl_styles.specs.JoinedFaults.{lines_view}
use Rattle.cite_csl_styles.specs.Views.{sources_view}
use Rattle.cite_csl.specs.Views.{kept_at}
use Rattle.cite_csl.specs.Works.{key_lines}
use Rattle.cite_csl.proofs.bib.push_date_lines.Goals as goal

pub returns-clause-lines : goal.returns-clause-lines
returns-clause-lines c =
    let fs = sources_view c.args.files.now in
    let f = fault_view c.args.fault.now in
    let made : string_bytes c.in_ok-why.why ≡ codes "unreadable " ++ c.name-name.result.now = search rules in
    let why : c.as_str-2.result.now ≡ codes "unreadable " ++ f.field = c.as_str-2.ensures.value ∙ made ∙ ap (λ (n : List ℕ). codes "unreadable " ++ n) c.name-name.ensures in
    let at : c.key_place-at.result ≡ kept_at c.args.places.now f.key = c.key_place-at.ensures ∙ ap (kept_at c.args.places.now) c.as_str.ensures.value in
    on_ok_weaker c.push_key_lines.result
    (λ is. is ∙ ap₂ (λ (w : List ℕ) (p : Option ℕ). lines_view c.args.lines.now ++ key_lines fs w p) why at) c.push_key_lines.ensures.lines
