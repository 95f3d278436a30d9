use Rattle.std.proofs.Common.{◌≡◌, ◌++◌, [], Bool, cond, string_bytes, rules, sym, ap, ◌∙◌, ne_eqb}
use lib.Chars.{codes}
use Rattle.std.proofs.lemmas.Result.{IfOk-weaker}
use Rattle.cite_csl_styles.specs.Sources.{lines_at}
use Rattle.cite_csl_styles.specs.Views.{sources_view}
use Rattle.cite_csl.specs.Works.{first_lines}
use Rattle.cite_csl.proofs.bib.first_lines.Goals as goal

pub returns : goal.returns
returns c =
    let fs = sources_view c.args.files.now in
    let key = c.args.key.now in
    let second = c.args.second in
    let at = c.in-Some.at in
    let said = codes "first entry of the key " ++ key in
    let why : string_bytes c.in_ok-why.why ≡ said = search rules in
    IfOk-weaker c.lines_at.result _ (λ s. string_bytes s ≡ first_lines fs key second c.args.first)
    (λ s h. h ∙ ap (lines_at fs at) (c.as_str.ensures.value ∙ why) ∙ ap (λ (b : Bool). cond b [] (lines_at fs at said)) (sym (ne_eqb at second c.if-at-second.false))
    ∙ ap (first_lines fs key second) (sym c.in-Some.is)) c.lines_at.ensures
