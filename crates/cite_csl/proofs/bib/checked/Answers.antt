use Rattle.std.proofs.Common.{◌≡◌, Err, Result, rules, sym, ap, subst, ◌∙◌}
use Rattle.biblatex.specs.Bibliographies.{listed_view}
use Rattle.biblatex.specs.Listed.{Listed}
use Rattle.cite_requests.specs.Stages.{library_stage}
use Rattle.cite_csl_styles.specs.Answers.{Returns}
use Rattle.cite_csl_styles.specs.Views.{sources_view}
use Rattle.cite_csl_styles.specs.declared.stop.Stop.{Stop}
use Rattle.cite_csl.specs.Views.{works_view}
use Rattle.cite_csl.specs.Works.{bib_lines, said_by, typographic_stage}
use Rattle.cite_csl.specs.declared.entries.Entries.{Entries}
use Rattle.cite_csl.proofs.bib.checked.Goals as goal

pub returns-in_err-check_readable : goal.returns-in_err-check_readable
returns-in_err-check_readable c whole =
    let is : c.from_residual-in_err-check_readable.result ≡ Err c.in_err-check_readable.field-0.0 = search rules in
    subst (λ (r : Result Entries Stop). Returns works_view r (said_by (bib_lines (sources_view c.args.files.now)) (typographic_stage (listed_view c.args.file)))) (sym is)
    (subst (λ (file : Listed). Returns works_view (Err c.in_err-check_readable.field-0.0) (said_by (bib_lines (sources_view c.args.files.now)) (library_stage file)))
    c.in_ok-printed.ensures.printed (c.in_err-check_readable.ensures.stage whole))

pub returns : goal.returns
returns c whole =
    ap (λ (file : Listed). said_by (bib_lines (sources_view c.args.files.now)) (library_stage file)) (sym c.in_ok-printed.ensures.printed) ∙ c.in_ok-check_readable.ensures.stage whole
