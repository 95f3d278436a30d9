use Rattle.std.proofs.Common.{◌∙◌}
use lib.Chars.{codes}
use Rattle.cite_csl_styles.specs.Sources.{lines_at}
use Rattle.cite_csl_styles.specs.Views.{sources_view}
use Rattle.cite_csl_styles.proofs.Stopped.{stopped}
use Rattle.cite_csl.specs.Works.{AreWorks}
use Rattle.cite_csl.proofs.WorksRead.{bytes_refused}
use Rattle.cite_csl.proofs.bib.entries_in_bytes.Goals as goal

pub returns-in-Ok : goal.returns-in-Ok
returns-in-Ok c whole = c.entries_in.ensures (c.in-Ok.ensures.cases.0 ∙ whole)

pub returns-in-Err : goal.returns-in-Err
returns-in-Err c whole =
    let fs = sources_view c.args.files.now in
    let lines = lines_at fs c.valid_up_to.result (codes "not UTF-8") in
    stopped c.refused.result lines (AreWorks fs) (c.refused.ensures lines c.lines_at.ensures)
    (bytes_refused fs c.args.bytes.now whole c.valid_up_to.result c.in-Err.ensures.cases.0 (c.valid_up_to.ensures ∙ c.in-Err.ensures.valid_len))
