use Rattle.std.proofs.Common.{◌≡◌, Err, rules}
use Rattle.xml_tree.specs.Views.{element_view}
use Rattle.csl_styles.specs.Views.{csl_view, refusal_of}
use Rattle.cite_csl_styles.specs.Views.{source_view}
use Rattle.cite_csl_styles.proofs.Founds.{text_found, text_stopped}
use Rattle.cite_csl_styles.proofs.sheets.found_at.Goals as goal

pub returns-in_err-text : goal.returns-in_err-text
returns-in_err-text c =
    let is : c.from_residual.result ≡ Err c.in_err-text.field-0.0 = search rules in
    rw is c.in_err-text.ensures.stop

pub returns-in-Ok : goal.returns-in-Ok
returns-in-Ok c =
    text_found (source_view c.args.file) c.in_ok-text.text.now (element_view c.in-Ok.root) (csl_view c.in-Ok.means) c.in_ok-text.ensures.text c.in_ok-text.ensures.utf8 c.in-Ok.ensures.exact

pub returns-in-Err : goal.returns-in-Err
returns-in-Err c =
    text_stopped (source_view c.args.file) c.in_ok-text.text.now (refusal_of c.in-Err.error) c.text_refused.result c.in_ok-text.ensures.text c.in_ok-text.ensures.utf8
    c.in-Err.ensures.exact c.text_refused.ensures.refusal c.text_refused.ensures.memory
