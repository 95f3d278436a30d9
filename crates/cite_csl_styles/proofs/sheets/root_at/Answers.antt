use Rattle.std.proofs.Common.{◌≡◌, Err, rules}
use Rattle.xml_tree.specs.Views.{element_view}
use Rattle.csl_styles.specs.Views.{refusal_of}
use Rattle.cite_csl_styles.specs.Sheets.{IsCslRead, IsRootOf}
use Rattle.cite_csl_styles.specs.Views.{source_view}
use Rattle.cite_csl_styles.proofs.Founds.{root_found, text_stopped}
use Rattle.cite_csl_styles.proofs.Stopped.{stop_weaker}
use Rattle.cite_csl_styles.proofs.sheets.root_at.Goals as goal

pub returns-in_err-text : goal.returns-in_err-text
returns-in_err-text c =
    let file = source_view c.args.file in
    let e = c.in_err-text.field-0.0 in
    let is : c.from_residual.result ≡ Err e = search rules in
    rw is (stop_weaker e (IsCslRead file) (IsRootOf file) (λ lines h. h) c.in_err-text.ensures.stop)

pub returns-in-Ok : goal.returns-in-Ok
returns-in-Ok c = root_found (source_view c.args.file) c.in_ok-text.text.now (element_view c.in-Ok.root) c.in_ok-text.ensures.text c.in_ok-text.ensures.utf8 c.in-Ok.ensures

pub returns-in-Err : goal.returns-in-Err
returns-in-Err c =
    let file = source_view c.args.file in
    stop_weaker c.text_refused.result (IsCslRead file) (IsRootOf file) (λ lines h. h)
    (text_stopped file c.in_ok-text.text.now (refusal_of c.in-Err.error) c.text_refused.result c.in_ok-text.ensures.text c.in_ok-text.ensures.utf8
    c.in-Err.ensures c.text_refused.ensures.refusal c.text_refused.ensures.memory)
