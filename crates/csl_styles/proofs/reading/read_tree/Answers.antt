use Rattle.std.proofs.Common.{sym, ap, ◌∙◌, subst, IfSome}
use Rattle.std.specs.Str.{chars}
use Rattle.xml_tree.specs.Views.{element_view}
use Rattle.xml_tree.specs.declared.tree.Element.{Element}
use Rattle.csl_styles.specs.Reading.{IsRefused}
use Rattle.csl_styles.specs.Views.{csl_view, refusal_of}
use Rattle.csl_styles.specs.declared.error.CslError.{CslError}
use Rattle.csl_styles.specs.declared.file.Csl.{Csl}
use Rattle.csl_styles.proofs.Outcomes.{given_for, text_refused, text_none}
use Rattle.csl_styles.proofs.reading.read_tree.Goals as goal

pub returns-in-Ok-clause-only : goal.returns-in-Ok-clause-only
returns-in-Ok-clause-only c =
    λ x spelled none taken. given_for c.with_meaning.result (λ (p : Element × Csl). csl_view p.1) (element_view c.in-Ok.root) x (c.in-Ok.ensures.only x spelled) c.with_meaning.ensures.only none taken

pub returns-in-Err-clause-exact : goal.returns-in-Err-clause-exact
returns-in-Err-clause-exact c =
    subst (λ (e : CslError). IfSome (refusal_of e) (IsRefused (chars c.args.text.now))) (sym c.text_error.ensures) (text_refused (chars c.args.text.now) c.in-Err.error c.in-Err.ensures.reading)

pub returns-in-Err-clause-only : goal.returns-in-Err-clause-only
returns-in-Err-clause-only c = λ x spelled none taken. ap refusal_of c.text_error.ensures ∙ text_none c.in-Err.error (c.in-Err.ensures.only x spelled)
