use Rattle.std.proofs.Common.{Some, None, sym, ◌∙◌, subst}
use Rattle.xml_tree.specs.Views.{element_view}
use Rattle.csl_styles.specs.Files.{Csl}
use Rattle.csl_styles.specs.Outcomes.{IsReadAs}
use Rattle.csl_styles.proofs.Outcomes.{locale_meant, style_meant}
use Rattle.csl_styles.proofs.reading.file_of.Goals as goal

pub returns-then-is_called : goal.returns-then-is_called
returns-then-is_called c =
    let x = element_view c.args.root.now in
    subst (λ (m : Csl). IsReadAs x m c.localized.result) (locale_meant x (sym c.is_called.ensures ∙ c.if-is_called.true)) c.localized.ensures

pub returns-in-Some : goal.returns-in-Some
returns-in-Some c =
    let x = element_view c.args.root.now in
    subst (λ (m : Csl). IsReadAs x m c.dependent.result) (style_meant x (Some c.in-Some.parent.now) (sym c.is_called.ensures ∙ c.if-is_called.false) c.in-Some.ensures) c.dependent.ensures

pub returns-in-None : goal.returns-in-None
returns-in-None c =
    let x = element_view c.args.root.now in
    subst (λ (m : Csl). IsReadAs x m c.independent.result) (style_meant x None (sym c.is_called.ensures ∙ c.if-is_called.false) c.in-None.ensures) c.independent.ensures
