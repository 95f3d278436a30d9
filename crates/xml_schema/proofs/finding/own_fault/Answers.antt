use Rattle.std.proofs.Common.{Some, sym, ap, ◌∙◌}
use Rattle.std.specs.Option.{option_map}
use Rattle.xml_tree.specs.Views.{element_view}
use Rattle.xml_schema.specs.Faults.{fault, left_at, wrongs_of}
use Rattle.xml_schema.specs.Faults as specs
use Rattle.xml_schema.proofs.Firsts.{first-map}
use Rattle.xml_schema.proofs.finding.own_fault.Goals as goal

pub returns-in-Some : goal.returns-in-Some
returns-in-Some c =
    let e = element_view c.args.element.now in
    ap (λ (f : specs.Fault). Some f) c.fault_at.ensures ∙ (ap (option_map (fault (left_at e))) c.in-Some.ensures ∙ sym (first-map (fault (left_at e)) (wrongs_of c.args.schema.now c.args.rule.now e)))

pub returns-in-None : goal.returns-in-None
returns-in-None c =
    let e = element_view c.args.element.now in
    ap (option_map (fault (left_at e))) c.in-None.ensures ∙ sym (first-map (fault (left_at e)) (wrongs_of c.args.schema.now c.args.rule.now e))
