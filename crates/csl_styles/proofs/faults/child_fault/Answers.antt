use Rattle.std.proofs.Common.{sym, ap, ◌∙◌}
use Rattle.std.specs.Option.{option_map}
use Rattle.xml_tree.specs.Views.{element_view}
use Rattle.csl_locales.specs.Sets.{has_text}
use Rattle.csl_styles.specs.Faults.{second_fault, call_faults}
use Rattle.csl_styles.specs.Views.{fault_view}
use Rattle.csl_styles.proofs.FirstFaults.{one_first, one_later}
use Rattle.csl_styles.proofs.faults.child_fault.Goals as goal

pub returns-in-Some-clause-fault : goal.returns-in-Some-clause-fault
returns-in-Some-clause-fault c =
    let x = element_view c.args.element.now in
    one_first (fault_view c.in-Some.fault) (second_fault (has_text c.args.earlier.now) x) (call_faults (has_text c.args.known.now) x) (sym (ap (option_map fault_view) c.in-Some.is) ∙ c.in_ok-fault.ensures.fault)

pub returns-in-None-clause-fault : goal.returns-in-None-clause-fault
returns-in-None-clause-fault c =
    let x = element_view c.args.element.now in
    one_later (option_map fault_view c.first_call.result) (second_fault (has_text c.args.earlier.now) x) (call_faults (has_text c.args.known.now) x) (sym (ap (option_map fault_view) c.in-None.is) ∙ c.in_ok-fault.ensures.fault) c.first_call.ensures
