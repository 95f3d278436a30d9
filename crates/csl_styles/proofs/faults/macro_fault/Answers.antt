use Rattle.std.proofs.Common.{sym, ap, ◌∙◌}
use Rattle.std.specs.Option.{option_map}
use Rattle.csl_locales.specs.Sets.{has_text}
use Rattle.csl_styles.specs.Views.{fault_view}
use Rattle.csl_styles.proofs.FirstFaults.{macros_on, macros_here, macros_none}
use Rattle.csl_styles.proofs.faults.macro_fault.Goals as goal

pub loop-child-preserved : goal.loop-child-preserved
loop-child-preserved c =
    λ t. macros_on (has_text c.args.known.now) (has_text c.loop-child.earlier) (has_text c.child_fault.new.earlier) c.args.children.now c.loop-child.child-index c.child-item.result t _ c.loop-child-test.true
    c.child-item.is (c.loop-child.invariant t) (sym (ap (option_map fault_view) c.in-None.is) ∙ c.in_ok-fault.ensures.fault) c.in_ok-fault.ensures.names

pub returns-in-Some : goal.returns-in-Some
returns-in-Some c =
    λ t. macros_here (has_text c.args.known.now) (has_text c.loop-child.earlier) c.args.children.now c.loop-child.child-index c.child-item.result t _ (fault_view c.in-Some.fault) c.loop-child-test.true c.child-item.is
    (c.loop-child.invariant t) (sym (ap (option_map fault_view) c.in-Some.is) ∙ c.in_ok-fault.ensures.fault)

pub returns : goal.returns
returns c = λ t. macros_none (has_text c.args.known.now) (has_text c.loop-child.earlier) c.args.children.now c.loop-child.child-index t _ c.loop-child-test.false (c.loop-child.invariant t)
