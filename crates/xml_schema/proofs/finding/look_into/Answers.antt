use Rattle.std.proofs.Common.{List, sym, ap, ◌∙◌, subst, ◌<◌, ◌+◌}
use Rattle.xml_tree.specs.Views.{element_view}
use Rattle.xml_schema.specs.Faults.{first_of}
use Rattle.xml_schema.specs.Waiting as specs
use Rattle.xml_schema.specs.Waiting.{inside, waiting_faults, waiting_weight, weight}
use Rattle.xml_schema.specs.Views.{fault_view, waiting_list}
use Rattle.xml_schema.proofs.Waits.{into_some, into_none, into_fewer, some_weight}
use Rattle.xml_schema.proofs.finding.look_into.Goals as goal

pub returns-in-Some-clause-first : goal.returns-in-Some-clause-first
returns-in-Some-clause-first c = into_some c.args.schema.now c.args.rule (element_view c.args.element.now) (waiting_list c.args.waiting.now) (fault_view c.in-Some.fault) c.in-Some.ensures

pub returns-in-Some-clause-fewer : goal.returns-in-Some-clause-fewer
returns-in-Some-clause-fewer c = some_weight (element_view c.args.element.now) (waiting_list c.args.waiting.now)

pub returns-in_ok-put_content-in-None-clause-first : goal.returns-in_ok-put_content-in-None-clause-first
returns-in_ok-put_content-in-None-clause-first c =
    ap (λ (ws : List specs.Waiting). first_of (waiting_faults c.args.schema.now ws)) c.in_ok-put_content-in-None.ensures
    ∙ into_none c.args.schema.now c.args.rule (element_view c.args.element.now) (waiting_list c.args.waiting.now) c.in-None.ensures

pub returns-in_ok-put_content-in-None-clause-fewer : goal.returns-in_ok-put_content-in-None-clause-fewer
returns-in_ok-put_content-in-None-clause-fewer c =
    let e = element_view c.args.element.now in
    let old = waiting_list c.args.waiting.now in
    subst (λ (ws : List specs.Waiting). waiting_weight ws < waiting_weight old + weight e) (sym c.in_ok-put_content-in-None.ensures) (into_fewer c.args.rule e old)
