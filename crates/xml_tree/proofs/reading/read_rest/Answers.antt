use Rattle.std.proofs.Common.{Result, sym, ap, subst, ◌∙◌}
use Rattle.std.proofs.lemmas.Result.{err_from_is_err_and}
use Rattle.texts.specs.Views.{left}
use Rattle.laws.specs.Results.{EndsWith, Gives}
use Rattle.xml_tree.specs.Building.{State, finished, tree_from}
use Rattle.xml_tree.specs.Trees.{Element}
use Rattle.xml_tree.specs.Values.{Refusal}
use Rattle.xml_tree.specs.Views.{refusal_of, element_view, state_view}
use Rattle.xml_tree.proofs.TokenSteps.{steps_shorten, tree-step, tree-end, tree_fails}
use Rattle.xml_tree.proofs.reading.read_rest.Goals as goal

pub loop-builder-init : goal.loop-builder-init
loop-builder-init c = ap (λ (s : State). tree_from s (left c.args.reader)) c.new-builder.ensures

pub loop-builder-preserved : goal.loop-builder-preserved
loop-builder-preserved c =
    let e = rw c.if-branch.true at c.in_ok-read_step.ensures in
    sym (tree-step (state_view c.loop-builder.builder) (state_view c.read_step.new.builder) (left c.loop-builder.reader) (left c.read_step.new.reader) e) ∙ c.loop-builder.invariant

pub loop-builder-smaller : goal.loop-builder-smaller
loop-builder-smaller c =
    let e = rw c.if-branch.true at c.in_ok-read_step.ensures in
    steps_shorten (state_view c.loop-builder.builder) (state_view c.read_step.new.builder) (left c.loop-builder.reader) (left c.read_step.new.reader) e

pub returns-in_err-read_step : goal.returns-in_err-read_step
returns-in_err-read_step c =
    let p = err_from_is_err_and c.from_residual.result c.from_residual.ensures.1 in
    let refusal = refusal_of c.in_err-read_step.field-0.0 in
    rw (p.1, p.2) (subst (λ (r : Result Element Refusal). EndsWith refusal r) c.loop-builder.invariant (tree_fails (state_view c.loop-builder.builder) (left c.loop-builder.reader) refusal c.in_err-read_step.ensures))

pub returns : goal.returns
returns c =
    let e = rw c.if-branch.false at c.in_ok-read_step.ensures in
    let s = state_view c.loop-builder.builder in
    subst (λ (r : Result Element Refusal). Gives refusal_of element_view c.finish.result r)
    (ap (λ (x : State). finished x.open_ones x.root) e.1 ∙ (sym (tree-end s (left c.loop-builder.reader) (left c.read_step.new.reader) e.0) ∙ c.loop-builder.invariant)) c.finish.ensures
