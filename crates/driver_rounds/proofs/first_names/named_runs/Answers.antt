use Rattle.std.proofs.Common.{◌++◌, List, map, ap, ◌∙◌, Vec}
use Rattle.std.specs.Global.{Global}
use Rattle.driver_rounds.specs.Naming.{seen, seen_under, states_by}
use Rattle.driver_rounds.specs.declared.cite.NumberedCite.{NumberedCite}
use Rattle.driver_rounds.proofs.ListsGrown.{read_ends, read_goes_on}
use Rattle.driver_rounds.proofs.first_names.named_runs.Goals as goal

pub loop-run-init : goal.loop-run-init
loop-run-init c =
    ap (λ (rs : List (Vec NumberedCite Global)). map (λ (r : Vec NumberedCite Global). map seen r.items) rs ++ map (λ (r : Vec NumberedCite Global). map (seen_under (states_by c.args.states)) r.items) c.args.runs.now) c.in_ok-named.ensures.items

pub loop-run-preserved : goal.loop-run-preserved
loop-run-preserved c =
    read_goes_on (λ (r : Vec NumberedCite Global). map seen r.items) (λ (r : Vec NumberedCite Global). map (seen_under (states_by c.args.states)) r.items) c.args.runs.now c.loop-run.named.items c.push.new.self.items c.loop-run.run-index c.run-item.result
    c.in_ok-named_run.field-0 _ c.loop-run-test.true c.run-item.is c.loop-run.invariant (c.in_ok-named_run.ensures ∙ ap (map (seen_under (states_by c.args.states))) c.as_slice.ensures.value) c.in_ok-push.ensures.items

pub returns : goal.returns
returns c =
    read_ends (λ (r : Vec NumberedCite Global). map seen r.items) (λ (r : Vec NumberedCite Global). map (seen_under (states_by c.args.states)) r.items) c.args.runs.now c.loop-run.named.items c.loop-run.run-index _ c.loop-run-test.false
    c.loop-run.invariant
