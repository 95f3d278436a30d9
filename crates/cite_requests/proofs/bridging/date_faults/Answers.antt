use Rattle.std.proofs.Common.{◌≤◌, length, map, refl, arith}
use Rattle.interop.specs.Views.{fault_view}
use Rattle.cite_requests.proofs.CatalogsWorks.{faults_more, faults_all}
use Rattle.cite_requests.proofs.bridging.date_faults.Goals as goal

pub loop-index-init : goal.loop-index-init
loop-index-init c = rw c.new-faults.ensures.items refl

pub loop-index-preserved : goal.loop-index-preserved
loop-index-preserved c =
    faults_more c.args.file.now.entries c.loop-index.index (map fault_view c.loop-index.faults.items) (map fault_view c.push_faults_at.new.faults.items) _ c.in_ok-push_faults_at.ensures c.loop-index.invariant

pub returns : goal.returns
returns c =
    let past : length c.args.file.now.entries ≤ c.loop-index.index = omega (arith, c.loop-index-test.false, c.len-index-end.ensures) in
    faults_all c.args.file.now.entries c.loop-index.index (map fault_view c.loop-index.faults.items) _ past c.loop-index.invariant
