use Rattle.std.proofs.Common.{◌≤◌, length, map, arith}
use Rattle.interop.specs.Views.{fault_view, library_view}
use Rattle.cite_requests.proofs.CatalogsWorks.{works_more, works_all}
use Rattle.cite_requests.proofs.bridging.put_marked.Goals as goal

pub loop-index-preserved : goal.loop-index-preserved
loop-index-preserved c =
    works_more c.args.marks.now c.args.file.now.entries c.loop-index.index (map fault_view c.loop-index.faults.items) (map fault_view c.put_if_marked.new.faults.items) (library_view c.loop-index.library) (library_view c.put_if_marked.new.library) _
    c.in_ok-put_if_marked.ensures c.loop-index.invariant

pub returns : goal.returns
returns c =
    let past : length c.args.file.now.entries ≤ c.loop-index.index = omega (arith, c.loop-index-test.false, c.len-index-end.ensures) in
    works_all c.args.marks.now c.args.file.now.entries c.loop-index.index (map fault_view c.loop-index.faults.items) (library_view c.loop-index.library) _ past c.loop-index.invariant
