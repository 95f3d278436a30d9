use Rattle.std.proofs.Common.{subst}
use Rattle.biblatex_fields.specs.Fields.{AreInOrder}
use Rattle.biblatex_fields.proofs.FieldsSorted.{in_order}
use Rattle.biblatex_inheritance.proofs.SolutionSteps.{put_back}
use Rattle.biblatex_inheritance.proofs.solution.resolve_one.Goals as goal

pub returns : goal.returns
returns c =
    put_back c.args.entries.now.items c.deref.result.now c.args.number c.index.result.now c.index_mut.result.now c.index_mut-2.result.now c.role-role.result c.replace-fields.new.dest c.replace-fields.result c.inherit.new.fields c.args.references.now c.in_ok-fault.fault
    c.requires.there c.requires.other c.index.ensures c.index_mut.ensures.value c.index_mut-2.ensures.value c.deref.ensures.value c.replace-fields.ensures.value c.role-role.ensures c.in_ok-fault.ensures.fields c.in_ok-fault.ensures.fault (subst AreInOrder c.fields.view_is (in_order c.fields.inside c.fields.invariant))
