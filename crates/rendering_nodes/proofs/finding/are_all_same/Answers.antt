use Rattle.std.proofs.Common.{sym, ◌∙◌}
use Rattle.rendering_nodes.proofs.FindingsKnown.{one_list}
use Rattle.rendering_nodes.proofs.finding.are_all_same.Goals as goal

pub returns : goal.returns
returns c = λ so. one_list c.args.some.now c.args.others.now (sym c.eq.ensures ∙ so)
