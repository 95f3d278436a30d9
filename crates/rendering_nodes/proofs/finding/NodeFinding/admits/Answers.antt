use Rattle.std.proofs.Common.{Bool, ap, ◌∙◌}
use Rattle.rendering_leaves.specs.NodeSettings.{noted}
use Rattle.rendering_nodes.proofs.finding.NodeFinding.admits.Goals as goal

pub returns-clause-state : goal.returns-clause-state
returns-clause-state c = λ k s x is. c.note.ensures ∙ ap (λ (b : Bool). noted b c.args.state.now) is.met

pub returns-clause-admitted : goal.returns-clause-admitted
returns-clause-admitted c = λ k s x is. is.is_admitted
