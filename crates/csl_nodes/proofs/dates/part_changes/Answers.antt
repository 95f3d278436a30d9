use Rattle.std.proofs.Common.{map, sym, ap, ◌∙◌}
use Rattle.std.proofs.lemmas.Result.{IfOk-weaker}
use Rattle.csl_nodes.specs.Dates.{part_changes}
use Rattle.csl_nodes.proofs.dates.part_changes.Goals as goal

pub returns : goal.returns
returns c = IfOk-weaker c.changes_among.result _ _ (λ v all. all c.children_of.ensures.0 ∙ sym (ap part_changes c.children_of.ensures.1)) c.changes_among.ensures
