use Rattle.std.proofs.Common.{map, sym, ap, ◌∙◌}
use Rattle.std.proofs.lemmas.Result.{IfOk-weaker}
use Rattle.csl_nodes.specs.Dates.{date_parts}
use Rattle.csl_nodes.proofs.dates.date_parts.Goals as goal

pub returns : goal.returns
returns c = IfOk-weaker c.parts_among.result _ _ (λ v all. all c.children_of.ensures.0 ∙ sym (ap date_parts c.children_of.ensures.1)) c.parts_among.ensures
