use Rattle.std.proofs.Common.{subst}
use Rattle.rendering_nodes.specs.Findings.{IsKnown}
use Rattle.rendering_nodes.specs.declared.finding.Known.{Known}
use Rattle.rendering_nodes.proofs.finding.Known.finding.Goals as goal

pub returns-in-Before : goal.returns-in-Before
returns-in-Before c = λ k s st x known. subst (λ (y : Known). IsKnown k s st y x) c.in-Before.is known

pub returns-in-Now : goal.returns-in-Now
returns-in-Now c = λ k s st x known. c.finding.ensures k s st x (subst (λ (y : Known). IsKnown k s st y x) c.in-Now.is known)
