use Rattle.std.proofs.Common.{refl}
use Rattle.rendering_nodes.proofs.FindingsKnown.{finding_is}
use Rattle.rendering_nodes.proofs.finding.Surveyed.finding.Goals as goal

pub returns : goal.returns
returns c = λ k s st x. finding_is k s st _ c.args.self.now x refl refl refl c.as_slice.ensures.value c.as_slice-2.ensures.value
