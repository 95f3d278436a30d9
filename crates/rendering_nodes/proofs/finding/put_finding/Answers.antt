use Rattle.std.proofs.Common.{◌∙◌}
use Rattle.rendering_nodes.proofs.FindingsKnown.{appended_at}
use Rattle.rendering_nodes.specs.Views.{survey_view}
use Rattle.rendering_nodes.proofs.finding.put_finding.Goals as goal

pub returns : goal.returns
returns c = λ before f inside at is. appended_at c.args.findings.now.items before inside f c.args.index c.len.result (survey_view c.args.survey) at is (c.len.ensures ∙ c.args.findings.now.ok.0)
