use Rattle.std.proofs.Common.{◌≡◌, map}
use Rattle.laws.specs.Text.{spelled}
use Rattle.cite_csl.specs.Run.{sections_in}
use Rattle.cite_csl_styles.proofs.Stopped.{stopped_by}
use Rattle.cite_csl.proofs.program.check_sections.Goals as goal

pub returns-clause-stop : goal.returns-clause-stop
returns-clause-stop c =
    let sections = map spelled c.args.sections.now in
    stopped_by c.refused.result c.section_line.result (λ answer. sections_in sections ≡ answer) c.refused.ensures (c.section_line.ensures sections c.in-Err.ensures)
