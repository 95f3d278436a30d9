use Rattle.std.proofs.Common.{◌≡◌, drop, map}
use Rattle.std.specs.List.{enumerate_from}
use Rattle.laws.specs.Text.{spelled}
use Rattle.literature.specs.Views.{selector_view}
use Rattle.cite_requests.specs.Sections.{selector_in}
use Rattle.cite_requests.specs.Stages.{refused_as, section_refused, section_stage}
use Rattle.cite_requests.specs.Steps.{all_ok_after}
use Rattle.cite_requests.proofs.sections.selectors.Given as goal

abbrev pub invariant-loop-index : goal.invariant-loop-index
invariant-loop-index l =
    all_ok_after (λ p. refused_as section_refused (selector_in p)) (map selector_view l.selectors.items) (enumerate_from l.index (map spelled (drop l.index l.sections)))
    ≡ section_stage (map spelled l.sections)
