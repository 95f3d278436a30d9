use Rattle.std.proofs.Common.{ap, ◌∙◌}
use Rattle.rendering_tree.specs.Views.{children_view}
use Rattle.driver_citations.specs.Ends.{start_of}
use Rattle.driver_citations.proofs.EndingTexts.{start_first}
use Rattle.driver_citations.proofs.ending_text.+start.Goals as goal

pub start_of-returns-in-Some : goal.start_of-returns-in-Some
start_of-returns-in-Some t c =
    c.start_of_child.ensures ∙ start_first c.deref.result.now c.in-Some.part.now c.in-Some.ensures.item.3.0 c.in-Some.ensures.item.1 ∙ ap (λ xs. start_of (children_view xs)) c.deref.ensures.value
