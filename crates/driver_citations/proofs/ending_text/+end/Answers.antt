use Rattle.std.proofs.Common.{ap, ◌∙◌}
use Rattle.rendering_tree.specs.Views.{children_view}
use Rattle.driver_citations.specs.Ends.{end_of}
use Rattle.driver_citations.proofs.EndingTexts.{end_last}
use Rattle.driver_citations.proofs.ending_text.+end.Goals as goal

pub end_of-returns-in-Some : goal.end_of-returns-in-Some
end_of-returns-in-Some t c =
    c.end_of_child.ensures ∙ end_last c.deref.result.now c.in-Some.part.now c.in-Some.ensures.item.3.0 c.in-Some.ensures.item.1 ∙ ap (λ xs. end_of (children_view xs)) c.deref.ensures.value
