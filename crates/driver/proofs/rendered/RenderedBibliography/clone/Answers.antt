use Rattle.std.proofs.Common.{rules, w16, FitsSigned}
use Rattle.std.proofs.lemmas.Int.{to_z-of_z}
use Rattle.driver.specs.RenderedViews.{rendered_bibliography_view}
use Rattle.driver.proofs.CopiedItems.{same_fields, same_keys}
use Rattle.driver.proofs.rendered.RenderedBibliography.clone.Goals as goal

pub returns-clause-bibliography : goal.returns-clause-bibliography
returns-clause-bibliography c =
    let b = c.args.self.now in
    let fits : FitsSigned w16 b.entry_spacing = search rules in
    λ i. record (rendered_bibliography_view b) { entry_spacing = to_z-of_z w16 b.entry_spacing fits i; items = same_fields _ _ c.in_ok-copied_items.ensures i }

pub returns-clause-keys : goal.returns-clause-keys
returns-clause-keys c = same_keys _ _ c.in_ok-copied_items.ensures
