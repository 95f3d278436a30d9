use Rattle.std.proofs.Common.{◌≡◌, map, take}
use Rattle.driver.specs.RenderedViews.{rendered_citation_view}
use Rattle.driver.proofs.copies.copied_citations.Given as goal

abbrev pub invariant-loop-citation : goal.invariant-loop-citation
invariant-loop-citation l = map rendered_citation_view l.copies.items ≡ map rendered_citation_view (take l.citation-index l.citations.items)
