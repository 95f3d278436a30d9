use Rattle.std.proofs.Common.{◌≡◌, drop, map}
use Rattle.cite_markers.specs.Views.{cite_view}
use Rattle.cite_requests.specs.Asked.{item_asked, asked_item_view, items_asked}
use Rattle.cite_requests.specs.Steps.{all_ok_after}
use Rattle.cite_csl.specs.Views.{cited_view}
use Rattle.cite_csl.proofs.requests.items.Given as goal

abbrev pub invariant-loop-cite : goal.invariant-loop-cite
invariant-loop-cite l = all_ok_after (item_asked (cited_view l.works)) (map asked_item_view l.items.items) (map cite_view (drop l.cite-index l.cites)) ≡ items_asked (cited_view l.works) (map cite_view l.cites)
