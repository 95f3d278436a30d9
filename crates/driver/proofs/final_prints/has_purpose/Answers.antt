use Rattle.std.proofs.Common.{◌∙◌, ap, is_some, rules, tests}
use Rattle.std.specs.List.{list_any}
use Rattle.std.proofs.lemmas.Iterator.{YieldsList-from_slice}
use Rattle.std.proofs.lemmas.Iterator.Search.{any_from_yields_List}
use Rattle.driver_requests.specs.declared.item.CitationItem.{CitationItem}
use Rattle.driver.proofs.FinalPrintsRuns.{purpose_view}
use Rattle.driver.proofs.final_prints.has_purpose.Goals as goal

pub returns : goal.returns
returns g c =
    any_from_yields_List (λ (i : CitationItem g.row.T.Denot g.row.P.Denot). is_some i.purpose) _ _ _ c.any.ensures.ran (YieldsList-from_slice c.deref.result.now cc) (λ x b q k. search (rules, tests))
    ∙ ap (list_any (λ (i : CitationItem g.row.T.Denot g.row.P.Denot). is_some i.purpose)) c.deref.ensures.value
    ∙ purpose_view (λ e. 0) g.T.EntryLike.answers c.args.request.now.items.items
