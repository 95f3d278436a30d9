use Rattle.std.proofs.Common.{◌≡◌, ◌∙◌}
use Rattle.laws.specs.Borrowed.{borrowed}
use Rattle.literature_entries.specs.contracts.entry.EntryPartialEq.TheImpl as entry
use Rattle.driver.specs.RenderedViews.{rendered_view}
use Rattle.driver_rounds.specs.Views.{bibliography_context_of}
use Rattle.cite.proofs.Finishing.{gives, overflows}
use Rattle.cite_order.specs.Views.{context_view}
use Rattle.cite_order.proofs.Requested.{ordered_context}
use Rattle.cite_order.proofs.order.finish.Goals as goal

pub returns-in-Ok : goal.returns-in-Ok
returns-in-Ok c =
    let context = ordered_context c.in_ok-request.request c.with_order.result (context_view c.args.setting) c.with_order.ensures.style c.with_order.ensures.locale c.with_order.ensures.files c.in_ok-request.ensures in
    gives entry.ghosts.eq (context_view c.args.setting) c.from_citations-driver.result.citations.items c.args.requests.items c.from_citations-driver.result.offset c.with_order.result (borrowed c.args.order.now)
    c.from_citations-driver.ensures.requests c.from_citations-driver.ensures.offset context c.with_order.ensures.order (rendered_view c.in-Ok.rendered) c.in-Ok.ensures.rendered

pub returns-in-Err-Overflow : goal.returns-in-Err-Overflow
returns-in-Err-Overflow c =
    let context = ordered_context c.in_ok-request.request c.with_order.result (context_view c.args.setting) c.with_order.ensures.style c.with_order.ensures.locale c.with_order.ensures.files c.in_ok-request.ensures in
    overflows entry.ghosts.eq (context_view c.args.setting) c.from_citations-driver.result.citations.items c.args.requests.items c.from_citations-driver.result.offset c.with_order.result (borrowed c.args.order.now)
    c.from_citations-driver.ensures.requests c.from_citations-driver.ensures.offset context c.with_order.ensures.order (rw c.in-Err-Overflow.field-0-is at c.in-Err-Overflow.ensures.rendered)
