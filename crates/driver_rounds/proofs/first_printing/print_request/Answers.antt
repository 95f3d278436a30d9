use Rattle.std.proofs.Common.{ap, sym, ◌∙◌, get_or, length, map, arith}
use Rattle.rendering.specs.Views.{style_context_view}
use Rattle.driver_names.specs.Views.{printed_view}
use Rattle.driver_requests.specs.Views.{context_of}
use Rattle.driver_rounds.specs.FirstPrints.{printed_undisambiguated}
use Rattle.driver_rounds.specs.Views.{usage_of}
use Rattle.driver_rounds.specs.declared.cite.NumberedCite.{NumberedCite}
use Rattle.driver_rounds.proofs.RunsSteps.{one_counted, run_counts_on, run_ends, run_goes_on}
use Rattle.driver_rounds.proofs.first_printing.print_request.Goals as goal

pub bounds-cites-index : goal.bounds-cites-index
bounds-cites-index g c = omega (arith, c.requires.run, c.loop-index-test.true, ap length c.deref-item-items.ensures.value)

pub print_cite-requires : goal.print_cite-requires
print_cite-requires g c = ap (λ s. s.citation) (c.parts.ensures.style ∙ c.style.ensures) ∙ ap (λ x. x.style.citation) (sym c.requires.context)

pub loop-index-preserved : goal.loop-index-preserved
loop-index-preserved g c =
    let r = c.args.cites.request.now in
    let given = c.deref-item-items in
    let k = get_or c.args.cites.run.now c.loop-index.index c.index-cites-index.result in
    let also = ap (λ (m : NumberedCite). get_or c.args.cites.run.now c.loop-index.index m) c.index-cites-index.is in
    record {
      printed = run_goes_on g.T.EntryLike.answers (context_of r) r.items.items c.args.cites.run.now printed_undisambiguated (style_context_view c.args.cites.context.now) given.result.now c.loop-index.index c.item-item.result k (map printed_view c.loop-index.prints.printed.items)
          (map printed_view c.print_cite.new.prints.printed.items) _ c.requires.context given.ensures.value c.loop-index-test.true c.requires.run c.item-item.is also c.loop-index.invariant.printed c.in_ok-print_cite.ensures.printed;
      usages = run_goes_on g.T.EntryLike.answers (context_of r) r.items.items c.args.cites.run.now usage_of (style_context_view c.args.cites.context.now) given.result.now c.loop-index.index c.item-item.result k c.loop-index.prints.usages.items
          c.print_cite.new.prints.usages.items _ c.requires.context given.ensures.value c.loop-index-test.true c.requires.run c.item-item.is also c.loop-index.invariant.usages c.in_ok-print_cite.ensures.usages;
      effort = run_counts_on g.T.EntryLike.answers (context_of r) r.items.items c.args.cites.run.now (style_context_view c.args.cites.context.now) given.result.now c.loop-index.index c.item-item.result k c.loop-index.effort c.print_cite.new.effort _ c.requires.context
          given.ensures.value c.loop-index-test.true c.requires.run c.item-item.is also c.loop-index.invariant.effort (one_counted c.loop-index.effort c.print_cite.new.effort c.in_ok-print_cite.ensures.effort);
    }

pub returns-clause-printed : goal.returns-clause-printed
returns-clause-printed g c =
    run_ends g.T.EntryLike.answers (context_of c.args.cites.request.now) c.args.cites.request.now.items.items c.args.cites.run.now printed_undisambiguated c.deref-item-items.result.now c.loop-index.index (map printed_view c.loop-index.prints.printed.items) _
    c.deref-item-items.ensures.value c.loop-index-test.false c.loop-index.invariant.printed

pub returns-clause-usages : goal.returns-clause-usages
returns-clause-usages g c =
    run_ends g.T.EntryLike.answers (context_of c.args.cites.request.now) c.args.cites.request.now.items.items c.args.cites.run.now usage_of c.deref-item-items.result.now c.loop-index.index c.loop-index.prints.usages.items _
    c.deref-item-items.ensures.value c.loop-index-test.false c.loop-index.invariant.usages
