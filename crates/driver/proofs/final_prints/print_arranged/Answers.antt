use Rattle.std.proofs.Common.{◌≡◌, ◌<◌, [], length, map, fold, get_or, refl, sym, ap, ◌∙◌, arith}
use Rattle.std.proofs.lemmas.List.{get_or_default, length-map, length-set}
use Rattle.std.proofs.lemmas.Option.{slice_get-get_or}
use Rattle.rendering.specs.Views.{style_context_view}
use Rattle.rendering_context.specs.Views.{state_view}
use Rattle.rendering_style.specs.Styles.{Citation}
use Rattle.rendering_style.specs.Views.{citation_layout_view}
use Rattle.rendering_context.specs.Contexts.{StyleContext}
use Rattle.rendering_taxonomy.specs.declared.cite.IdentifierUsage.TheVariants as usages
use Rattle.rendering_tree.specs.Views.{tree_view}
use Rattle.driver_blocks.specs.Views.{arranged_view}
use Rattle.driver_requests.specs.Positions.{ibid_at}
use Rattle.driver_requests.specs.Views.{item_view}
use Rattle.driver.specs.FinalPrints.{arranged_in, last_cite_view, placed_view, placed_with}
use Rattle.driver.specs.Stages.{counts_at_last}
use Rattle.driver_rounds.specs.FirstPrints.{first_print}
use Rattle.driver_names.specs.Views.{printed_view}
use Rattle.driver_rounds.specs.Views.{printed_by_states, numbered_view, numbered_cites_view, usage_of}
use Rattle.driver_rounds.specs.declared.cite.NumberedCite.{NumberedCite}
use Rattle.driver_rounds.proofs.RequestsFound.{element_plain, element_view, run_at, run_long}
use Rattle.driver.proofs.FinalPrintsSteps.{all_count, placed_goes_on, print_at, prints_long}
use Rattle.driver.proofs.TakenTrees.{all_left, left_after, left_at, left_is, left_same}
use Rattle.driver.proofs.final_prints.print_arranged.Goals as goal

pub offset_bounds-printing-at : goal.offset_bounds-printing-at
offset_bounds-printing-at g c =
    let at : c.cite-item.result.cite.cite ≡ (get_or c.args.arranged.now c.loop-cite.cite-index c.cite-item.result).cite.cite = ap (λ a. a.cite.cite) c.cite-item.is in
    let low = c.requires.indices c.loop-cite.cite-index c.cite-item.result c.loop-cite-test.true in
    omega (arith, at, low, c.requires.printing.in_step.run)

pub bounds-printing-at : goal.bounds-printing-at
bounds-printing-at g c =
    let at : c.cite-item.result.cite.cite ≡ (get_or c.args.arranged.now c.loop-cite.cite-index c.cite-item.result).cite.cite = ap (λ a. a.cite.cite) c.cite-item.is in
    let low = c.requires.indices c.loop-cite.cite-index c.cite-item.result c.loop-cite-test.true in
    omega (arith, at, low, c.requires.printing.in_step.run)

pub bounds-printing-at-in-loop-cite : goal.bounds-printing-at-in-loop-cite
bounds-printing-at-in-loop-cite g c =
    let ns = numbered_cites_view g.T.EntryLike.answers (style_context_view c.args.printing.cites.context.now) c.args.printing.cites.request.now.items.items c.args.printing.cites.run.now in
    let at : c.cite-item.result.cite.cite ≡ (get_or c.args.arranged.now c.loop-cite.cite-index c.cite-item.result).cite.cite = ap (λ a. a.cite.cite) c.cite-item.is in
    let low = c.requires.indices c.loop-cite.cite-index c.cite-item.result c.loop-cite-test.true in
    let long : length c.args.printing.usages.now ≡ length c.args.printing.cites.request.now.items.items =
    ap length c.requires.printing.usages ∙ length-map ns usage_of ∙ run_long g.T.EntryLike.answers (style_context_view c.args.printing.cites.context.now) c.args.printing.cites.request.now.items.items c.args.printing.cites.run.now c.requires.printing.in_step.run in
    omega (arith, at, low, long)

pub offset_bounds-printed-at : goal.offset_bounds-printed-at
offset_bounds-printed-at g c =
    let states = map state_view c.args.printing.entry_states.states.now in
    let at : c.cite-item.result.cite.cite ≡ (get_or c.args.arranged.now c.loop-cite.cite-index c.cite-item.result).cite.cite = ap (λ a. a.cite.cite) c.cite-item.is in
    let low = c.requires.indices c.loop-cite.cite-index c.cite-item.result c.loop-cite-test.true in
    let long = prints_long g.T.EntryLike.answers printed_view (style_context_view c.args.printing.cites.context.now) states c.args.printing.cites.request.now.items.items c.args.printing.cites.run.now c.args.printed.now c.requires.printing.in_step.run c.requires.printed in
    omega (arith, at, low, long, c.loop-cite.invariant.cites)

pub bounds-printed-at : goal.bounds-printed-at
bounds-printed-at g c =
    let states = map state_view c.args.printing.entry_states.states.now in
    let at : c.cite-item.result.cite.cite ≡ (get_or c.args.arranged.now c.loop-cite.cite-index c.cite-item.result).cite.cite = ap (λ a. a.cite.cite) c.cite-item.is in
    let low = c.requires.indices c.loop-cite.cite-index c.cite-item.result c.loop-cite-test.true in
    let long = prints_long g.T.EntryLike.answers printed_view (style_context_view c.args.printing.cites.context.now) states c.args.printing.cites.request.now.items.items c.args.printing.cites.run.now c.args.printed.now c.requires.printing.in_step.run c.requires.printed in
    omega (arith, at, low, long, c.loop-cite.invariant.cites)

pub loop-cite-init : goal.loop-cite-init
loop-cite-init g c =
    let answers = g.T.EntryLike.answers in
    let states = map state_view c.args.printing.entry_states.states.now in
    let prints = map first_print (numbered_cites_view answers (style_context_view c.args.printing.cites.context.now) c.args.printing.cites.request.now.items.items c.args.printing.cites.run.now) in
    let view_of = arranged_view (citation_layout_view c.args.printing.style.now) in
    record {
      same = ap (λ ss. fold (placed_with g.P.PartialEq.eq states) (placed_view answers states ss c.args.listed.now c.args.last.now) (arranged_in prints (map view_of c.args.arranged.now))) c.in_ok-shown.ensures.items;
      long = refl;
      cites = refl;
      left = all_left c.args.printed.now;
      effort = omega arith;
    }

pub list-requires : goal.list-requires
list-requires g c =
    let run = c.args.printing.cites.run.now in
    let a = c.cite-item.result in
    let is_index : a.cite.cite ≡ (get_or c.args.arranged.now c.loop-cite.cite-index a).cite.cite = ap (λ b. b.cite.cite) c.cite-item.is in
    let low = c.requires.indices c.loop-cite.cite-index a c.loop-cite-test.true in
    let in_run : a.cite.cite < length run = omega (arith, is_index, low, c.requires.printing.in_step.run) in
    omega (arith, c.requires.printing.within a.cite.cite c.index-printing-at.result in_run, c.loop-cite.invariant.long, c.requires.listed)

pub print_shown-requires-clause-within : goal.print_shown-requires-clause-within
print_shown-requires-clause-within g c =
    let run = c.args.printing.cites.run.now in
    let a = c.cite-item.result in
    let is_index : a.cite.cite ≡ (get_or c.args.arranged.now c.loop-cite.cite-index a).cite.cite = ap (λ b. b.cite.cite) c.cite-item.is in
    let low = c.requires.indices c.loop-cite.cite-index a c.loop-cite-test.true in
    let in_run : a.cite.cite < length run = omega (arith, is_index, low, c.requires.printing.in_step.run) in
    omega (arith, c.requires.printing.within a.cite.cite c.index-printing-at.result in_run)

pub print_shown-requires-clause-printed : goal.print_shown-requires-clause-printed
print_shown-requires-clause-printed g c =
    let answers = g.T.EntryLike.answers in
    let x = style_context_view c.args.printing.cites.context.now in
    let items = c.args.printing.cites.request.now.items.items in
    let run = c.args.printing.cites.run.now in
    let prints = c.args.printed.now in
    let now = c.loop-cite.printed in
    let states = map state_view c.args.printing.entry_states.states.now in
    let a = c.cite-item.result in
    let at = a.cite.cite in
    let item = c.index-item.result.now in
    let own = get_or run at c.index-printing-at.result in
    let is_index : at ≡ (get_or c.args.arranged.now c.loop-cite.cite-index a).cite.cite = ap (λ b. b.cite.cite) c.cite-item.is in
    let low = c.requires.indices c.loop-cite.cite-index a c.loop-cite-test.true in
    let in_items : at < length items = omega (arith, is_index, low) in
    let in_run : at < length run = omega (arith, in_items, c.requires.printing.in_step.run) in
    let long = prints_long answers printed_view x states items run prints c.requires.printing.in_step.run c.requires.printed in
    let in_prints : at < length prints = omega (arith, in_items, long) in
    let in_now : at < length now = omega (arith, in_prints, c.loop-cite.invariant.cites) in
    let read = c.index-printed-at.result in
    let s = get_or now at read in
    let first = get_or prints at read in
    let cite = numbered_view answers x item own in
    record {
      left = left_same (left_at now at) (tree_view c.take_tree-tree.result) (left_at prints at) (printed_by_states states cite).tree (left_is now at s in_now (get_or_default now at read s in_now) ∙ sym c.take_tree-tree.ensures.tree)
          (left_is prints at first in_prints (get_or_default prints at read first in_prints)
          ∙ ap (λ r. r.tree)
          (element_view printed_view (printed_by_states states) prints (numbered_cites_view answers x items run) at first cite c.requires.printed (slice_get-get_or prints at read in_prints)
          (run_at answers x items run at item own in_items in_run c.index-item.ensures (ap (λ (m : NumberedCite). get_or run at m) c.index-printing-at.is))))
          (c.loop-cite.invariant.left at);
    }

pub loop-cite-preserved : goal.loop-cite-preserved
loop-cite-preserved g c =
    let answers = g.T.EntryLike.answers in
    let x = style_context_view c.args.printing.cites.context.now in
    let items = c.args.printing.cites.request.now.items.items in
    let run = c.args.printing.cites.run.now in
    let usages_now = c.args.printing.usages.now in
    let n = c.loop-cite.cite-index in
    let a = c.cite-item.result in
    let at = a.cite.cite in
    let item = c.index-item.result.now in
    let own = get_or run at c.index-printing-at.result in
    let is_index : at ≡ (get_or c.args.arranged.now n a).cite.cite = ap (λ b. b.cite.cite) c.cite-item.is in
    let low = c.requires.indices n a c.loop-cite-test.true in
    let in_items : at < length items = omega (arith, is_index, low) in
    let in_run : at < length run = omega (arith, in_items, c.requires.printing.in_step.run) in
    let is_own : own ≡ get_or run at own = ap (λ (m : NumberedCite). get_or run at m) c.index-printing-at.is in
    let is_item : item ≡ get_or items at item = c.index-item.ensures in
    let long : length usages_now ≡ length items = ap length c.requires.printing.usages ∙ length-map (numbered_cites_view answers x items run) usage_of ∙ run_long answers x items run c.requires.printing.in_step.run in
    let in_usages : at < length usages_now = omega (arith, in_items, long) in
    let states = map state_view c.args.printing.entry_states.states.now in
    let view_of = arranged_view (citation_layout_view c.args.printing.style.now) in
    let prints = c.args.printed.now in
    let many = prints_long answers printed_view x states items run prints c.requires.printing.in_step.run c.requires.printed in
    let in_printed : at < length c.loop-cite.printed = omega (arith, in_items, many, c.loop-cite.invariant.cites) in
    let whole = fold (placed_with g.P.PartialEq.eq states) (placed_view answers states [] c.args.listed.now c.args.last.now) (arranged_in (map first_print (numbered_cites_view answers x items run)) (map view_of c.args.arranged.now)) in
    let after_one : c.args.printing.style.now.ibid_after_one ≡ x.style.citation.ibid_after_one =
    ap (λ (k : Citation). k.ibid_after_one) (c.requires.printing.style ∙ ap (λ (y : StyleContext). y.style.citation) (sym c.requires.printing.in_step.context)) in
    record {
      same = placed_goes_on answers x (citation_layout_view c.args.printing.style.now) states g.P.PartialEq.eq (record { item = c.index-item.result; cite = own; ibid = c.ibid_of.result; usage = get_or usages_now at usages.None }) a
          (map first_print (numbered_cites_view answers x items run)) c.args.arranged.now n c.loop-cite.shown.items c.print_shown.new.shown.items c.loop-cite.listed c.list.new.listed c.loop-cite.last (record { item = c.index-item.result; entry = own.entry; index = own.index }) whole c.loop-cite-test.true c.cite-item.is
          (print_at answers x items run at item own in_items in_run is_item is_own) c.loop-cite.invariant.same
          (c.ibid_of.ensures answers counts_at_last (all_count answers c.loop-cite.last) ∙ ap (λ b. ibid_at g.P.PartialEq.eq counts_at_last b own.index (last_cite_view answers c.loop-cite.last) (item_view (λ e. own.entry) answers item)) after_one)
          (element_plain usage_of usages_now (numbered_cites_view answers x items run) at (get_or usages_now at usages.None) (numbered_view answers x item own) c.requires.printing.usages (slice_get-get_or usages_now at usages.None in_usages) (run_at answers x items run at item own in_items in_run is_item is_own))
          (c.list.ensures states) c.in_ok-print_shown.ensures.shown refl;
      long = c.list.auto.listed ∙ c.loop-cite.invariant.long;
      cites = length-set c.loop-cite.printed at c.take_tree-tree.new.self ∙ c.loop-cite.invariant.cites;
      left = left_after c.loop-cite.printed prints at c.take_tree-tree.new.self in_printed c.take_tree-tree.ensures.nothing c.loop-cite.invariant.left;
      effort = omega (arith, c.in_ok-print_shown.ensures.effort, c.loop-cite.invariant.effort);
    }
