use Rattle.std.proofs.Common.{◌≡◌, ◌<◌, length, map, get_or, option_map, None, sym, ap, ◌∙◌, arith}
use Rattle.std.proofs.lemmas.List.{get_or-map}
use Rattle.rendering_tree.specs.Views.{tree_view}
use Rattle.driver_blocks.specs.Views.{gathered_view}
use Rattle.driver_names.specs.Views.{printed_view}
use Rattle.driver_requests.specs.SuffixViews.{suffix_view}
use Rattle.driver.specs.FinalPrints.{all_gathered}
use Rattle.driver.proofs.FinalPrintsSteps.{gathered_goes_on}
use Rattle.driver.proofs.final_prints.gathered_cites.Goals as goal

pub loop-at-preserved : goal.loop-at-preserved
loop-at-preserved g c =
    let n = c.loop-at.at in
    let items = c.args.request.now.items.items in
    let run = c.args.run.now in
    let printed = c.args.printed.now in
    let same : length c.deref-item-items.result.now ≡ length items = ap length c.deref-item-items.ensures.value in
    let in_items : n < length items = omega (arith, c.loop-at-test.true, same) in
    let in_run : n < length run = omega (arith, in_items, c.requires.run) in
    let in_printed : n < length printed = omega (arith, in_items, c.requires.printed) in
    let years = c.args.year_suffixes.now in
    let own = c.index-run-at.result in
    let low : own.entry < length years = omega (arith, ap (λ k. k.entry) c.index-run-at.is, c.requires.within n own in_run) in
    gathered_goes_on gathered_view (map (option_map suffix_view) years) printed_view items run printed n c.item-item.result own c.index-printed-at.result c.loop-at.gathered.items c.push.new.self.items c.gathered_cite.result (all_gathered (map (option_map suffix_view) years) 0 items run (map printed_view printed))
    (tree_view c.tree-tree.result.now) (option_map suffix_view (get_or years own.entry None)) in_items in_run in_printed (c.item-item.is ∙ ap (λ xs. get_or xs n c.item-item.result) c.deref-item-items.ensures.value) c.index-run-at.is c.index-printed-at.is
    c.loop-at.invariant c.in_ok-push.ensures.items c.gathered_cite.ensures c.tree-tree.ensures (sym (get_or-map (option_map suffix_view) years own.entry None None low))
