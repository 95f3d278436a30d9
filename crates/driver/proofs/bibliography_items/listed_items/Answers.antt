use Rattle.std.proofs.Common.{◌<◌, ◌≤◌, get_or, length, map, arith}
use Rattle.std.specs.Option.{option_and_then, option_map}
use Rattle.std.proofs.lemmas.List.{get_or_default}
use Rattle.std.proofs.lemmas.List.Elements.{All-get_or}
use Rattle.rendering.specs.Views.{style_context_view}
use Rattle.rendering_context.specs.Views.{state_view}
use Rattle.driver_bibliography.specs.Views.{printed_view}
use Rattle.driver.specs.FinalPrints.{listed_view}
use Rattle.driver.specs.Listing.{item_at, item_listed, key_listed_at, key_printed, keys_of, listed_in_state}
use Rattle.driver.proofs.ListedSteps.{made_by_state, tried_goes_on, tried_ends}
use Rattle.driver.proofs.bibliography_items.listed_items.Goals as goal

pub loop-entry_index-preserved : goal.loop-entry_index-preserved
loop-entry_index-preserved g c =
    let x = style_context_view c.args.context.now in
    let answers = g.T.EntryLike.answers in
    let states = c.args.states.now in
    let listed = c.args.listed.now in
    let order = c.args.order.now in
    let n = c.loop-entry_index.entry_index-index in
    let here : n < length order = c.loop-entry_index-test.true in
    let entry_index = get_or order n 0 in
    let state = c.index-states-entry_index.result in
    let own = c.index-listed-entry_index.result in
    let ls = map (option_map (listed_view answers (map state_view states))) listed in
    let below : entry_index < length states = All-get_or (λ p. p < length states) order n 0 here c.requires.order in
    record {
      same = tried_goes_on (item_at x ls) order (map printed_view c.loop-entry_index.trees.items) (map printed_view c.push_item.new.trees.items) n entry_index (option_and_then (item_listed x) (option_map (listed_in_state answers (state_view state)) own)) _ here
          (get_or_default order n 0 entry_index here) (made_by_state (item_listed x) answers states listed entry_index state own below c.requires.listed c.index-states-entry_index.is c.index-listed-entry_index.is c.requires.own) c.loop-entry_index.invariant.same c.in_ok-push_item.ensures.trees;
      keys = tried_goes_on (key_listed_at x ls) order (keys_of answers c.loop-entry_index.entries.items) (keys_of answers c.push_item.new.entries.items) n entry_index (option_and_then (key_printed x) (option_map (listed_in_state answers (state_view state)) own)) _ here
          (get_or_default order n 0 entry_index here) (made_by_state (key_printed x) answers states listed entry_index state own below c.requires.listed c.index-states-entry_index.is c.index-listed-entry_index.is c.requires.own) c.loop-entry_index.invariant.keys c.in_ok-push_item.ensures.keys;
      entries = c.in_ok-push_item.ensures.entries c.loop-entry_index.invariant.entries;
      effort = omega (arith, c.push_item.ensures.effort, c.loop-entry_index.invariant.effort);
    }

pub returns-clause-trees : goal.returns-clause-trees
returns-clause-trees g c =
    let over : length c.args.order.now ≤ c.loop-entry_index.entry_index-index = omega (arith, c.loop-entry_index-test.false) in
    tried_ends (item_at (style_context_view c.args.context.now) (map (option_map (listed_view g.T.EntryLike.answers (map state_view c.args.states.now))) c.args.listed.now)) c.args.order.now (map printed_view c.loop-entry_index.trees.items) c.loop-entry_index.entry_index-index _ over
    c.loop-entry_index.invariant.same

pub returns-clause-keys : goal.returns-clause-keys
returns-clause-keys g c =
    let over : length c.args.order.now ≤ c.loop-entry_index.entry_index-index = omega (arith, c.loop-entry_index-test.false) in
    tried_ends (key_listed_at (style_context_view c.args.context.now) (map (option_map (listed_view g.T.EntryLike.answers (map state_view c.args.states.now))) c.args.listed.now)) c.args.order.now (keys_of g.T.EntryLike.answers c.loop-entry_index.entries.items)
    c.loop-entry_index.entry_index-index _ over c.loop-entry_index.invariant.keys
