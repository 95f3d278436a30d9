use Rattle.std.proofs.Common.{◌∙◌, ap, map}
use Rattle.std.specs.Option.{option_map}
use Rattle.rendering.specs.Views.{style_context_view}
use Rattle.rendering_context.specs.Views.{state_view}
use Rattle.rendering_style.specs.Views.{bibliography_layout_view}
use Rattle.driver_bibliography.specs.Views.{printed_view}
use Rattle.driver.specs.FinalPrints.{listed_view}
use Rattle.driver.specs.Listing.{keys_of}
use Rattle.driver_rounds.specs.Views.{bibliography_context_of}
use Rattle.driver.proofs.ListedSteps.{bibliography_in, keys_in_order}
use Rattle.driver.proofs.bibliography_items.listed_in.Goals as goal

pub returns-clause-bibliography : goal.returns-clause-bibliography
returns-clause-bibliography g c =
    bibliography_in c.bibliography_of.result (bibliography_layout_view c.args.style.now) (map printed_view c.in_ok-trees.field-0.trees.items) (style_context_view c.in_ok-context.context) (bibliography_context_of c.args.request.now)
    (map (option_map (listed_view g.T.EntryLike.answers (map state_view c.args.states.now))) c.args.listed.now) c.args.order.now c.bibliography_of.ensures.bibliography c.in_ok-trees.ensures.trees c.in_ok-context.ensures

pub returns-clause-keys : goal.returns-clause-keys
returns-clause-keys g c =
    keys_in_order c.bibliography_of.result (keys_of g.T.EntryLike.answers c.deref.result.now) (style_context_view c.in_ok-context.context) (bibliography_context_of c.args.request.now)
    (map (option_map (listed_view g.T.EntryLike.answers (map state_view c.args.states.now))) c.args.listed.now) c.args.order.now c.bibliography_of.ensures.keys (ap (keys_of g.T.EntryLike.answers) c.deref.ensures.value ∙ c.in_ok-trees.ensures.keys)
    c.in_ok-context.ensures
