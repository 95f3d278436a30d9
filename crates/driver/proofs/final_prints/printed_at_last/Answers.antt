use Rattle.std.proofs.Common.{map, option_map, sym, ◌∙◌}
use Rattle.std.proofs.lemmas.List.{get_or-map}
use Rattle.rendering.specs.Views.{style_context_view, rendering_view}
use Rattle.rendering_context.specs.Cites.{undisambiguated}
use Rattle.rendering_context.specs.Views.{cite_properties_view, locator_view, state_view}
use Rattle.rendering_style.specs.Views.{citation_layout_view}
use Rattle.driver.proofs.FinalPrintsSteps.{printed_is}
use Rattle.driver.proofs.final_prints.printed_at_last.Goals as goal

pub returns-clause-printed : goal.returns-clause-printed
returns-clause-printed g c =
    printed_is g.T.EntryLike.answers (style_context_view c.args.printing.cites.context.now) (citation_layout_view c.args.printing.style.now) (map state_view c.args.printing.entry_states.states.now) c.args.next.now c.args.cite.now (state_view c.in_ok-state.state)
    (option_map locator_view c.plain_locator-locator.result) (cite_properties_view c.properties-properties.result) (rendering_view c.in_ok-rendering.rendering)
    (c.in_ok-state.ensures ∙ sym (get_or-map state_view c.args.printing.entry_states.states.now c.args.next.now.cite.entry c.index-printing-next.result undisambiguated c.requires.within)) c.plain_locator-locator.ensures c.properties-properties.ensures
    c.in_ok-rendering.ensures.cite
