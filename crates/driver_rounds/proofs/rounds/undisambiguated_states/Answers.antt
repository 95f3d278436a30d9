use Rattle.std.proofs.Common.{◌∷◌, ◌++◌, [], map, ap, ◌∙◌}
use Rattle.std.proofs.lemmas.List.{map-append, replicate_more}
use Rattle.rendering_context.specs.Cites.{undisambiguated}
use Rattle.rendering_context.specs.Views.{state_view}
use Rattle.rendering_context.specs.declared.cite.DisambiguateState.TheVariants as variants
use Rattle.driver_rounds.proofs.rounds.undisambiguated_states.Goals as goal

pub loop-entry-preserved : goal.loop-entry-preserved
loop-entry-preserved c =
    ap (map state_view) c.in_ok-push.ensures.items
    ∙ map-append state_view c.loop-entry.states.items (variants.None ∷ [])
    ∙ ap (λ ms. ms ++ undisambiguated ∷ []) c.loop-entry.invariant
    ∙ replicate_more c.loop-entry._entry undisambiguated
