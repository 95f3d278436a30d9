use Rattle.std.proofs.Common.{sym, ap, ◌∙◌}
use Rattle.rendering_context.specs.Cites.{names_of}
use Rattle.rendering_context.specs.Views.{state_view}
use Rattle.rendering_context.specs.declared.cite.DisambiguateState.{DisambiguateState}
use Rattle.rendering_people.specs.Properties.{raised_to}
use Rattle.rendering_nodes.proofs.ElementsSteps.{raised_by_names}
use Rattle.rendering_nodes.proofs.style_walk.Walk.raised_in_state.Goals as goal

pub returns-in_ok-raised-in-NameDisambiguation : goal.returns-in_ok-raised-in-NameDisambiguation
returns-in_ok-raised-in-NameDisambiguation c = λ a.
    c.in_ok-raised-in-NameDisambiguation.ensures
    ∙ ap (λ (d : DisambiguateState). raised_to (names_of (state_view d)) c.args.own.now) (sym c.in-NameDisambiguation.is)

pub returns-in_default : goal.returns-in_default
returns-in_default c = λ a. raised_by_names c.args.self.now.context.properties.now.disambiguation c.args.own.now c.in_default.not-NameDisambiguation
