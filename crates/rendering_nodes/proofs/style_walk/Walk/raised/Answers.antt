use Rattle.std.proofs.Common.{is_some, sym, ap, ◌∙◌, Bor, Option}
use Rattle.rendering_context.specs.Cites.{names_of}
use Rattle.rendering_context.specs.Views.{lent_names}
use Rattle.rendering_leaves.specs.NodeSettings.{State}
use Rattle.rendering_people.specs.Properties.{Properties, raised_to}
use Rattle.rendering_nodes.specs.Content.{disambiguated}
use Rattle.rendering_nodes.specs.Views.{walk_context}
use Rattle.rendering_nodes.proofs.ElementsSteps.{disambiguated_some, disambiguated_none, raised_as, raised_none}
use Rattle.rendering_nodes.proofs.style_walk.Walk.raised.Goals as goal

pub returns-then-is_some : goal.returns-then-is_some
returns-then-is_some c = λ a.
    disambiguated_some (walk_context a c.args.self.now) c.args.state.now.names c.args.own.now (ap (λ (st : State). is_some st.names) (sym c.state.view_is) ∙ (sym c.is_some.ensures ∙ c.if-is_some.true))

pub returns-in-Some : goal.returns-in-Some
returns-in-Some c = λ a.
    let context = walk_context a c.args.self.now in
    let more = raised_to (names_of context.properties.disambiguation) in
    raised_as c.first_raised.result c.args.own.now (more (raised_to c.in-Some.first.now c.args.own.now)) (disambiguated context c.args.state.now.names c.args.own.now)
    (ap (λ (o : Option (Bor Properties)). more (raised_to (lent_names o) c.args.own.now)) (sym c.in-Some.is)
    ∙ disambiguated_none context c.args.state.now.names c.args.own.now (ap (λ (st : State). is_some st.names) (sym c.state.view_is) ∙ (sym c.is_some.ensures ∙ c.if-is_some.false)))
    (c.first_raised.ensures a)

pub returns-in-None : goal.returns-in-None
returns-in-None c = λ a.
    let context = walk_context a c.args.self.now in
    let more = raised_to (names_of context.properties.disambiguation) in
    raised_as c.raised_in_state.result c.args.own.now (more c.args.own.now) (disambiguated context c.args.state.now.names c.args.own.now)
    (ap more (raised_none c.args.own.now)
    ∙ ap (λ (o : Option (Bor Properties)). more (raised_to (lent_names o) c.args.own.now)) (sym c.in-None.is)
    ∙ disambiguated_none context c.args.state.now.names c.args.own.now (ap (λ (st : State). is_some st.names) (sym c.state.view_is) ∙ (sym c.is_some.ensures ∙ c.if-is_some.false)))
    (c.raised_in_state.ensures a)
