use Rattle.std.proofs.Common.{ap, ◌∙◌}
use Rattle.rendering_context.specs.Cites.{names_of}
use Rattle.rendering_people.specs.Properties.{raised_to}
use Rattle.rendering_nodes.specs.Views.{walk_context}
use Rattle.rendering_nodes.proofs.style_walk.Walk.first_raised.Goals as goal

pub returns : goal.returns
returns c = λ a.
    c.unwrap_or.ensures
    ∙ (c.in_ok-raised.ensures a
    ∙ ap (raised_to (names_of (walk_context a c.args.self.now).properties.disambiguation)) c.in_ok-named.ensures)
