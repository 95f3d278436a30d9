use Rattle.std.specs.Option.{option_map}
use Rattle.rendering_tree.specs.Views.{meta_view, children_view}
use Rattle.rendering.proofs.Spacing.{element_spaced}
use Rattle.rendering.proofs.second_field.spaced.Goals as goal

pub returns : goal.returns
returns c =
    let e = c.args.field in
    element_spaced e.display (option_map meta_view e.meta) (children_view e.children.0.items) (children_view c.push_space.new.parts.items) c.in_ok-push_space.ensures.spaced
