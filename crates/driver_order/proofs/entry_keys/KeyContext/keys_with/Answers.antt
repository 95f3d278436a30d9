use Rattle.std.proofs.Common.{map}
use Rattle.laws.specs.Text.{characters}
use Rattle.rendering.specs.Views.{style_context_view}
use Rattle.rendering.specs.Words.{words_view}
use Rattle.rendering_context.specs.Views.{cite_properties_view}
use Rattle.rendering_names.specs.Views.{resolved_options_view}
use Rattle.rendering_nodes.specs.Views.{walk_context}
use Rattle.rendering_style.specs.StyleViews.{style_view}
use Rattle.rendering_style.specs.Views.{sort_key_view}
use Rattle.driver_order.proofs.KeysPrinted.{keys_given}
use Rattle.driver_order.proofs.entry_keys.KeyContext.keys_with.Goals as goal

pub returns : goal.returns
returns g c =
    let k = c.args.self.now in
    let walk = c.walk-walk.result in
    keys_given (style_context_view k.context.now) (g.E.EntryLike.answers c.args.entry.now) k.is_bibliography (cite_properties_view c.args.properties.now) (words_view k.words.now) (characters c.args.year_suffix.now.0)
    c.parts.result (λ a. walk_context a walk) (style_view walk.style.now) (resolved_options_view k.options) (map sort_key_view k.keys.now)
    k.language c.requires c.walk-walk.ensures.style c.walk-walk.ensures.context k.names k.sort c.parts.ensures
