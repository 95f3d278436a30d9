-- The code's values without where they lie in memory.
use Rattle.std.specs.Option.{option_map}
use Rattle.rendering_context.specs.Contexts as contexts
use Rattle.rendering_context.specs.Contexts.{Context}
use Rattle.rendering_context.specs.Views.{context_view}
use Rattle.rendering_entries.specs.Answers.{Answers}
use Rattle.rendering_style.specs.Styles.{Style}
use Rattle.rendering_style.specs.StyleViews.{style_view}
use Rattle.rendering_tree.specs.Views.{element_view, tree_view}
use Rattle.rendering.specs.Purposes as purposes
use Rattle.rendering.specs.StyleContexts.{style_context_of}
use Rattle.rendering.specs.declared.call.Call.{Call}
use Rattle.rendering.specs.declared.rendered.Rendering.{Rendering}
use Rattle.rendering.specs.declared.style_context.StyleContext.{StyleContext}

-- a style with the language that is asked for, and the files with locales
abbrev pub style_context_view : StyleContext → contexts.StyleContext
style_context_view x = style_context_of x.style.now x.locale x.locale_files.now

-- the style of a call
abbrev pub style_of : Call → Style
style_of c = style_view c.walk.style.now

-- what a call prints from, with what the entry answers
abbrev pub context_in : Answers → Call → Context
context_in a c = context_view a c.walk.context

-- what a call gives
abbrev pub rendering_view : Rendering → purposes.Rendered
rendering_view r = record { tree = tree_view r.tree; met_disambiguate = r.met_disambiguate; names = r.names; usage = r.identifier_usage; first_names = option_map (λ e. element_view e) r.first_names }
