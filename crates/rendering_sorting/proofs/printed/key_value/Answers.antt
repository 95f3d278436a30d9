use Rattle.std.proofs.Common.{ap, sym, ◌∙◌, Bor, List, Option}
use Rattle.std.specs.Option.{option_map}
use Rattle.std.specs.Prelude.{ℕ, string_bytes}
use Rattle.rendering_leaves.specs.Views.{setting_view}
use Rattle.rendering_names.specs.Views.{resolved_options_view}
use Rattle.rendering_nodes.specs.Views.{macros_of, walk_context}
use Rattle.rendering_style.specs.Opening.{macro_named}
use Rattle.rendering_style.specs.StyleViews.{style_view}
use Rattle.rendering_style.specs.Views.{nodes_view, sort_key_view, sort_target_view}
use Rattle.rendering_style.specs.declared.node.Node.{Node}
use Rattle.rendering_sorting.proofs.Macros.{macro_printed}
use Rattle.rendering_sorting.proofs.printed.key_value.Goals as goal

pub returns-in-Some : goal.returns-in-Some
returns-in-Some g c =
    macro_printed c.printed_value.result (walk_context (g.E.EntryLike.answers c.args.entry.now) c.args.walk.now) (style_view c.args.walk.now.style.now)
    (resolved_options_view c.args.layout.now) (sort_key_view c.args.key.now)
    (string_bytes c.in-Macro.name) (setting_view c.key_setting.result) c.in-Some.nodes.now (ap sort_target_view c.in-Macro.is) c.key_setting.ensures
    (sym (ap (λ (o : Option (Bor (List Node))). option_map (λ xs. nodes_view xs.now) o) c.in-Some.is)
    ∙ (c.macro_named.ensures ∙ ap (λ (name : List ℕ). macro_named (macros_of c.args.walk.now) name) c.as_str.ensures.value))
    c.printed_value.ensures
