use Rattle.std.proofs.Common.{◌++◌, ap, sym, ◌∙◌, string_bytes}
use Rattle.std.specs.List.{filter_map}
use Rattle.std.specs.BTreeMap.{get_by_text}
use Rattle.std.proofs.lemmas.Result.{on_ok_weaker}
use Rattle.rendering_style.specs.Opening.{calls_in}
use Rattle.rendering_style.specs.Views.{text_node_view}
use Rattle.rendering_style.proofs.ViewsSteps.{call_found}
use Rattle.rendering_style.proofs.calls.push_target.Goals as goal

pub returns-in-Macro : goal.returns-in-Macro
returns-in-Macro c =
    on_ok_weaker c.push_index.result
    (λ h look.
    call_found (get_by_text c.args.table.now) (string_bytes c.in-Macro.name) c.as_str.result.now c.copied.result c.args.found.now.items c.push_index.new.found.items c.as_str.ensures.value (c.copied.ensures ∙ c.get.ensures.value) h
    ∙ ap (λ t. c.args.found.now.items ++ filter_map (get_by_text c.args.table.now) (calls_in (text_node_view t look))) (sym c.in-Macro.is))
    c.push_index.ensures
