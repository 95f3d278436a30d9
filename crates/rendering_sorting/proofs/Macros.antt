-- The value of a key that names a macro.
use Rattle.std.proofs.Common.{◌≡◌, List, map, Result, Option, Some, sym, ap, ◌∙◌}
use Rattle.std.specs.Prelude.{ℕ, IfOk}
use Rattle.std.specs.Option.{option_and_then, option_map}
use Rattle.std.proofs.lemmas.Result.{IfOk-weaker}
use Rattle.rendering_context.specs.Contexts.{Context}
use Rattle.rendering_leaves.specs.NodeSettings.{NodeSetting}
use Rattle.rendering_nodes.proofs.OpenedSteps.{opened_all}
use Rattle.rendering_style.specs.Nodes.{Nodes}
use Rattle.rendering_style.specs.Opening.{each_node, macro_named, open_node, opened_nodes}
use Rattle.rendering_style.specs.Options.{NameOptions}
use Rattle.rendering_style.specs.Sorting.{SortKey, SortTarget, by_macro}
use Rattle.rendering_style.specs.Styles.{Style}
use Rattle.rendering_style.specs.Views.{node_view, nodes_view}
use Rattle.rendering_style.specs.declared.node.Node.{Node}
use Rattle.rendering_sorting.specs.Printed.{key_setting, key_value, printed_text, target_value}
use Rattle.rendering_sorting.specs.Values.{of_text}
use Rattle.rendering_sorting.specs.Views.{value_view}
use Rattle.rendering_sorting.specs.declared.key.SortValue.{SortValue}

-- the value of a macro's nodes is that of the key
macro_value : (c : Context) (s : Style) (o : NameOptions) (k : SortKey) (name : List ℕ) (setting : NodeSetting) (xs : List Node)
    → k.target ≡ by_macro name → setting ≡ key_setting o k → Some (nodes_view xs) ≡ macro_named s.macros name
    → of_text (printed_text c setting (opened_nodes s.macros (map node_view xs))) ≡ key_value c s o k
macro_value c s o k name setting xs is same named =
    ap (λ (t : NodeSetting). of_text (printed_text c t (opened_nodes s.macros (map node_view xs)))) same
    ∙ (ap (λ (ys : Nodes). of_text (printed_text c (key_setting o k) ys)) (sym (opened_all s.macros xs))
    ∙ (ap (λ (m : Option Nodes). option_and_then (λ (ys : Nodes). of_text (printed_text c (key_setting o k) (each_node (open_node 200 s.macros) ys))) m) named
    ∙ ap (λ (t : SortTarget). target_value c s (key_setting o k) t) (sym is)))

-- the same of what was returned
pub macro_printed : {E : Type 0} (r : Result (Option SortValue) E) (c : Context) (s : Style) (o : NameOptions) (k : SortKey) (name : List ℕ) (setting : NodeSetting) (xs : List Node)
    → k.target ≡ by_macro name → setting ≡ key_setting o k → Some (nodes_view xs) ≡ macro_named s.macros name
    → IfOk r (λ (v : Option SortValue). option_map value_view v ≡ of_text (printed_text c setting (opened_nodes s.macros (map node_view xs))))
    → IfOk r (λ (v : Option SortValue). option_map value_view v ≡ key_value c s o k)
macro_printed r c s o k name setting xs is same named =
    IfOk-weaker r (λ (v : Option SortValue). option_map value_view v ≡ of_text (printed_text c setting (opened_nodes s.macros (map node_view xs))))
    (λ (v : Option SortValue). option_map value_view v ≡ key_value c s o k)
    (λ v e. e ∙ macro_value c s o k name setting xs is same named)
