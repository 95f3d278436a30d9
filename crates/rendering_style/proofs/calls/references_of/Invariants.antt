use Rattle.std.proofs.Common.{◌≡◌, map, take}
use Rattle.std.specs.List.{filter_map}
use Rattle.std.specs.BTreeMap.{get_by_text}
use Rattle.reference_graph.specs.References.{lists}
use Rattle.rendering_style.specs.Nodes.{nodes_of}
use Rattle.rendering_style.specs.Opening.{calls}
use Rattle.rendering_style.specs.Styles.{Macro}
use Rattle.rendering_style.specs.Views.{macro_view}
use Rattle.rendering_style.proofs.calls.references_of.Given as goal

abbrev pub invariant-loop-called : goal.invariant-loop-called
invariant-loop-called l = lists l.all.items ≡ map (λ (m : Macro). filter_map (get_by_text l.table) (calls (nodes_of m.nodes))) (map macro_view (take l.called-index l.macros))
