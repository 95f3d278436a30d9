use Rattle.std.proofs.Common.{◌≡◌, ◌+◌, ◌*◌, drop, true}
use Rattle.rendering_leaves.specs.Views.{setting_view}
use Rattle.rendering_names.specs.Views.{names_parts_view}
use Rattle.rendering_nodes.specs.Content.{contents, first_substitute}
use Rattle.rendering_nodes.specs.Findings.{AreFound}
use Rattle.rendering_nodes.specs.Views.{macros_of, walk_context}
use Rattle.rendering_style.specs.Opening.{each_node, open_node}
use Rattle.rendering_style.specs.Views.{nodes_view}
use Rattle.rendering_nodes.proofs.style_walk.Walk.+contents.Given as goal

-- a node one level down comes after all that is done with it there
abbrev pub decreases-push_node : goal.decreases-push_node
decreases-push_node g l = 16 * l.levels

abbrev pub decreases-push_delimited : goal.decreases-push_delimited
decreases-push_delimited g l = 16 * l.levels + 1

abbrev pub decreases-push_admitted : goal.decreases-push_admitted
decreases-push_admitted g l = 16 * l.levels + 2

abbrev pub decreases-push_found : goal.decreases-push_found
decreases-push_found g l = 16 * l.levels + 3

abbrev pub decreases-push_next : goal.decreases-push_next
decreases-push_next g l = 16 * l.levels + 4

abbrev pub decreases-push_all : goal.decreases-push_all
decreases-push_all g l = 16 * l.levels + 5

abbrev pub decreases-push_choose : goal.decreases-push_choose
decreases-push_choose g l = 16 * l.levels + 6

abbrev pub decreases-push_group : goal.decreases-push_group
decreases-push_group g l = 16 * l.levels + 6

abbrev pub decreases-push_macro : goal.decreases-push_macro
decreases-push_macro g l = 16 * l.levels + 6

abbrev pub decreases-push_text : goal.decreases-push_text
decreases-push_text g l = 16 * l.levels + 7

abbrev pub decreases-tried : goal.decreases-tried
decreases-tried g l = 16 * l.levels + 1

abbrev pub decreases-push_tried : goal.decreases-push_tried
decreases-push_tried g l = 16 * l.levels + 2

abbrev pub decreases-push_substitute_node : goal.decreases-push_substitute_node
decreases-push_substitute_node g l = 16 * l.levels + 3

abbrev pub decreases-push_first : goal.decreases-push_first
decreases-push_first g l = 16 * l.levels + 4

abbrev pub decreases-push_substitute : goal.decreases-push_substitute
decreases-push_substitute g l = 16 * l.levels + 5

abbrev pub decreases-push_names : goal.decreases-push_names
decreases-push_names g l = 16 * l.levels + 6

-- what is left of the nodes makes of the state what all of them make of the first
abbrev pub invariant-push_all-loop-node : goal.invariant-push_all-loop-node
invariant-push_all-loop-node g l =
    (contents (walk_context (g.E.EntryLike.answers l.entry) l.self) (setting_view l.setting) l.is_first (each_node (open_node l.levels (macros_of l.self)) (nodes_view (drop l.node-index l.nodes))) l.state
    ≡ contents (walk_context (g.E.EntryLike.answers l.entry) l.self) (setting_view l.setting) true (each_node (open_node l.levels (macros_of l.self)) (nodes_view l.nodes)) l.initial.state)
    × AreFound (walk_context (g.E.EntryLike.answers l.entry) l.self) (setting_view l.setting).form l.rest (each_node (open_node l.levels (macros_of l.self)) (nodes_view (drop l.node-index l.nodes)))

abbrev pub invariant-push_first-loop-node : goal.invariant-push_first-loop-node
invariant-push_first-loop-node g l =
    (first_substitute (walk_context (g.E.EntryLike.answers l.entry) l.self) (names_parts_view l.outer) (setting_view l.setting) (each_node (open_node l.levels (macros_of l.self)) (nodes_view (drop l.node-index l.substitute))) l.state
    ≡ first_substitute (walk_context (g.E.EntryLike.answers l.entry) l.self) (names_parts_view l.outer) (setting_view l.setting) (each_node (open_node l.levels (macros_of l.self)) (nodes_view l.substitute)) l.initial.state)
    × AreFound (walk_context (g.E.EntryLike.answers l.entry) l.self) (setting_view l.setting).form l.rest (each_node (open_node l.levels (macros_of l.self)) (nodes_view (drop l.node-index l.substitute)))
