use Rattle.std.proofs.Common.{◌≡◌, ◌+◌, ◌*◌, List, ◌++◌, drop}
use Rattle.rendering_nodes.specs.Admission.{both, surveys}
use Rattle.rendering_nodes.specs.Findings.{all_asked, found}
use Rattle.rendering_nodes.specs.Views.{macros_of, stage_view, survey_view}
use Rattle.rendering_style.specs.Opening.{each_node, open_node}
use Rattle.rendering_style.specs.Views.{nodes_view}
use Rattle.rendering_style.specs.declared.node.Node.{Node}
use Rattle.rendering_nodes.proofs.leaf_surveys.Stage.+surveys.Given as goal

-- a node one level down comes after all that is done with it there
abbrev pub decreases-survey_node : goal.decreases-survey_node
decreases-survey_node g l = 8 * l.levels

abbrev pub decreases-survey_next : goal.decreases-survey_next
decreases-survey_next g l = 8 * l.levels + 1

abbrev pub decreases-survey_all : goal.decreases-survey_all
decreases-survey_all g l = 8 * l.levels + 2

abbrev pub decreases-survey_macro : goal.decreases-survey_macro
decreases-survey_macro g l = 8 * l.levels + 3

abbrev pub decreases-survey_names : goal.decreases-survey_names
decreases-survey_names g l = 8 * l.levels + 3

abbrev pub decreases-survey_choose : goal.decreases-survey_choose
decreases-survey_choose g l = 8 * l.levels + 3

abbrev pub decreases-survey_text : goal.decreases-survey_text
decreases-survey_text g l = 8 * l.levels + 4

-- what was found and what is left come to what all come to
abbrev pub invariant-survey_all-loop-node : goal.invariant-survey_all-loop-node
invariant-survey_all-loop-node g l =
    let s = stage_view (g.E.EntryLike.answers l.entry) l.self in
    let opened = λ (xs : List Node). each_node (open_node l.levels (macros_of l.self.walk.now)) (nodes_view xs) in
    (both (survey_view l.found) (surveys s (opened (drop l.node-index l.nodes))), l.findings.items ++ found s (opened (drop l.node-index l.nodes)))
    ≡ all_asked s l.initial.findings.items (opened l.nodes)
