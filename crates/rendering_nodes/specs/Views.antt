-- The code's values without where they lie in memory.
use Rattle.std.specs.Prelude.{ℕ, List}
use Rattle.rendering_entries.specs.Answers.{Answers}
use Rattle.rendering_context.specs.Contexts.{Context}
use Rattle.rendering_context.specs.Views.{context_view}
use Rattle.rendering_leaves.specs.Views.{form_view}
use Rattle.rendering_style.specs.Nodes as nodes
use Rattle.rendering_style.specs.Opening.{each_node, open_node}
use Rattle.rendering_style.specs.Styles.{Macro}
use Rattle.rendering_style.specs.StyleViews.{style_view}
use Rattle.rendering_style.specs.Views.{node_view, nodes_view}
use Rattle.rendering_style.specs.declared.node.Node.{Node}
use Rattle.rendering_nodes.specs.Admission as admission
use Rattle.rendering_nodes.specs.Taken.{TakenNodes}
use Rattle.rendering_nodes.specs.declared.choice.Taken.{Taken}
use Rattle.rendering_nodes.specs.declared.leaf_surveys.Stage.{Stage}
use Rattle.rendering_nodes.specs.declared.survey.Survey.{Survey}
use Rattle.rendering_nodes.specs.declared.style_walk.Walk.{Walk}

-- what is asked of nodes
abbrev pub survey_view : Survey → admission.Survey
survey_view v = record { is_admitted = v.is_admitted; calls = v.calls; is_answered = v.is_answered; met = v.met }

-- what nodes are printed from, with what the entry answers
abbrev pub walk_context : Answers → Walk → Context
walk_context a w = context_view a w.context

-- the macros that nodes call
abbrev pub macros_of : Walk → List Macro
macros_of w = (style_view w.style.now).macros

-- a node with the macros opened that it calls, down to so many levels
abbrev pub opened_node : ℕ → Walk → Node → nodes.Node
opened_node levels w x = open_node levels (macros_of w) (node_view x)

-- the same of each node of a list
abbrev pub opened_list : ℕ → Walk → List Node → nodes.Nodes
opened_list levels w xs = each_node (open_node levels (macros_of w)) (nodes_view xs)

-- how far a call has come, with what the entry answers
abbrev pub stage_view : Answers → Stage → admission.Stage
stage_view a s = record { context = context_view a s.walk.now.context; form = form_view s.form; has_date = s.has_date; suppressed = s.suppressed.now }

-- the nodes of the branch that is taken, and whether the test `disambiguate` was evaluated on the way
abbrev pub taken_view : Taken → TakenNodes
taken_view t = (nodes_view t.nodes.now, t.met)
