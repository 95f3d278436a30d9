use Rattle.std.proofs.Common.{◌≡◌, ℕ, ◌+◌, ◌-◌, suc, not, ◌&&◌, map, drop, List, refl, sym, subst, ap, ◌∙◌, rules}
use Rattle.std.specs.Option.{option_map}
use Rattle.std.proofs.lemmas.Result.{IfOk-weaker, on_ok_weaker}
use Rattle.rendering_leaves.specs.NodeSettings.{NodeSetting, State}
use Rattle.rendering_leaves.specs.Views.{setting_view}
use Rattle.rendering_names.specs.Views.{names_parts_view}
use Rattle.rendering_nodes.specs.Admission.{substitute_form}
use Rattle.rendering_nodes.specs.Content.{append_people, inside_names, substituted_names}
use Rattle.rendering_nodes.specs.Findings.{AreFound, AreFoundInside}
use Rattle.rendering_nodes.specs.Turns.{substituted}
use Rattle.rendering_nodes.specs.Views.{macros_of, walk_context}
use Rattle.rendering_page.specs.Views.{frame_view}
use Rattle.rendering_people.specs.Views.{all_lent_answered_view}
use Rattle.rendering_style.specs.Nodes as nodes
use Rattle.rendering_style.specs.Opening.{each_branch, each_node, macro_named, open_node, part}
use Rattle.rendering_style.specs.Views.{branch_view, branches_of, group_node_view, names_node_view, node_view, nodes_view, text_node_view, text_look_view}
use Rattle.rendering_style.specs.declared.node.ChooseBranch.{ChooseBranch}
use Rattle.rendering_style.specs.declared.node.Node.{Node}
use Rattle.rendering_style.specs.declared.node.TextTarget.{TextTarget}
use Rattle.rendering_taxonomy.specs.declared.variable.NameVariable.{NameVariable}
use Rattle.rendering_nodes.proofs.ContentSteps.{and_else, and_then, choose_appended, contents_more, delimited_by, delimited_in, delimited_on, next_admitted, next_passed, substitute_more}
use Rattle.rendering_nodes.proofs.FindingsAppended.{form_as, inside_as, known_more, macro_as, macro_some, substitutes_as, taken_as}
use Rattle.rendering_nodes.proofs.OpenedSteps.{open_text, open_names, open_choose, open_group}
use Rattle.rendering_nodes.proofs.OpenedAppended.{names_node_appended, choose_node_appended, group_node_appended, macro_appended, grouped_appended}
use Rattle.rendering_nodes.proofs.SubstituteSteps.{names_by, names_without, names_with, substitute_passed, substitute_tried, is_substitute_passed, is_substitute_tried, substituted_by, taken_variables, tried_by}
use Rattle.rendering_nodes.proofs.style_walk.Walk.+contents.Goals.{push_all-then-is_first, push_all-else-is_first}
use Rattle.rendering_nodes.proofs.style_walk.Walk.+contents.Goals as goal

pub push_node-returns-in-Names : goal.push_node-returns-in-Names
push_node-returns-in-Names g t c =
    let k = walk_context (g.E.EntryLike.answers c.args.entry.now) c.args.self.now in
    let outer = option_map (λ n. names_parts_view n.now) c.args.outer in
    let s = setting_view c.args.setting.now in
    let ms = macros_of c.args.self.now in
    names_node_appended c.push_names.result k outer s c.args.state.now c.push_names.new.state c.args.levels ms c.args.node.now c.in-Names.names c.in-Names.substitute c.deref.result.now
    c.if-levels-eq0.false c.in-Names.is c.deref.ensures.value
    (on_ok_weaker c.push_names.result
    (names_by k outer s (names_node_view c.in-Names.names) (names_parts_view c.taken_around-parts.result) (each_node (open_node (c.args.levels - 1) ms) (nodes_view c.deref.result.now))
    c.args.state.now c.push_names.new.state c.taken_around-parts.ensures)
    c.push_names.ensures)

pub push_node-returns-in-Choose : goal.push_node-returns-in-Choose
push_node-returns-in-Choose g t c =
    let outer = option_map (λ n. names_parts_view n.now) c.args.outer in
    choose_node_appended c.push_choose.result (walk_context (g.E.EntryLike.answers c.args.entry.now) c.args.self.now) outer (setting_view c.args.setting.now)
    c.args.state.now c.push_choose.new.state c.args.levels (macros_of c.args.self.now) c.args.node.now c.in-Choose.branches c.in-Choose.otherwise c.deref-in-Choose.result.now c.deref-in-Choose-2.result.now
    c.if-levels-eq0.false c.in-Choose.is c.deref-in-Choose.ensures.value c.deref-in-Choose-2.ensures.value (c.push_choose.ensures outer)

pub push_node-returns-in-Group : goal.push_node-returns-in-Group
push_node-returns-in-Group g t c =
    let outer = option_map (λ n. names_parts_view n.now) c.args.outer in
    group_node_appended c.push_group.result (walk_context (g.E.EntryLike.answers c.args.entry.now) c.args.self.now) outer (setting_view c.args.setting.now)
    c.args.state.now c.push_group.new.state c.args.levels (macros_of c.args.self.now) c.args.node.now c.in-Group.group c.in-Group.children c.deref-in-Group.result.now
    c.if-levels-eq0.false c.in-Group.is c.deref-in-Group.ensures.value (c.push_group.ensures outer)

pub push_text-returns-in-Macro : goal.push_text-returns-in-Macro
push_text-returns-in-Macro g t c = λ outer.
    macro_appended c.push_macro.result (walk_context (g.E.EntryLike.answers c.args.entry.now) c.args.self.now) outer (setting_view c.args.setting.now)
    c.args.state.now c.push_macro.new.state c.args.levels (macros_of c.args.self.now) (text_look_view c.args.text.now.look) c.args.text.now.target c.in-Macro.name c.as_str.result.now
    c.in-Macro.is c.as_str.ensures.value (c.push_macro.ensures outer)

pub push_group-returns : goal.push_group-returns
push_group-returns g t c = λ outer.
    let a = g.E.EntryLike.answers c.args.entry.now in
    grouped_appended c.end_group.result (walk_context a c.args.self.now) outer (setting_view c.args.setting.now) (setting_view c.inside_group-inside.result)
    c.args.state.now c.begin_group.new.state c.push_all.new.state c.end_group.new.state (group_node_view c.args.group.now) (each_node (open_node c.args.levels (macros_of c.args.self.now)) (nodes_view c.args.children.now))
    (c.in_ok-begin_group.ensures a) c.inside_group-inside.ensures c.in_ok-push_all.ensures (c.end_group.ensures a)

pub push_choose-returns : goal.push_choose-returns
push_choose-returns g t c = λ outer.
    let k = walk_context (g.E.EntryLike.answers c.args.entry.now) c.args.self.now in
    let ms = macros_of c.args.self.now in
    let s = setting_view c.args.setting.now in
    on_ok_weaker c.push_all.result
    (λ e. choose_appended k s (open_node c.args.levels ms) (branches_of (map branch_view c.args.branches.now) (nodes_view c.args.otherwise.now))
    (nodes_view c.in_ok-taken.taken.nodes.now) c.in_ok-taken.taken.met c.args.state.now c.note.new.self c.push_all.new.state c.in_ok-taken.ensures c.note.ensures e)
    c.push_all.ensures

pub push_names-returns-then-is_empty : goal.push_names-returns-then-is_empty
push_names-returns-then-is_empty g t c =
    let k = walk_context (g.E.EntryLike.answers c.args.entry.now) c.args.self.now in
    let s = setting_view c.args.setting.now in
    let xs = each_node (open_node c.args.levels (macros_of c.args.self.now)) (nodes_view c.args.substitute.now) in
    on_ok_weaker c.push_substitute.result
    (λ e. names_without k s (names_parts_view c.args.parts.now) xs c.as_slice.result.now c.in_ok-people.people.items c.in_ok-people.people.len c.is_empty.result
    c.args.state.now c.push_substitute.new.state (c.as_slice.ensures.value ∙ ap (λ (st : State). st.suppressed) c.state.view_is)
    c.in_ok-people.ensures c.in_ok-people.people.ok.0 c.is_empty.ensures c.if-is_empty.true
    (e ∙ ap (λ (h : nodes.NamesNode). substituted k s h xs c.args.state.now) c.names_in-own.ensures))
    c.push_substitute.ensures

pub push_names-returns : goal.push_names-returns
push_names-returns g t c =
    let a = g.E.EntryLike.answers c.args.entry.now in
    let k = walk_context a c.args.self.now in
    let s = setting_view c.args.setting.now in
    on_ok_weaker c.push_people.result
    (λ e. names_with k s (names_parts_view c.args.parts.now)
    (each_node (open_node c.args.levels (macros_of c.args.self.now)) (nodes_view c.args.substitute.now)) c.as_slice.result.now c.in_ok-people.people.items c.as_slice-2.result.now
    c.in_ok-people.people.len c.is_empty.result c.args.state.now c.push_people.new.state (c.as_slice.ensures.value ∙ ap (λ (st : State). st.suppressed) c.state.view_is)
    c.in_ok-people.ensures c.in_ok-people.people.ok.0 c.is_empty.ensures c.if-is_empty.false c.as_slice-2.ensures.value
    (e ∙ ap (λ (h : nodes.NamesNode). append_people k s h (all_lent_answered_view c.as_slice-2.result.now) c.args.state.now) c.names_in-own.ensures))
    (c.push_people.ensures a)

pub push_substitute-returns : goal.push_substitute-returns
push_substitute-returns g t c =
    let a = g.E.EntryLike.answers c.args.entry.now in
    on_ok_weaker c.end_names.result
    (substituted_by (walk_context a c.args.self.now) (setting_view c.args.setting.now) (setting_view c.inside_names-inside.result) (names_parts_view c.args.names.now)
    (each_node (open_node c.args.levels (macros_of c.args.self.now)) (nodes_view c.args.substitute.now)) c.args.state.now c.begin_names.new.state c.push_first.new.state c.end_names.new.state
    (c.inside_names-inside.ensures (each_node (open_node c.args.levels (macros_of c.args.self.now)) (nodes_view c.args.substitute.now)) c.substitute_form-form.ensures) (c.in_ok-begin_names.ensures a) c.in_ok-push_first.ensures)
    (c.end_names.ensures a)

pub push_tried-returns-clause-state : goal.push_tried-returns-clause-state
push_tried-returns-clause-state g t c =
    let a = g.E.EntryLike.answers c.args.entry.now in
    let k = walk_context a c.args.self.now in
    let s = setting_view c.args.setting.now in
    let x = open_node c.args.levels (macros_of c.args.self.now) (node_view c.args.node.now) in
    on_ok_weaker c.accept.result
    (substitute_tried k (names_parts_view c.args.outer.now) s x c.admits.result c.args.state.now c.admits.new.state c.in_ok-done.done c.accept.new.state
    (c.admits.ensures.admitted k s x c.requires) c.if-not-admits.false (c.admits.ensures.state k s x c.requires) c.in_ok-done.ensures)
    (c.accept.ensures.state a)

-- what is known of the nodes that are printed
pub push_node-push_text-requires : goal.push_node-push_text-requires
push_node-push_text-requires g t c =
    let ms = macros_of c.args.self.now in
    let known = inside_as (walk_context (g.E.EntryLike.answers c.args.entry.now) c.args.self.now) (setting_view c.args.setting.now).form c.args.findings (open_node c.args.levels ms (node_view c.args.node.now))
    (open_node (suc (c.args.levels - 1)) ms (text_node_view c.in-Text.text.target (text_look_view c.in-Text.text.look)))
    (ap (λ (y : Node). open_node c.args.levels ms (node_view y)) c.in-Text.is ∙ open_text c.args.levels ms c.in-Text.text c.if-levels-eq0.false)
    c.requires in
    search rules

pub push_node-push_names-requires : goal.push_node-push_names-requires
push_node-push_names-requires g t c =
    let ms = macros_of c.args.self.now in
    let f = open_node (c.args.levels - 1) ms in
    let known = substitutes_as (walk_context (g.E.EntryLike.answers c.args.entry.now) c.args.self.now) (setting_view c.args.setting.now).form c.args.findings (names_node_view c.in-Names.names) (names_parts_view c.taken_around-parts.result).variables (each_node f (nodes_view c.deref.result.now))
    (open_node c.args.levels ms (node_view c.args.node.now))
    (ap (λ (y : Node). open_node c.args.levels ms (node_view y)) c.in-Names.is ∙ open_names c.args.levels ms c.in-Names.names c.in-Names.substitute c.if-levels-eq0.false
    ∙ ap (λ (xs : List Node). nodes.names (names_node_view c.in-Names.names) (each_node f (nodes_view xs))) (sym c.deref.ensures.value))
    (ap (λ (h : nodes.NamesNode). h.variables) c.taken_around-parts.ensures ∙ taken_variables (substituted_names c.args.self.now.context.is_published (option_map (λ n. names_parts_view n.now) c.args.outer) (setting_view c.args.setting.now)) (names_node_view c.in-Names.names))
    c.requires in
    search rules

pub push_names-push_substitute-requires : goal.push_names-push_substitute-requires
push_names-push_substitute-requires g t c =
    let known = subst (λ (vs : List NameVariable). AreFound (walk_context (g.E.EntryLike.answers c.args.entry.now) c.args.self.now) (substitute_form (setting_view c.args.setting.now).form vs (each_node (open_node c.args.levels (macros_of c.args.self.now)) (nodes_view c.args.substitute.now))) c.args.findings
    (each_node (open_node c.args.levels (macros_of c.args.self.now)) (nodes_view c.args.substitute.now)))
    (sym (ap (λ (h : nodes.NamesNode). h.variables) c.names_in-own.ensures)) c.requires in
    search rules

pub push_node-push_choose-requires : goal.push_node-push_choose-requires
push_node-push_choose-requires g t c =
    let ms = macros_of c.args.self.now in
    let f = open_node (c.args.levels - 1) ms in
    let known = inside_as (walk_context (g.E.EntryLike.answers c.args.entry.now) c.args.self.now) (setting_view c.args.setting.now).form c.args.findings (open_node c.args.levels ms (node_view c.args.node.now))
    (nodes.choose (each_branch f (branches_of (map branch_view c.deref-in-Choose.result.now) (nodes_view c.deref-in-Choose-2.result.now))))
    (ap (λ (y : Node). open_node c.args.levels ms (node_view y)) c.in-Choose.is ∙ open_choose c.args.levels ms c.in-Choose.branches c.in-Choose.otherwise c.if-levels-eq0.false
    ∙ ap (λ (bs : List ChooseBranch). nodes.choose (each_branch f (branches_of (map branch_view bs) (nodes_view c.in-Choose.otherwise.items)))) (sym c.deref-in-Choose.ensures.value)
    ∙ ap (λ (xs : List Node). nodes.choose (each_branch f (branches_of (map branch_view c.deref-in-Choose.result.now) (nodes_view xs)))) (sym c.deref-in-Choose-2.ensures.value))
    c.requires in
    search rules

pub push_node-push_group-requires : goal.push_node-push_group-requires
push_node-push_group-requires g t c =
    let ms = macros_of c.args.self.now in
    let f = open_node (c.args.levels - 1) ms in
    let known = inside_as (walk_context (g.E.EntryLike.answers c.args.entry.now) c.args.self.now) (setting_view c.args.setting.now).form c.args.findings (open_node c.args.levels ms (node_view c.args.node.now))
    (nodes.group (group_node_view c.in-Group.group) (each_node f (nodes_view c.deref-in-Group.result.now)))
    (ap (λ (y : Node). open_node c.args.levels ms (node_view y)) c.in-Group.is ∙ open_group c.args.levels ms c.in-Group.group c.in-Group.children c.if-levels-eq0.false
    ∙ ap (λ (xs : List Node). nodes.group (group_node_view c.in-Group.group) (each_node f (nodes_view xs))) (sym c.deref-in-Group.ensures.value))
    c.requires in
    search rules

pub push_text-push_macro-requires : goal.push_text-push_macro-requires
push_text-push_macro-requires g t c =
    let ms = macros_of c.args.self.now in
    let look = text_look_view c.args.text.now.look in
    let known = inside_as (walk_context (g.E.EntryLike.answers c.args.entry.now) c.args.self.now) (setting_view c.args.setting.now).form c.args.findings (open_node (suc c.args.levels) ms (text_node_view c.args.text.now.target look))
    (part (open_node c.args.levels ms) c.as_str.result.now look (macro_named ms c.as_str.result.now))
    (ap (λ (y : TextTarget). open_node (suc c.args.levels) ms (text_node_view y look)) c.in-Macro.is
    ∙ ap (λ (name : List ℕ). part (open_node c.args.levels ms) name look (macro_named ms name)) (sym c.as_str.ensures.value))
    c.requires in
    search rules

pub push_macro-push_all-requires : goal.push_macro-push_all-requires
push_macro-push_all-requires g t c =
    let ms = macros_of c.args.self.now in
    let given : AreFoundInside (walk_context (g.E.EntryLike.answers c.args.entry.now) c.args.self.now) (setting_view c.args.setting.now).form c.args.findings (part (open_node c.args.levels ms) c.args.name.now (text_look_view c.args.look.now) (macro_named ms c.args.name.now)) = search rules in
    let known = macro_as (walk_context (g.E.EntryLike.answers c.args.entry.now) c.args.self.now) (setting_view c.args.setting.now) (setting_view c.inside_macro-inside.result) c.args.findings
    (open_node c.args.levels ms) c.args.name.now (text_look_view c.args.look.now) (macro_named ms c.args.name.now) (nodes_view c.in-Some.nodes.now)
    (ap (λ (i : NodeSetting). i.form) c.inside_macro-inside.ensures)
    (macro_some _ c.macro_named.result c.in-Some.nodes (macro_named ms c.args.name.now) c.macro_named.ensures c.in-Some.is) given in
    search rules

pub push_group-push_all-requires : goal.push_group-push_all-requires
push_group-push_all-requires g t c =
    let known = form_as (walk_context (g.E.EntryLike.answers c.args.entry.now) c.args.self.now) (setting_view c.args.setting.now) (setting_view c.inside_group-inside.result) c.args.findings
    (each_node (open_node c.args.levels (macros_of c.args.self.now)) (nodes_view c.args.children.now)) (ap (λ (i : NodeSetting). i.form) c.inside_group-inside.ensures) c.requires in
    search rules

pub push_substitute-push_first-requires : goal.push_substitute-push_first-requires
push_substitute-push_first-requires g t c =
    let known = form_as (walk_context (g.E.EntryLike.answers c.args.entry.now) c.args.self.now) (inside_names (setting_view c.args.setting.now) (names_parts_view c.args.names.now) (each_node (open_node c.args.levels (macros_of c.args.self.now)) (nodes_view c.args.substitute.now))) (setting_view c.inside_names-inside.result) c.args.findings
    (each_node (open_node c.args.levels (macros_of c.args.self.now)) (nodes_view c.args.substitute.now))
    (ap (λ (i : NodeSetting). i.form) (c.inside_names-inside.ensures (each_node (open_node c.args.levels (macros_of c.args.self.now)) (nodes_view c.args.substitute.now)) c.substitute_form-form.ensures)) c.requires in
    search rules

pub push_choose-push_all-requires : goal.push_choose-push_all-requires
push_choose-push_all-requires g t c =
    let known = taken_as (walk_context (g.E.EntryLike.answers c.args.entry.now) c.args.self.now) (setting_view c.args.setting.now).form c.args.findings (open_node c.args.levels (macros_of c.args.self.now))
    (branches_of (map branch_view c.args.branches.now) (nodes_view c.args.otherwise.now)) (nodes_view c.in_ok-taken.taken.nodes.now) c.in_ok-taken.taken.met c.in_ok-taken.ensures c.requires in
    search rules

pub tried-returns : goal.tried-returns
tried-returns g t c =
    let a = g.E.EntryLike.answers c.args.entry.now in
    tried_by (walk_context a c.args.self.now) (names_parts_view c.args.outer.now) (setting_view c.args.setting.now) (open_node c.args.levels (macros_of c.args.self.now) (node_view c.args.node.now))
    c.args.state.now c.in_ok-done.done c.begin_bare.new.state c.push_node.new.state
    c.in_ok-done.ensures (c.in_ok-begin_bare.ensures a) c.in_ok-push_node.ensures

pub push_all-push_next-requires : goal.push_all-push_next-requires
push_all-push_next-requires g t c =
    let k = walk_context (g.E.EntryLike.answers c.args.entry.now) c.args.self.now in
    let s = setting_view c.args.setting.now in
    let f = open_node c.args.levels (macros_of c.args.self.now) in
    let known = c.take_first-finding.ensures.first k s (f (node_view c.node-item.result)) (each_node f (nodes_view (drop (c.loop-node.node-index + 1) c.args.nodes.now)))
    refl
    (known_more k s.form c.loop-node.rest f c.args.nodes.now c.loop-node.node-index c.node-item.result c.loop-node-test.true c.node-item.is c.loop-node.invariant.1) in
    search rules

pub push_all-loop-node-preserved : goal.push_all-loop-node-preserved
push_all-loop-node-preserved g t c =
    let k = walk_context (g.E.EntryLike.answers c.args.entry.now) c.args.self.now in
    let s = setting_view c.args.setting.now in
    let next : c.if-is_first.is_first ≡ (c.loop-node.is_first && not c.in_ok-is_admitted.is_admitted) = elim c.if-is_first.branch [
      | push_all-then-is_first w ↦ and_then c.loop-node.is_first (not c.in_ok-is_admitted.is_admitted) c.if-is_first.is_first w.if-is_first.true w.is_first-is
      | push_all-else-is_first w ↦ and_else c.loop-node.is_first (not c.in_ok-is_admitted.is_admitted) c.if-is_first.is_first w.if-is_first.false w.is_first-is
    ] in
    let f = open_node c.args.levels (macros_of c.args.self.now) in (
      contents_more k s f c.args.nodes.now c.loop-node.node-index c.node-item.result c.loop-node.is_first c.in_ok-is_admitted.is_admitted c.if-is_first.is_first c.loop-node.state c.push_next.new.state _
          c.loop-node-test.true c.node-item.is c.in_ok-is_admitted.ensures.admitted next c.in_ok-is_admitted.ensures.state c.loop-node.invariant.0,
      c.take_first-finding.ensures.others k s (f (node_view c.node-item.result)) (each_node f (nodes_view (drop (c.loop-node.node-index + 1) c.args.nodes.now)))
          (known_more k s.form c.loop-node.rest f c.args.nodes.now c.loop-node.node-index c.node-item.result c.loop-node-test.true c.node-item.is c.loop-node.invariant.1),
    )

pub push_first-push_substitute_node-requires : goal.push_first-push_substitute_node-requires
push_first-push_substitute_node-requires g t c =
    let k = walk_context (g.E.EntryLike.answers c.args.entry.now) c.args.self.now in
    let s = setting_view c.args.setting.now in
    let f = open_node c.args.levels (macros_of c.args.self.now) in
    let known = c.take_first-finding.ensures.first k s (f (node_view c.node-item.result)) (each_node f (nodes_view (drop (c.loop-node.node-index + 1) c.args.substitute.now)))
    refl
    (known_more k s.form c.loop-node.rest f c.args.substitute.now c.loop-node.node-index c.node-item.result c.loop-node-test.true c.node-item.is c.loop-node.invariant.1) in
    search rules

pub push_first-loop-node-preserved : goal.push_first-loop-node-preserved
push_first-loop-node-preserved g t c =
    let k = walk_context (g.E.EntryLike.answers c.args.entry.now) c.args.self.now in
    let s = setting_view c.args.setting.now in
    let f = open_node c.args.levels (macros_of c.args.self.now) in (
      substitute_more k (names_parts_view c.args.outer.now) s f c.args.substitute.now c.loop-node.node-index c.node-item.result c.in_ok-push_substitute_node.field-0 c.loop-node.state c.push_substitute_node.new.state _
          c.loop-node-test.true c.node-item.is c.in_ok-push_substitute_node.ensures.printed c.if-branch.false c.in_ok-push_substitute_node.ensures.state c.loop-node.invariant.0,
      c.take_first-finding.ensures.others k s (f (node_view c.node-item.result)) (each_node f (nodes_view (drop (c.loop-node.node-index + 1) c.args.substitute.now)))
          (known_more k s.form c.loop-node.rest f c.args.substitute.now c.loop-node.node-index c.node-item.result c.loop-node-test.true c.node-item.is c.loop-node.invariant.1),
    )

pub push_next-push_found-requires : goal.push_next-push_found-requires
push_next-push_found-requires g t c =
    let k = walk_context (g.E.EntryLike.answers c.args.entry.now) c.args.self.now in
    let s = setting_view c.args.setting.now in
    let x = open_node c.args.levels (macros_of c.args.self.now) (node_view c.args.node.now) in
    let known = c.finding-finding.ensures k s c.args.state.now x c.in_ok-known.ensures in
    search rules

pub push_substitute_node-push_tried-requires : goal.push_substitute_node-push_tried-requires
push_substitute_node-push_tried-requires g t c =
    let k = walk_context (g.E.EntryLike.answers c.args.entry.now) c.args.self.now in
    let s = setting_view c.args.setting.now in
    let x = open_node c.args.levels (macros_of c.args.self.now) (node_view c.args.node.now) in
    let known = c.finding-finding.ensures k s c.args.state.now x c.in_ok-known.ensures in
    search rules

pub push_found-returns-then-not-admits-clause-admitted : goal.push_found-returns-then-not-admits-clause-admitted
push_found-returns-then-not-admits-clause-admitted g t c =
    let k = walk_context (g.E.EntryLike.answers c.args.entry.now) c.args.self.now in
    let s = setting_view c.args.setting.now in
    let x = open_node c.args.levels (macros_of c.args.self.now) (node_view c.args.node.now) in
    sym c.if-not-admits.true ∙ c.admits.ensures.admitted k s x c.requires

pub push_found-returns-then-not-admits-clause-state : goal.push_found-returns-then-not-admits-clause-state
push_found-returns-then-not-admits-clause-state g t c =
    let k = walk_context (g.E.EntryLike.answers c.args.entry.now) c.args.self.now in
    let s = setting_view c.args.setting.now in
    let x = open_node c.args.levels (macros_of c.args.self.now) (node_view c.args.node.now) in
    next_passed k s c.args.is_first c.admits.result x c.args.state.now c.admits.new.state (c.admits.ensures.admitted k s x c.requires) c.if-not-admits.true (c.admits.ensures.state k s x c.requires)

pub push_found-push_admitted-requires : goal.push_found-push_admitted-requires
push_found-push_admitted-requires g t c =
    let known = c.requires.inside in
    search rules

pub push_admitted-push_delimited-requires : goal.push_admitted-push_delimited-requires
push_admitted-push_delimited-requires g t c =
    let known = c.requires in
    search rules

pub push_admitted-push_node-requires : goal.push_admitted-push_node-requires
push_admitted-push_node-requires g t c =
    let known = c.requires in
    search rules

pub push_delimited-push_node-requires : goal.push_delimited-push_node-requires
push_delimited-push_node-requires g t c =
    let known = c.requires in
    search rules

pub push_admitted-returns-then-delimits_printed : goal.push_admitted-returns-then-delimits_printed
push_admitted-returns-then-delimits_printed g t c =
    let k = walk_context (g.E.EntryLike.answers c.args.entry.now) c.args.self.now in
    let x = open_node c.args.levels (macros_of c.args.self.now) (node_view c.args.node.now) in
    on_ok_weaker c.push_delimited.result
    (delimited_in k (setting_view c.args.setting.now) c.args.is_first c.delimits_printed.result x c.args.state.now c.push_delimited.new.state c.delimits_printed.ensures c.if-delimits_printed.true)
    c.push_delimited.ensures

pub push_admitted-returns : goal.push_admitted-returns
push_admitted-returns g t c =
    let a = g.E.EntryLike.answers c.args.entry.now in
    let x = open_node c.args.levels (macros_of c.args.self.now) (node_view c.args.node.now) in
    on_ok_weaker c.push_node.result
    (delimited_on (walk_context a c.args.self.now) (setting_view c.args.setting.now) c.args.is_first c.delimits_printed.result x c.args.state.now c.push_delimiter.new.state c.push_node.new.state
    c.delimits_printed.ensures c.if-delimits_printed.false (c.in_ok-push_delimiter.ensures a))
    c.push_node.ensures

pub push_delimited-returns : goal.push_delimited-returns
push_delimited-returns g t c =
    let a = g.E.EntryLike.answers c.args.entry.now in
    let x = open_node c.args.levels (macros_of c.args.self.now) (node_view c.args.node.now) in
    on_ok_weaker c.end_delimited.result
    (delimited_by (walk_context a c.args.self.now) (setting_view c.args.setting.now) x (frame_view c.delimited_frame-frame.result) c.args.state.now c.begin_delimited.new.state c.push_node.new.state c.end_delimited.new.state
    c.delimited_frame-frame.ensures (c.in_ok-begin_delimited.ensures a) c.in_ok-push_node.ensures)
    (c.end_delimited.ensures a)

pub push_found-returns-clause-admitted : goal.push_found-returns-clause-admitted
push_found-returns-clause-admitted g t c =
    let k = walk_context (g.E.EntryLike.answers c.args.entry.now) c.args.self.now in
    let s = setting_view c.args.setting.now in
    let x = open_node c.args.levels (macros_of c.args.self.now) (node_view c.args.node.now) in
    sym c.if-not-admits.false ∙ c.admits.ensures.admitted k s x c.requires

pub push_found-returns-clause-state : goal.push_found-returns-clause-state
push_found-returns-clause-state g t c =
    let k = walk_context (g.E.EntryLike.answers c.args.entry.now) c.args.self.now in
    let s = setting_view c.args.setting.now in
    let x = open_node c.args.levels (macros_of c.args.self.now) (node_view c.args.node.now) in
    next_admitted k s c.args.is_first c.admits.result x c.args.state.now c.admits.new.state c.push_admitted.new.state
    (c.admits.ensures.admitted k s x c.requires) c.if-not-admits.false (c.admits.ensures.state k s x c.requires) c.in_ok-push_admitted.ensures

pub push_tried-returns-then-not-admits-clause-printed : goal.push_tried-returns-then-not-admits-clause-printed
push_tried-returns-then-not-admits-clause-printed g t c =
    let k = walk_context (g.E.EntryLike.answers c.args.entry.now) c.args.self.now in
    let s = setting_view c.args.setting.now in
    let x = open_node c.args.levels (macros_of c.args.self.now) (node_view c.args.node.now) in
    is_substitute_passed k (names_parts_view c.args.outer.now) s x c.admits.result c.args.state.now (c.admits.ensures.admitted k s x c.requires) c.if-not-admits.true

pub push_tried-returns-then-not-admits-clause-state : goal.push_tried-returns-then-not-admits-clause-state
push_tried-returns-then-not-admits-clause-state g t c =
    let k = walk_context (g.E.EntryLike.answers c.args.entry.now) c.args.self.now in
    let s = setting_view c.args.setting.now in
    let x = open_node c.args.levels (macros_of c.args.self.now) (node_view c.args.node.now) in
    substitute_passed k (names_parts_view c.args.outer.now) s x c.admits.result c.args.state.now c.admits.new.state (c.admits.ensures.admitted k s x c.requires) c.if-not-admits.true (c.admits.ensures.state k s x c.requires)

pub push_tried-tried-requires : goal.push_tried-tried-requires
push_tried-tried-requires g t c =
    let known = c.requires.inside in
    search rules

pub push_tried-returns-clause-printed : goal.push_tried-returns-clause-printed
push_tried-returns-clause-printed g t c =
    let k = walk_context (g.E.EntryLike.answers c.args.entry.now) c.args.self.now in
    let s = setting_view c.args.setting.now in
    let x = open_node c.args.levels (macros_of c.args.self.now) (node_view c.args.node.now) in
    IfOk-weaker c.accept.result _ _
    (λ b e. is_substitute_tried k (names_parts_view c.args.outer.now) s x c.admits.result b c.args.state.now c.admits.new.state c.in_ok-done.done (c.admits.ensures.admitted k s x c.requires) c.if-not-admits.false
    (c.admits.ensures.state k s x c.requires) c.in_ok-done.ensures e)
    c.accept.ensures.printed
