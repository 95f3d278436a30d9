use Rattle.std.proofs.Common.{ℕ, ◌-◌, suc, map, List, ◌++◌, Option, sym, ap, ◌∙◌}
use Rattle.std.specs.Str.{chars}
use Rattle.std.proofs.lemmas.Result.{IfOk-weaker}
use Rattle.rendering_nodes.specs.Admission.{Survey, both, survey, surveys}
use Rattle.rendering_nodes.specs.Findings.{all_asked, found, found_inside, node_asked, nothing_found}
use Rattle.rendering_nodes.specs.Views.{macros_of, stage_view, survey_view}
use Rattle.rendering_style.specs.Nodes as nodes
use Rattle.rendering_style.specs.Nodes.{Nodes}
use Rattle.rendering_style.specs.Opening.{each_branch, each_node, macro_named, open_node, part}
use Rattle.rendering_style.specs.Views.{branch_view, branches_of, date_node_view, group_node_view, label_look_view, names_node_view, node_view, nodes_view, number_node_view, text_node_view, text_look_view}
use Rattle.rendering_style.specs.declared.node.ChooseBranch.{ChooseBranch}
use Rattle.rendering_style.specs.declared.node.Node.{Node}
use Rattle.rendering_style.specs.declared.node.TextTarget.{TextTarget}
use Rattle.rendering_nodes.proofs.FindingsAppended.{macro_none, macro_some}
use Rattle.rendering_nodes.proofs.FindingsSteps.{choose_is, group_is, leaf_as, leaf_is, macro_is, names_shut_out, names_substituted, names_with_people, next_is, next_there, node_as, nothing_is, several_all, several_more}
use Rattle.rendering_nodes.proofs.OpenedSteps.{open_text, open_number, open_label, open_date, open_names, open_choose, open_group}
use Rattle.rendering_nodes.proofs.leaf_surveys.Stage.+surveys.Goals as goal

-- src/admission.rt: a number
pub survey_node-returns-in-Number : goal.survey_node-returns-in-Number
survey_node-returns-in-Number g t c =
    let ms = macros_of c.args.self.now.walk.now in
    leaf_as c.survey_number.result (stage_view (g.E.EntryLike.answers c.args.entry.now) c.args.self.now) c.args.findings.now.items (nodes.number (number_node_view c.in-Number.number)) (open_node c.args.levels ms (node_view c.args.node.now))
    (ap (λ (y : Node). open_node c.args.levels ms (node_view y)) c.in-Number.is ∙ open_number c.args.levels ms c.in-Number.number c.if-levels-eq0.false)
    c.survey_number.ensures

pub survey_node-returns-in-Label : goal.survey_node-returns-in-Label
survey_node-returns-in-Label g t c =
    let ms = macros_of c.args.self.now.walk.now in
    leaf_as c.survey_label.result (stage_view (g.E.EntryLike.answers c.args.entry.now) c.args.self.now) c.args.findings.now.items (nodes.label c.in-Label.label.variable (label_look_view c.in-Label.label.label)) (open_node c.args.levels ms (node_view c.args.node.now))
    (ap (λ (y : Node). open_node c.args.levels ms (node_view y)) c.in-Label.is ∙ open_label c.args.levels ms c.in-Label.label c.if-levels-eq0.false)
    c.survey_label.ensures

pub survey_node-returns-in-Date : goal.survey_node-returns-in-Date
survey_node-returns-in-Date g t c =
    let ms = macros_of c.args.self.now.walk.now in
    leaf_is (stage_view (g.E.EntryLike.answers c.args.entry.now) c.args.self.now) c.args.findings.now.items (survey_view c.survey_date.result) (nodes.date (date_node_view c.in-Date.date)) (open_node c.args.levels ms (node_view c.args.node.now))
    (ap (λ (y : Node). open_node c.args.levels ms (node_view y)) c.in-Date.is ∙ open_date c.args.levels ms c.in-Date.date c.if-levels-eq0.false)
    c.survey_date.ensures

pub survey_node-returns-in-Text : goal.survey_node-returns-in-Text
survey_node-returns-in-Text g t c =
    let ms = macros_of c.args.self.now.walk.now in
    node_as c.survey_text.result (stage_view (g.E.EntryLike.answers c.args.entry.now) c.args.self.now) c.args.findings.now.items c.survey_text.new.findings.items
    (open_node (suc (c.args.levels - 1)) ms (text_node_view c.in-Text.text.target (text_look_view c.in-Text.text.look))) (open_node c.args.levels ms (node_view c.args.node.now))
    (sym (ap (λ (y : Node). open_node c.args.levels ms (node_view y)) c.in-Text.is ∙ open_text c.args.levels ms c.in-Text.text c.if-levels-eq0.false))
    c.survey_text.ensures

pub survey_node-returns-in-Names : goal.survey_node-returns-in-Names
survey_node-returns-in-Names g t c =
    let ms = macros_of c.args.self.now.walk.now in
    let f = open_node (c.args.levels - 1) ms in
    node_as c.survey_names.result (stage_view (g.E.EntryLike.answers c.args.entry.now) c.args.self.now) c.args.findings.now.items c.survey_names.new.findings.items
    (nodes.names (names_node_view c.in-Names.names) (each_node f (nodes_view c.deref.result.now))) (open_node c.args.levels ms (node_view c.args.node.now))
    (ap (λ (xs : List Node). nodes.names (names_node_view c.in-Names.names) (each_node f (nodes_view xs))) c.deref.ensures.value
    ∙ sym (ap (λ (y : Node). open_node c.args.levels ms (node_view y)) c.in-Names.is ∙ open_names c.args.levels ms c.in-Names.names c.in-Names.substitute c.if-levels-eq0.false))
    c.survey_names.ensures

pub survey_node-returns-in-Choose : goal.survey_node-returns-in-Choose
survey_node-returns-in-Choose g t c =
    let ms = macros_of c.args.self.now.walk.now in
    let f = open_node (c.args.levels - 1) ms in
    node_as c.survey_choose.result (stage_view (g.E.EntryLike.answers c.args.entry.now) c.args.self.now) c.args.findings.now.items c.survey_choose.new.findings.items
    (nodes.choose (each_branch f (branches_of (map branch_view c.deref-in-Choose.result.now) (nodes_view c.deref-in-Choose-2.result.now)))) (open_node c.args.levels ms (node_view c.args.node.now))
    (ap (λ (bs : List ChooseBranch). nodes.choose (each_branch f (branches_of (map branch_view bs) (nodes_view c.deref-in-Choose-2.result.now)))) c.deref-in-Choose.ensures.value
    ∙ (ap (λ (xs : List Node). nodes.choose (each_branch f (branches_of (map branch_view c.in-Choose.branches.items) (nodes_view xs)))) c.deref-in-Choose-2.ensures.value
    ∙ sym (ap (λ (y : Node). open_node c.args.levels ms (node_view y)) c.in-Choose.is ∙ open_choose c.args.levels ms c.in-Choose.branches c.in-Choose.otherwise c.if-levels-eq0.false)))
    c.survey_choose.ensures

pub survey_node-returns-in_ok-inside-in-Group : goal.survey_node-returns-in_ok-inside-in-Group
survey_node-returns-in_ok-inside-in-Group g t c =
    let ms = macros_of c.args.self.now.walk.now in
    let f = open_node (c.args.levels - 1) ms in
    group_is (stage_view (g.E.EntryLike.answers c.args.entry.now) c.args.self.now) c.args.findings.now.items c.survey_all.new.findings.items (survey_view c.of_group.result) (survey_view c.in_ok-inside-in-Group.inside)
    (group_node_view c.in-Group.field-0) (each_node f (nodes_view c.deref-in-Group.result.now)) (open_node c.args.levels ms (node_view c.args.node.now))
    c.of_group.ensures c.in_ok-inside-in-Group.ensures
    (ap (λ (y : Node). open_node c.args.levels ms (node_view y)) c.in-Group.is ∙ open_group c.args.levels ms c.in-Group.field-0 c.in-Group.children c.if-levels-eq0.false
    ∙ ap (λ (xs : List Node). nodes.group (group_node_view c.in-Group.field-0) (each_node f (nodes_view xs))) (sym c.deref-in-Group.ensures.value))

pub survey_choose-returns : goal.survey_choose-returns
survey_choose-returns g t c =
    let ms = macros_of c.args.self.now.walk.now in
    choose_is (stage_view (g.E.EntryLike.answers c.args.entry.now) c.args.self.now) c.args.findings.now.items c.survey_all.new.findings.items (survey_view c.after_tests.result) (survey_view c.in_ok-inside.inside)
    (open_node c.args.levels ms) (branches_of (map branch_view c.args.branches.now) (nodes_view c.args.otherwise.now)) (nodes_view c.in_ok-taken.taken.nodes.now) c.in_ok-taken.taken.met
    c.after_tests.ensures c.in_ok-taken.ensures c.in_ok-inside.ensures

pub survey_text-returns-in-Variable : goal.survey_text-returns-in-Variable
survey_text-returns-in-Variable g t c =
    let ms = macros_of c.args.self.now.walk.now in
    let look = text_look_view c.args.text.now.look in
    leaf_as c.survey_variable.result (stage_view (g.E.EntryLike.answers c.args.entry.now) c.args.self.now) c.args.findings.now.items (nodes.text (nodes.of_variable c.in-Variable.variable c.in-Variable.form) look)
    (open_node (suc c.args.levels) ms (text_node_view c.args.text.now.target look))
    (ap (λ (y : TextTarget). open_node (suc c.args.levels) ms (text_node_view y look)) c.in-Variable.is)
    c.survey_variable.ensures

pub survey_text-returns-in-Term : goal.survey_text-returns-in-Term
survey_text-returns-in-Term g t c =
    let a = g.E.EntryLike.answers c.args.entry.now in
    let ms = macros_of c.args.self.now.walk.now in
    let look = text_look_view c.args.text.now.look in
    leaf_is (stage_view a c.args.self.now) c.args.findings.now.items (survey_view c.survey_term.result) (nodes.text (nodes.of_term c.in-Term.term c.in-Term.form c.in-Term.plural) look)
    (open_node (suc c.args.levels) ms (text_node_view c.args.text.now.target look))
    (ap (λ (y : TextTarget). open_node (suc c.args.levels) ms (text_node_view y look)) c.in-Term.is)
    (c.survey_term.ensures a)

pub survey_text-returns-in-Macro : goal.survey_text-returns-in-Macro
survey_text-returns-in-Macro g t c =
    let s = stage_view (g.E.EntryLike.answers c.args.entry.now) c.args.self.now in
    let ms = macros_of c.args.self.now.walk.now in
    let look = text_look_view c.args.text.now.look in
    let before = c.args.findings.now.items in
    IfOk-weaker c.survey_macro.result _ _
    (λ v e. e look
    ∙ (ap (λ (name : List ℕ). node_asked s before (part (open_node c.args.levels ms) name look (macro_named ms name))) c.as_str.ensures.value
    ∙ sym (ap (λ (y : TextTarget). node_asked s before (open_node (suc c.args.levels) ms (text_node_view y look))) c.in-Macro.is)))
    c.survey_macro.ensures

pub survey_text-returns-in-Value : goal.survey_text-returns-in-Value
survey_text-returns-in-Value g t c =
    let a = g.E.EntryLike.answers c.args.entry.now in
    let ms = macros_of c.args.self.now.walk.now in
    let look = text_look_view c.args.text.now.look in
    leaf_is (stage_view a c.args.self.now) c.args.findings.now.items (survey_view c.survey_value.result) (nodes.text (nodes.of_value (chars c.as_str-in-Value.result.now)) look)
    (open_node (suc c.args.levels) ms (text_node_view c.args.text.now.target look))
    (ap (λ (y : TextTarget). open_node (suc c.args.levels) ms (text_node_view y look)) c.in-Value.is
    ∙ sym (ap (λ (bs : List ℕ). nodes.leaf (nodes.text (nodes.of_value (chars bs)) look)) c.as_str-in-Value.ensures.value))
    (c.survey_value.ensures a)

pub survey_next-returns : goal.survey_next-returns
survey_next-returns g t c =
    let before = c.args.findings.now.items in
    next_is (stage_view (g.E.EntryLike.answers c.args.entry.now) c.args.self.now) before c.push_nothing_found.new.findings.items c.survey_node.new.findings.items c.put_finding.new.findings.items nothing_found (survey_view c.in_ok-survey.survey)
    (open_node c.args.levels (macros_of c.args.self.now.walk.now) (node_view c.args.node.now)) c.in_ok-push_nothing_found.ensures c.in_ok-survey.ensures
    (λ inside is. c.put_finding.ensures before nothing_found inside (c.len-index.ensures ∙ c.args.findings.now.ok.0) is)

pub survey_all-loop-node-init : goal.survey_all-loop-node-init
survey_all-loop-node-init g t c =
    let s = stage_view (g.E.EntryLike.answers c.args.entry.now) c.args.self.now in
    ap (λ (v : Survey). (both v (surveys s (each_node (open_node c.args.levels (macros_of c.args.self.now.walk.now)) (nodes_view c.args.nodes.now))), c.args.findings.now.items ++ found s (each_node (open_node c.args.levels (macros_of c.args.self.now.walk.now)) (nodes_view c.args.nodes.now)))) c.nothing-found.ensures

pub survey_all-loop-node-preserved : goal.survey_all-loop-node-preserved
survey_all-loop-node-preserved g t c =
    let s = stage_view (g.E.EntryLike.answers c.args.entry.now) c.args.self.now in
    let f = open_node c.args.levels (macros_of c.args.self.now.walk.now) in
    several_more s f c.args.nodes.now c.loop-node.node-index c.node-item.result c.loop-node.findings.items c.survey_next.new.findings.items
    (survey_view c.loop-node.found) (survey_view c.in_ok-next.next) (survey_view c.with-found.result) (all_asked s c.args.findings.now.items (each_node f (nodes_view c.args.nodes.now)))
    c.loop-node-test.true c.node-item.is c.in_ok-next.ensures c.with-found.ensures c.loop-node.invariant

pub survey_all-returns : goal.survey_all-returns
survey_all-returns g t c =
    let s = stage_view (g.E.EntryLike.answers c.args.entry.now) c.args.self.now in
    let f = open_node c.args.levels (macros_of c.args.self.now.walk.now) in
    several_all s f c.args.nodes.now c.loop-node.node-index c.loop-node.findings.items (survey_view c.loop-node.found) (all_asked s c.args.findings.now.items (each_node f (nodes_view c.args.nodes.now)))
    c.loop-node-test.false c.loop-node.invariant

pub survey_next-put_finding-requires : goal.survey_next-put_finding-requires
survey_next-put_finding-requires g t c =
    next_there (stage_view (g.E.EntryLike.answers c.args.entry.now) c.args.self.now) c.args.findings.now.items c.push_nothing_found.new.findings.items c.survey_node.new.findings.items nothing_found (survey_view c.in_ok-survey.survey)
    (open_node c.args.levels (macros_of c.args.self.now.walk.now) (node_view c.args.node.now)) c.len-index.result (c.len-index.ensures ∙ c.args.findings.now.ok.0) c.in_ok-push_nothing_found.ensures c.in_ok-survey.ensures

pub survey_node-returns-then-levels-eq0 : goal.survey_node-returns-then-levels-eq0
survey_node-returns-then-levels-eq0 g t c =
    let s = stage_view (g.E.EntryLike.answers c.args.entry.now) c.args.self.now in
    let ms = macros_of c.args.self.now.walk.now in
    let x = node_view c.args.node.now in
    nothing_is s c.args.findings.now.items (survey_view c.nothing.result) (open_node c.args.levels ms x)
    (ap (λ (n : ℕ). survey s (open_node n ms x)) c.if-levels-eq0.true) (ap (λ (n : ℕ). found_inside s (open_node n ms x)) c.if-levels-eq0.true) c.nothing.ensures

pub survey_macro-returns-in_ok-inside-in-Some : goal.survey_macro-returns-in_ok-inside-in-Some
survey_macro-returns-in_ok-inside-in-Some g t c = λ look.
    let s = stage_view (g.E.EntryLike.answers c.args.entry.now) c.args.self.now in
    let ms = macros_of c.args.self.now.walk.now in
    let name = c.args.name.now in
    let f = open_node c.args.levels ms in
    macro_is s c.args.findings.now.items c.survey_all.new.findings.items (survey_view c.of_macro.result) (survey_view c.in_ok-inside-in-Some.inside) look (each_node f (nodes_view c.in-Some.nodes.now))
    (part f name look (macro_named ms name)) c.of_macro.ensures c.in_ok-inside-in-Some.ensures
    (ap (λ (o : Option Nodes). part f name look o) (macro_some _ c.macro_named.result c.in-Some.nodes (macro_named ms name) c.macro_named.ensures c.in-Some.is))

pub survey_macro-returns-in-None : goal.survey_macro-returns-in-None
survey_macro-returns-in-None g t c = λ look.
    let s = stage_view (g.E.EntryLike.answers c.args.entry.now) c.args.self.now in
    let ms = macros_of c.args.self.now.walk.now in
    let name = c.args.name.now in
    let f = open_node c.args.levels ms in
    let none = macro_none _ c.macro_named.result (macro_named ms name) c.macro_named.ensures c.in-None.is in
    nothing_is s c.args.findings.now.items (survey_view c.nothing.result) (part f name look (macro_named ms name))
    (ap (λ (o : Option Nodes). survey s (part f name look o)) none) (ap (λ (o : Option Nodes). found_inside s (part f name look o)) none) c.nothing.ensures

pub survey_names-returns-then-branch : goal.survey_names-returns-then-branch
survey_names-returns-then-branch g t c =
    names_with_people (stage_view (g.E.EntryLike.answers c.args.entry.now) c.args.self.now) c.args.findings.now.items (survey_view c.of_variable.result) (names_node_view c.args.names.now)
    (each_node (open_node c.args.levels (macros_of c.args.self.now.walk.now)) (nodes_view c.args.substitute.now)) c.in_ok-has_people.field-0 c.allows_names.result
    c.in_ok-has_people.ensures c.if-branch.true c.of_variable.ensures c.allows_names.ensures

pub survey_names-returns-then-is_shut_out : goal.survey_names-returns-then-is_shut_out
survey_names-returns-then-is_shut_out g t c =
    names_shut_out (stage_view (g.E.EntryLike.answers c.args.entry.now) c.args.self.now) c.args.findings.now.items (survey_view c.of_variable-then-is_shut_out.result) (names_node_view c.args.names.now)
    (each_node (open_node c.args.levels (macros_of c.args.self.now.walk.now)) (nodes_view c.args.substitute.now)) c.in_ok-has_people.field-0 c.is_shut_out-is_shut_out.result
    c.in_ok-has_people.ensures c.if-branch.false c.is_shut_out-is_shut_out.ensures c.if-is_shut_out.true c.of_variable-then-is_shut_out.ensures

pub survey_names-returns : goal.survey_names-returns
survey_names-returns g t c =
    let a = g.E.EntryLike.answers c.args.entry.now in
    names_substituted (stage_view a c.args.self.now) c.args.findings.now.items c.survey_all.new.findings.items (survey_view c.of_substitute.result) (survey_view c.in_ok-inside.inside) (names_node_view c.args.names.now)
    (each_node (open_node c.args.levels (macros_of c.args.self.now.walk.now)) (nodes_view c.args.substitute.now)) c.in_ok-has_people.field-0 c.is_shut_out-is_shut_out.result
    c.in_ok-has_people.ensures c.if-branch.false c.is_shut_out-is_shut_out.ensures c.if-is_shut_out.false c.of_substitute.ensures
    (c.in_ok-inside.ensures
    ∙ (λ i. all_asked (c.in_substitute_of-stage.ensures.stage a i) c.args.findings.now.items (each_node (open_node c.args.levels (c.in_substitute_of-stage.ensures.macros i)) (nodes_view c.args.substitute.now))))
