-- Groups none of whose variables has an answer add nothing.
use Rattle.std.proofs.Common.{◌≡◌, Bool, true, false, not, ◌&&◌, ◌||◌, List, [], ◌∷◌, ◌++◌, map, Option, None, refl, ap, ◌∙◌, Contains, if◌then◌else◌}
use Rattle.std.proofs.lemmas.List.Elements.{Contains-append_left, Contains-append_right, Contains-push}
use Rattle.std.specs.List.{filter}
use Rattle.std.specs.Option.{option_map_or}
use Rattle.laws.specs.Text.{is_filled}
use Rattle.literature_values.specs.PersonViews.{Named as Person}
use Rattle.literature_values.specs.declared.date.Date.{Date}
use Rattle.rendering_style.specs.Nodes.{TextSource, of_variable, of_term, of_value, NamesNode, GroupNode, Leaf, Node, Nodes, Branches, leaf, call, opened, names, choose, group, no_nodes, node, otherwise, branch}
use Rattle.rendering_style.specs.Nodes as nodes
use Rattle.rendering_context.specs.Contexts.{Context}
use Rattle.rendering_leaves.specs.NodeSettings.{SpecialForm, noted}
use Rattle.rendering_context.specs.Answering.{no_answer, is_missing, answer_of, asked_for, exchanged_for, answer_to, people_answer, with_people, all_people}
use Rattle.rendering_context.specs.Choosing.{is_met}
use Rattle.rendering_nodes.specs.Admission.{Survey, Stage, variable_survey, allows_variable, allows_date, in_substitute_of, is_shut_out, names_survey, leaf_survey, substitute_survey, survey, surveys, branch_survey}
use Rattle.rendering_nodes.specs.Content.{stage, content, delimited_node}
use Rattle.rendering_nodes.specs.Named.{named_in_leaf, named_in_tests, named_in, named, named_in_branches, is_word_leaf, has_words_in, has_words, has_words_in_branches}
use Rattle.rendering_nodes.specs.Laws.{HasNoAnswer, UnansweredGroupsAddNothing}
use Rattle.rendering_taxonomy.specs.Variables.{is_among}
use Rattle.rendering_taxonomy.specs.declared.cite.IdentifierUsage.{IdentifierUsage}
use Rattle.rendering_taxonomy.specs.declared.cite.IdentifierUsage.TheVariants as usages
use Rattle.rendering_taxonomy.specs.declared.date.LongShortForm.{LongShortForm}
use Rattle.rendering_taxonomy.specs.declared.date.LongShortForm.TheVariants as lengths
use Rattle.rendering_taxonomy.specs.declared.variable.DateVariable.{DateVariable}
use Rattle.rendering_taxonomy.specs.declared.variable.NameVariable.{NameVariable}
use Rattle.rendering_taxonomy.specs.declared.variable.Variable.{Variable}
use Rattle.rendering_taxonomy.specs.declared.variable.Variable.TheVariants as variables

abbrev HaveNoAnswers : Context → List Variable → Type 0
HaveNoAnswers c vs = (v : Variable) → Contains vs v → HasNoAnswer c v

left_without : (c : Context) (us vs : List Variable) → HaveNoAnswers c (us ++ vs) → HaveNoAnswers c us
left_without c us vs h = λ v k. h v (Contains-append_left us vs v k)

right_without : (c : Context) (us vs : List Variable) → HaveNoAnswers c (us ++ vs) → HaveNoAnswers c vs
right_without c us vs h = λ v k. h v (Contains-append_right us vs v k)

-- one of two that are the same
same_if : {X : Type 0} (b : Bool) (x y : X) → y ≡ x → (if b then x else y) ≡ x
same_if true x y e = refl
same_if false x y e = e

asked_name : (b : Bool) (u : IdentifierUsage) (v : NameVariable) → (if b then exchanged_for u (variables.Name v) else variables.Name v) ≡ variables.Name v
asked_name false u v = refl
asked_name true usages.None v = refl
asked_name true usages.OnlyCitationLabel v = refl
asked_name true usages.OnlyCitationNumber v = refl
asked_name true usages.Mixed v = refl

asked_date : (b : Bool) (u : IdentifierUsage) (v : DateVariable) → (if b then exchanged_for u (variables.Date v) else variables.Date v) ≡ variables.Date v
asked_date false u v = refl
asked_date true usages.None v = refl
asked_date true usages.OnlyCitationLabel v = refl
asked_date true usages.OnlyCitationNumber v = refl
asked_date true usages.Mixed v = refl

answer_without : (c : Context) (form : LongShortForm) (v : Variable) → HasNoAnswer c v → answer_of c form (asked_for c v) ≡ no_answer
answer_without c form (variables.Standard v) e = e form
answer_without c form (variables.Number v) e = e form
answer_without c form variables.Page e = e form
answer_without c form (variables.Name v) e = ap (λ w. answer_of c form w) (asked_name c.is_bibliography c.properties.identifier_usage v)
answer_without c form (variables.Date v) e = ap (λ w. answer_of c form w) (asked_date c.is_bibliography c.properties.identifier_usage v)

not_admitted : (c : Context) (vs : List Variable) (form : LongShortForm) (v : Variable) (b : Bool) → HasNoAnswer c v → (not (is_missing (answer_to c vs form v)) && b) ≡ false
not_admitted c vs form v b e =
    ap (λ h. not (is_missing h) && b) (same_if (is_among vs v) no_answer (answer_of c form (asked_for c v)) (answer_without c form v e))

leaf_out : (s : Stage) (l : Leaf) → is_word_leaf l ≡ false → HaveNoAnswers s.context (named_in_leaf l).variables → (leaf_survey s l).is_admitted ≡ false
leaf_out s (nodes.text (of_variable v form) look) w h = not_admitted s.context s.suppressed form v (allows_variable s.form v) (h v (Contains-push [] v))
leaf_out s (nodes.text (of_term name form plural) look) w h = cc
leaf_out s (nodes.text (of_value cs) look) w h = cc
leaf_out s (nodes.number n) w h = not_admitted s.context s.suppressed lengths.Long n.variable (allows_variable s.form n.variable) (h n.variable (Contains-push [] n.variable))
leaf_out s (nodes.label v look) w h = not_admitted s.context s.suppressed lengths.Long v (allows_variable s.form v) (h v (Contains-push [] v))
leaf_out s (nodes.date d) w h =
    ap (λ (o : Option Date). option_map_or (λ day. true) o false && allows_date s.context s.has_date s.form)
    (same_if (is_among s.suppressed (variables.Date d.variable)) None (s.context.answers.date d.variable) (h (variables.Date d.variable) (Contains-push [] (variables.Date d.variable))))

nobody : (c : Context) (sup : List Variable) (vs : List NameVariable) → HaveNoAnswers c (map (λ v. variables.Name v) vs) → all_people c sup vs ≡ []
nobody c sup [] h = refl
nobody c sup (v ∷ vs) h =
    ap (λ (ps : List Person). filter with_people ((ps, v) ∷ map (λ w. (people_answer c sup w, w)) vs))
    (same_if (is_among sup (variables.Name v)) [] (c.answers.people v) (left_without c (variables.Name v ∷ []) (map (λ w. variables.Name w) vs) h (variables.Name v) (Contains-push [] (variables.Name v))))
    ∙ nobody c sup vs (right_without c (variables.Name v ∷ []) (map (λ w. variables.Name w) vs) h)

without_people : (b : Bool) (form : SpecialForm) (inside : Survey) → inside.is_admitted ≡ false → (if b then variable_survey false else substitute_survey form inside).is_admitted ≡ false
without_people true form inside e = refl
without_people false form inside e = e

or_parts_false : (a b : Bool) → (a || b) ≡ false → (a ≡ false) × (b ≡ false)
or_parts_false true b e = cc
or_parts_false false b e = (refl, e)

or_false : (a b : Bool) → a ≡ false → b ≡ false → (a || b) ≡ false
or_false a b e f = ap (λ v. v || b) e ∙ f

of_either : (m : Bool) (a b : Survey) → a.is_admitted ≡ false → b.is_admitted ≡ false → (if m then a else b).is_admitted ≡ false
of_either true a b e f = e
of_either false a b e f = f

mutual
  out_of : (s : Stage) (x : Node) → has_words_in x ≡ false → HaveNoAnswers s.context (named_in x).variables → (survey s x).is_admitted ≡ false
  out_of s (leaf l) w h = leaf_out s l w h
  out_of s (call name look) w h = refl
  out_of s (opened look xs) w h = all_out s xs w h
  out_of s (names hd xs) w h =
      let here = map (λ v. variables.Name v) hd.variables in
      ap (λ b. (names_survey s hd b (is_shut_out s hd xs) (surveys (in_substitute_of hd xs s) xs)).is_admitted) (ap is_filled (nobody s.context s.suppressed hd.variables (left_without s.context here (named xs).variables h)))
      ∙ without_people (is_shut_out s hd xs) s.form (surveys (in_substitute_of hd xs s) xs) (all_out (in_substitute_of hd xs s) xs w (right_without s.context here (named xs).variables h))
  out_of s (choose bs) w h = branches_out s bs w h
  out_of s (group g xs) w h = ap (λ b. b && not ((surveys s xs).calls && not (surveys s xs).is_answered)) (all_out s xs w h)

  all_out : (s : Stage) (xs : Nodes) → has_words xs ≡ false → HaveNoAnswers s.context (named xs).variables → (surveys s xs).is_admitted ≡ false
  all_out s no_nodes w h = refl
  all_out s (node x xs) w h =
      let p = or_parts_false (has_words_in x) (has_words xs) w in
      or_false (survey s x).is_admitted (surveys s xs).is_admitted
      (out_of s x p.0 (left_without s.context (named_in x).variables (named xs).variables h))
      (all_out s xs p.1 (right_without s.context (named_in x).variables (named xs).variables h))

  branches_out : (s : Stage) (bs : Branches) → has_words_in_branches bs ≡ false → HaveNoAnswers s.context (named_in_branches bs).variables → (branch_survey s bs).is_admitted ≡ false
  branches_out s (otherwise xs) w h = all_out s xs w h
  branches_out s (branch c xs bs) w h =
      let p = or_parts_false (has_words xs) (has_words_in_branches bs) w in
      let rest = right_without s.context (named_in_tests c.tests).variables ((named xs).variables ++ (named_in_branches bs).variables) h in
      of_either (is_met s.context c) (surveys s xs) (branch_survey s bs)
      (all_out s xs p.0 (left_without s.context (named xs).variables (named_in_branches bs).variables rest))
      (branches_out s bs p.1 (right_without s.context (named xs).variables (named_in_branches bs).variables rest))

pub unanswered_groups : UnansweredGroupsAddNothing
unanswered_groups c s first g xs st w h =
    let asked = survey (stage c s st) (group g xs) in
    ap (λ b. (if b then delimited_node c s first (content c None s (group g xs)) (noted asked.met st) else noted asked.met st).page) (out_of (stage c s st) (group g xs) w h)
