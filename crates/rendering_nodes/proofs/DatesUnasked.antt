-- Where it is not asked if the first date was printed, a survey finds the same before and after that.
use Rattle.std.proofs.Common.{◌≡◌, Bool, true, false, ◌&&◌, List, true≢false, refl, ap, ◌∙◌}
use Rattle.std.specs.Prelude.{if◌then◌else◌}
use Rattle.std.specs.Option.{option_map_or}
use Rattle.rendering_context.specs.Answering.{date_answer}
use Rattle.rendering_context.specs.Choosing.{is_met, asks_disambiguate}
use Rattle.rendering_context.specs.Contexts.{Context}
use Rattle.rendering_leaves.specs.NodeSettings.{SpecialForm, whole, author_only, without_author, first_date_only, suffix_only, authors_alone, without_names, NodeSetting, State}
use Rattle.rendering_style.specs.Nodes as nodes
use Rattle.rendering_style.specs.Nodes.{of_variable, of_term, of_value, Leaf, Node, Nodes, Branches, leaf, call, opened, names, choose, group, no_nodes, node, otherwise, branch}
use Rattle.rendering_nodes.specs.Admission.{Stage, Survey, allows_date, asks_for_date, both, branch_survey, containing, group_survey, has_people, holds_names_of, in_substitute_of, is_shut_out, leaf_survey, names_survey, nothing, substitute_form, survey, surveys, variable_survey}
use Rattle.rendering_nodes.specs.Content.{stage}
use Rattle.rendering_nodes.specs.Findings.{stage_then}
use Rattle.rendering_nodes.specs.declared.finding.Findings.{Findings}
use Rattle.rendering_taxonomy.specs.declared.variable.NameVariable.{NameVariable}

-- a stage before or after the first date
abbrev dated : Stage → Bool → Stage
dated s b = record s { has_date = b }

allowed : (c : Context) (form : SpecialForm) (a b : Bool) → asks_for_date form ≡ false → allows_date c a form ≡ allows_date c b form
allowed c whole a b e = refl
allowed c (author_only v) a b e = refl
allowed c without_author a b e = refl
allowed c first_date_only a b e = absurd (true≢false e)
allowed c suffix_only a b e = absurd (true≢false e)
allowed c (authors_alone v) a b e = refl
allowed c (without_names v) a b e = refl

whole_unasked : (b : Bool) (v : NameVariable) → asks_for_date (if b then whole else authors_alone v) ≡ false
whole_unasked true v = refl
whole_unasked false v = refl

-- nor is it asked in the substitute of names
substitute_unasked : (form : SpecialForm) (vs : List NameVariable) (xs : Nodes) → asks_for_date form ≡ false → asks_for_date (substitute_form form vs xs) ≡ false
substitute_unasked whole vs xs e = e
substitute_unasked (author_only v) vs xs e = e
substitute_unasked without_author vs xs e = e
substitute_unasked first_date_only vs xs e = e
substitute_unasked suffix_only vs xs e = e
substitute_unasked (authors_alone v) vs xs e = whole_unasked (holds_names_of v vs xs) v
substitute_unasked (without_names v) vs xs e = e

leaf_same : (s : Stage) (a b : Bool) (x : Leaf) → asks_for_date s.form ≡ false → leaf_survey (dated s a) x ≡ leaf_survey (dated s b) x
leaf_same s a b (nodes.text (of_variable v form) look) e = refl
leaf_same s a b (nodes.text (of_term name form plural) look) e = refl
leaf_same s a b (nodes.text (of_value cs) look) e = refl
leaf_same s a b (nodes.number n) e = refl
leaf_same s a b (nodes.label v look) e = refl
leaf_same s a b (nodes.date d) e = ap (λ allows. variable_survey (option_map_or (λ day. true) (date_answer s.context s.suppressed d.variable) false && allows)) (allowed s.context s.form a b e)

names_same : (s : Stage) (a b : Bool) (h : nodes.NamesNode) (people out : Bool) (inside more : Survey) → inside ≡ more → names_survey (dated s a) h people out inside ≡ names_survey (dated s b) h people out more
names_same s a b h true out inside more e = refl
names_same s a b h false out inside more e = ap (names_survey (dated s b) h false out) e

mutual
  survey_same : (s : Stage) (a b : Bool) (x : Node) → asks_for_date s.form ≡ false → survey (dated s a) x ≡ survey (dated s b) x
  survey_same s a b (leaf l) e = leaf_same s a b l e
  survey_same s a b (call name look) e = refl
  survey_same s a b (opened look xs) e = ap (λ (v : Survey). containing v.is_admitted v) (surveys_same s a b xs e)
  survey_same s a b (names h xs) e =
      let inner = in_substitute_of h xs s in
      names_same s a b h (has_people s h) (is_shut_out s h xs) (surveys (dated inner a) xs) (surveys (dated inner b) xs)
      (surveys_same inner a b xs (substitute_unasked s.form h.variables xs e))
  survey_same s a b (choose bs) e = branch_same s a b bs e
  survey_same s a b (group g xs) e = ap group_survey (surveys_same s a b xs e)

  surveys_same : (s : Stage) (a b : Bool) (xs : Nodes) → asks_for_date s.form ≡ false → surveys (dated s a) xs ≡ surveys (dated s b) xs
  surveys_same s a b no_nodes e = refl
  surveys_same s a b (node x xs) e = λ i. both (survey_same s a b x e i) (surveys_same s a b xs e i)

  branch_same : (s : Stage) (a b : Bool) (bs : Branches) → asks_for_date s.form ≡ false → branch_survey (dated s a) bs ≡ branch_survey (dated s b) bs
  branch_same s a b (otherwise xs) e = surveys_same s a b xs e
  branch_same s a b (branch c xs bs) e =
      λ i. both (record nothing { met = asks_disambiguate c }) (if is_met s.context c then surveys_same s a b xs e i else branch_same s a b bs e i)

-- what was found then is found now: nothing else is printed no more, and the first date was printed as then, or it is not asked
pub holds_dated : (c : Context) (s : NodeSetting) (st : State) (k : Findings) (x : Node) → k.suppressed.now ≡ st.suppressed → k.has_date ≡ st.has_date → survey (stage_then c s.form k) x ≡ survey (stage c s st) x
holds_dated c s st k x suppressed date = λ i. survey (record { context = c; form = s.form; has_date = date i; suppressed = suppressed i }) x

pub holds_unasked : (c : Context) (s : NodeSetting) (st : State) (k : Findings) (x : Node) → k.suppressed.now ≡ st.suppressed → asks_for_date s.form ≡ false → survey (stage_then c s.form k) x ≡ survey (stage c s st) x
holds_unasked c s st k x suppressed e =
    (λ i. survey (record { context = c; form = s.form; has_date = k.has_date; suppressed = suppressed i }) x)
    ∙ survey_same (stage c s st) k.has_date st.has_date x e
