-- Entries that answer alike to what nodes name print alike.
use Rattle.std.proofs.Common.{◌≡◌, ℕ, Bool, true, false, not, ◌&&◌, ◌||◌, List, [], ◌∷◌, ◌++◌, length, refl, ap, ◌∙◌, Option, Some, None, Contains, arith}
use Rattle.std.specs.Prelude.{if◌then◌else◌}
use Rattle.std.specs.Option.{option_map_or, unwrap_or}
use Rattle.laws.specs.Text.{is_filled}
use Rattle.literature_values.specs.declared.date.Date.{Date}
use Rattle.rendering_entries.specs.Answers.{Answers}
use Rattle.rendering_locale.specs.Lookup.{term_text}
use Rattle.rendering_tree.specs.Metas as metas
use Rattle.rendering_tree.specs.Metas.{Answered}
use Rattle.rendering_page.specs.Pages.{Manner, prints}
use Rattle.rendering_page.specs.Pieces.{normal, framed}
use Rattle.rendering_style.specs.Nodes.{LabelLook, TextSource, of_variable, of_term, of_value, TextLook, NumberNode, DateNode, NamesNode, GroupNode, Leaf, Node, Nodes, Branches, leaf, call, opened, names, choose, group, no_nodes, node, otherwise, branch}
use Rattle.rendering_style.specs.Nodes as nodes
use Rattle.rendering_people.specs.Properties.{Properties}
use Rattle.rendering_names.specs.Names.{pluralizes, label_manner, names_pieces, node_options, properties_by}
use Rattle.rendering_context.specs.Contexts.{Context}
use Rattle.rendering_context.specs.Answering.{Answer, no_answer, pieces, address, count, ranges, own, is_missing, answer_to, text_answer_to, date_answer}
use Rattle.rendering_context.specs.Choosing.{asks_disambiguate}
use Rattle.rendering_leaves.specs.NodeSettings.{SpecialForm, whole, author_only, without_author, first_date_only, suffix_only, authors_alone, without_names, NodeSetting, State, noted, append}
use Rattle.rendering_leaves.specs.Values.{text_manner, number_manner, date_manner, frame, quote_before, quote_after, answer_pieces, identified, label_suffix, source_answer, source_pieces, text_pieces, label_term, date_inside, date_frame, date_suffix, day_pieces, suppressing, after_variable, append_leaf, is_passed_over, is_blank, blank_pieces}
use Rattle.rendering_nodes.specs.Admission.{Survey, Stage, nothing, both, containing, words_survey, variable_survey, allows_variable, allows_date, has_people, in_substitute_of, is_shut_out, names_survey, leaf_survey, group_survey, survey, surveys, branch_survey}
use Rattle.rendering_nodes.specs.Content.{substituted_names, taken, disambiguated, with_people_printed, append_names, names_in, macro_frame, group_frame, stage, entered, left, inside_macro, inside_group, inside_names, delimited, delimited_frame, delimits_printed, tried, accepted, people_of, names_or_substitute, content, contents, chosen, first_substitute}
use Rattle.rendering_leaves.specs.Links.{before_link, linked_answer, look_before}
use Rattle.rendering_leaves.specs.Quoted.{are_inner, requoted}
use Rattle.rendering_nodes.specs.Named.{joined_named, variable_named, named_in_source, named_in_leaf, named_in_tests, named_in, named, named_in_branches, always_named, people_named}
use Rattle.rendering_nodes.specs.Laws.{with_answers, AlikeEntriesPrintAlike}
use Rattle.rendering_nodes.proofs.AnswersAlike.{AlikeIn, LabelsAlike, alike_in, first_alike, others_alike, one_alike, printed_same, text_printed_same, date_same, all_people_same, plural_same, met_same}
use Rattle.rendering_taxonomy.specs.declared.date.LongShortForm.{LongShortForm}
use Rattle.rendering_taxonomy.specs.declared.date.LongShortForm.TheVariants as lengths
use Rattle.rendering_taxonomy.specs.declared.number.NumberForm.{NumberForm}
use Rattle.rendering_taxonomy.specs.declared.number.NumberForm.TheVariants as number_forms
use Rattle.rendering_taxonomy.specs.declared.variable.NumberVariable.TheVariants as number
use Rattle.rendering_taxonomy.specs.declared.variable.StandardVariable.TheVariants as standard
use Rattle.rendering_taxonomy.specs.declared.variable.Variable.{Variable}
use Rattle.rendering_taxonomy.specs.declared.variable.Variable.TheVariants as variables

-- What asks the context for something else than answers is the same, whatever the entry answers.

dates_allowed : (a b : Answers) (c : Context) (has_date : Bool) (form : SpecialForm) → allows_date (with_answers a c) has_date form ≡ allows_date (with_answers b c) has_date form
dates_allowed a b c has_date whole = refl
dates_allowed a b c has_date (author_only v) = refl
dates_allowed a b c has_date without_author = refl
dates_allowed a b c has_date first_date_only = refl
dates_allowed a b c has_date suffix_only = refl
dates_allowed a b c has_date (authors_alone v) = refl
dates_allowed a b c has_date (without_names v) = refl

quote_before_same : (a b : Answers) (c : Context) (m : Manner) (quotes inside : Bool) → quote_before (with_answers a c) m quotes inside ≡ quote_before (with_answers b c) m quotes inside
quote_before_same a b c m false inside = refl
quote_before_same a b c m true inside = refl

quote_after_same : (a b : Answers) (c : Context) (m : Manner) (quotes inside : Bool) → quote_after (with_answers a c) m quotes inside ≡ quote_after (with_answers b c) m quotes inside
quote_after_same a b c m false inside = refl
quote_after_same a b c m true inside = refl

pieces_same : (a b : Answers) (c : Context) (m : Manner) (form : NumberForm) (h : Answer) → answer_pieces (with_answers a c) m form h ≡ answer_pieces (with_answers b c) m form h
pieces_same a b c m form no_answer = refl
pieces_same a b c m form (pieces cs) = refl
pieces_same a b c m form (address cs url) = refl
pieces_same a b c m form (count n) = refl
pieces_same a b c m form (ranges ps) = refl
pieces_same a b c m form own = refl

label_term_same : (a b : Answers) (c : Context) (v : Variable) → label_term (with_answers a c) v ≡ label_term (with_answers b c) v
label_term_same a b c (variables.Number number.Locator) = refl
label_term_same a b c v = refl

inside_same : (a b : Answers) (c : Context) (m : Manner) (form : SpecialForm) (d : DateNode) (year_suffix : List ℕ) (day : Date)
    → date_inside (with_answers a c) m form d year_suffix day ≡ date_inside (with_answers b c) m form d year_suffix day
inside_same a b c m suffix_only d year_suffix day = refl
inside_same a b c m form d year_suffix day = refl

day_same : (a b : Answers) (c : Context) (s : NodeSetting) (has_date : Bool) (d : DateNode) (o : Option Date) → day_pieces (with_answers a c) s has_date d o ≡ day_pieces (with_answers b c) s has_date d o
day_same a b c s has_date d None = refl
day_same a b c s has_date d (Some day) = ap (framed (date_frame s s.form d)) (inside_same a b c (date_manner s.manner d) s.form d (date_suffix c has_date) day)

disambiguated_same : (a b : Answers) (c : Context) (o : Option Properties) (raised : Properties) → disambiguated (with_answers a c) o raised ≡ disambiguated (with_answers b c) o raised
disambiguated_same a b c None raised = refl
disambiguated_same a b c (Some first) raised = refl

delimited_same : (a b : Answers) (c : Context) (s : NodeSetting) (is_first : Bool) (st : State) → delimited (with_answers a c) s is_first st ≡ delimited (with_answers b c) s is_first st
delimited_same a b c s true st = refl
delimited_same a b c s false st = refl

-- a stage with other answers
abbrev pub answering : Answers → Stage → Stage
answering a s = record s { context = with_answers a s.context }

names_survey_same : (a b : Answers) (s : Stage) (h : NamesNode) (people out : Bool) (inside : Survey) → names_survey (answering a s) h people out inside ≡ names_survey (answering b s) h people out inside
names_survey_same a b s h true out inside = refl
names_survey_same a b s h false out inside = refl

-- Leaves.

there_same : (a b : Answers) (s : Stage) (form : LongShortForm) (v : Variable) → LabelsAlike a b → AlikeIn s.context.is_published (variable_named v) a b
    → answer_to (with_answers a s.context) s.suppressed form v ≡ answer_to (with_answers b s.context) s.suppressed form v
there_same a b s form v l h = printed_same a b s.context s.suppressed form v l (one_alike v a b h)

leaf_survey_same : (a b : Answers) (s : Stage) (x : Leaf) → LabelsAlike a b → AlikeIn s.context.is_published (named_in_leaf x) a b → leaf_survey (answering a s) x ≡ leaf_survey (answering b s) x
leaf_survey_same a b s (nodes.text (of_variable v form) look) l h = ap (λ o. variable_survey (not (is_missing o) && allows_variable s.form v)) (there_same a b s form v l h)
leaf_survey_same a b s (nodes.text (of_term name form plural) look) l h = refl
leaf_survey_same a b s (nodes.text (of_value cs) look) l h = refl
leaf_survey_same a b s (nodes.number n) l h =
    ap (λ o. variable_survey (not (is_missing o) && allows_variable s.form n.variable)) (there_same a b s lengths.Long n.variable l h)
leaf_survey_same a b s (nodes.label v look) l h = ap (λ o. words_survey (not (is_missing o) && allows_variable s.form v)) (there_same a b s lengths.Long v l h)
leaf_survey_same a b s (nodes.date d) l h =
    let day = date_same a b s.context s.suppressed d.variable (one_alike (variables.Date d.variable) a b h) in
    λ i. variable_survey (option_map_or (λ (x : Date). true) (day i) false && dates_allowed a b s.context s.has_date s.form i)

answered_same : (a b : Answers) (c : Context) (vs : List Variable) (m : Manner) (numbers : NumberForm) (form : LongShortForm) (v : Variable) → LabelsAlike a b → AlikeIn c.is_published (variable_named v) a b
    → answer_pieces (with_answers a c) m numbers (answer_to (with_answers a c) vs form v) ≡ answer_pieces (with_answers b c) m numbers (answer_to (with_answers b c) vs form v)
answered_same a b c vs m numbers form v l h =
    ap (answer_pieces (with_answers a c) m numbers) (printed_same a b c vs form v l (one_alike v a b h))
    ∙ pieces_same a b c m numbers (answer_to (with_answers b c) vs form v)

-- what stands in quotes is no matter of the entry
requoted_same : (a b : Answers) (c : Context) (inner : Bool) (answer : Answer) → requoted (with_answers a c) inner answer ≡ requoted (with_answers b c) inner answer
requoted_same a b c inner no_answer = refl
requoted_same a b c inner (pieces ks) = refl
requoted_same a b c inner (address cs url) = refl
requoted_same a b c inner (count n) = refl
requoted_same a b c inner (ranges ps) = refl
requoted_same a b c inner own = refl

text_answered_same : (a b : Answers) (c : Context) (inner : Bool) (vs : List Variable) (source : TextSource) → LabelsAlike a b → AlikeIn c.is_published (named_in_source source) a b
    → source_answer (with_answers a c) inner vs source ≡ source_answer (with_answers b c) inner vs source
text_answered_same a b c inner vs (of_variable v form) l h =
    ap (requoted (with_answers a c) inner) (text_printed_same a b c vs form v l (one_alike v a b h))
    ∙ requoted_same a b c inner (text_answer_to (with_answers b c) vs form v)
text_answered_same a b c inner vs (of_term name form plural) l h = refl
text_answered_same a b c inner vs (of_value cs) l h = refl

source_same : (a b : Answers) (c : Context) (m : Manner) (source : TextSource) (answer : Answer) → source_pieces (with_answers a c) m source answer ≡ source_pieces (with_answers b c) m source answer
source_same a b c m (of_variable v form) answer = ap (λ ps. identified m v ps ++ label_suffix c m v) (pieces_same a b c m number_forms.Numeric answer)
source_same a b c m (of_term name form plural) answer = refl
source_same a b c m (of_value cs) answer = refl

text_same : (a b : Answers) (c : Context) (s : NodeSetting) (vs : List Variable) (source : TextSource) (look : TextLook) → LabelsAlike a b → AlikeIn c.is_published (named_in_source source) a b
    → text_pieces (with_answers a c) s vs source look ≡ text_pieces (with_answers b c) s vs source look
text_same a b c s vs source look l h =
    let m = text_manner s.manner look in
    let before = quote_before_same a b c m look.quotes s.inside_quotes in
    let inner = are_inner look.quotes s.inside_quotes in
    let one = source_answer (with_answers a c) inner vs source in
    let other = source_answer (with_answers b c) inner vs source in
    let answer : one ≡ other = text_answered_same a b c inner vs source l h in
    let inside : source_pieces (with_answers a c) m source (linked_answer (before_link c.is_published look one) one)
    ≡ source_pieces (with_answers b c) m source (linked_answer (before_link c.is_published look other) other) =
    (λ i. source_pieces (with_answers a c) m source (linked_answer (before_link c.is_published look (answer i)) (answer i)))
    ∙ source_same a b c m source (linked_answer (before_link c.is_published look other) other) in
    let after = quote_after_same a b c m look.quotes s.inside_quotes in
    λ i. framed (frame s.manner (Some metas.Text) (look_before (before_link c.is_published look (answer i)) look.look)) (before i ++ inside i ++ after i)

leaf_same : (a b : Answers) (c : Context) (s : NodeSetting) (x : Leaf) (st : State) → LabelsAlike a b → AlikeIn c.is_published (named_in_leaf x) a b → append_leaf (with_answers a c) s x st ≡ append_leaf (with_answers b c) s x st
leaf_same a b c s (nodes.text (of_variable v form) look) st l h = ap (λ ps. after_variable c s v (append c ps st)) (text_same a b c s st.suppressed (of_variable v form) look l h)
leaf_same a b c s (nodes.text (of_term name form plural) look) st l h = ap (λ ps. append c ps st) (text_same a b c s st.suppressed (of_term name form plural) look l h)
leaf_same a b c s (nodes.text (of_value cs) look) st l h =
    ap (λ ps. append c (if c.is_published && is_blank cs then blank_pieces s look cs else ps) st) (text_same a b c s [] (of_value cs) look l h)
leaf_same a b c s (nodes.number n) st l h =
    let m = number_manner s.manner n in
    ap (λ ps. after_variable c s n.variable (append c (framed (frame s.manner (Some metas.Number) n.look) (identified m n.variable ps)) st))
    (answered_same a b c st.suppressed m n.form lengths.Long n.variable l h)
leaf_same a b c s (nodes.label v look) st l h =
    let name = label_term_same a b c v in
    let plural = plural_same a b c v (one_alike v a b h) in
    λ i. append c (framed (frame s.manner (Some metas.Label) look.look)
    (normal (label_manner s.manner look) (term_text c.locales (name i) look.form (pluralizes look.plural (plural i))) ∷ [])) st
leaf_same a b c s (nodes.date d) st l h =
    let day = date_same a b c st.suppressed d.variable (one_alike (variables.Date d.variable) a b h) in
    let is_later = is_passed_over c d st || st.has_date in
    let day_appended : day_pieces (with_answers a c) s is_later d (date_answer (with_answers a c) st.suppressed d.variable)
    ≡ day_pieces (with_answers b c) s is_later d (date_answer (with_answers b c) st.suppressed d.variable) =
    ap (day_pieces (with_answers a c) s is_later d) day ∙ day_same a b c s is_later d (date_answer (with_answers b c) st.suppressed d.variable) in
    ap (λ ps. record (suppressing s (variables.Date d.variable) (append c ps st)) { has_date = not (is_passed_over c d st) || st.has_date }) day_appended

-- What is admitted.

mutual
  pub survey_same : (a b : Answers) (s : Stage) (x : Node) → LabelsAlike a b → AlikeIn s.context.is_published (named_in x) a b → survey (answering a s) x ≡ survey (answering b s) x
  survey_same a b s (leaf x) l h = leaf_survey_same a b s x l h
  survey_same a b s (call name look) l h = refl
  survey_same a b s (opened look xs) l h = ap (λ (inside : Survey). containing inside.is_admitted inside) (surveys_same a b s xs l h)
  survey_same a b s (names hd xs) l h =
      let here = people_named hd.variables in
      let people = ap is_filled (all_people_same a b s.context s.suppressed hd.variables (first_alike here (named xs) a b h)) in
      let rest = others_alike here (named xs) a b h in
      let inside = surveys_same a b (in_substitute_of hd xs s) xs l rest in
      (λ i. names_survey (answering a s) hd (people i) (is_shut_out s hd xs) (inside i))
      ∙ names_survey_same a b s hd (has_people (answering b s) hd) (is_shut_out s hd xs) (surveys (answering b (in_substitute_of hd xs s)) xs)
  survey_same a b s (choose bs) l h = branches_same a b s bs l h
  survey_same a b s (group g xs) l h = ap group_survey (surveys_same a b s xs l h)

  pub surveys_same : (a b : Answers) (s : Stage) (xs : Nodes) → LabelsAlike a b → AlikeIn s.context.is_published (named xs) a b → surveys (answering a s) xs ≡ surveys (answering b s) xs
  surveys_same a b s no_nodes l h = refl
  surveys_same a b s (node x xs) l h =
      let first = survey_same a b s x l (first_alike (named_in x) (named xs) a b h) in
      let rest = surveys_same a b s xs l (others_alike (named_in x) (named xs) a b h) in
      λ i. both (first i) (rest i)

  branches_same : (a b : Answers) (s : Stage) (bs : Branches) → LabelsAlike a b → AlikeIn s.context.is_published (named_in_branches bs) a b → branch_survey (answering a s) bs ≡ branch_survey (answering b s) bs
  branches_same a b s (otherwise xs) l h = surveys_same a b s xs l h
  branches_same a b s (branch c xs bs) l h =
      let tests = named_in_tests c.tests in
      let more = others_alike tests (joined_named (named xs) (named_in_branches bs)) a b h in
      let met = met_same a b s.context c l (first_alike tests (joined_named (named xs) (named_in_branches bs)) a b h) in
      let this = surveys_same a b s xs l (first_alike (named xs) (named_in_branches bs) a b more) in
      let rest = branches_same a b s bs l (others_alike (named xs) (named_in_branches bs) a b more) in
      λ i. both (record nothing { met = asks_disambiguate c }) (if met i then this i else rest i)

-- What is appended.

append_people_same : (a b : Answers) (c : Context) (s : NodeSetting) (h : NamesNode) (raised : Properties) (people : List Answered) (st : State)
    → append_names (with_answers a c) s h raised people st ≡ append_names (with_answers b c) s h raised people st
append_people_same a b c s h raised people st =
    ap (λ ps.
    let shown : State = record (append c (names_pieces c.locales s.manner h s.options ps people) st) { names = Some (unwrap_or st.names raised) } in
    if s.in_substitute then with_people_printed people shown else shown)
    (disambiguated_same a b c st.names raised)

substituted_same : (a b : Answers) (c : Context) (s : NodeSetting) (h : NamesNode) (substitute : State → State) (people : List Answered) (st : State)
    → names_or_substitute (with_answers a c) s h substitute people st ≡ names_or_substitute (with_answers b c) s h substitute people st
substituted_same a b c s h substitute [] st = refl
substituted_same a b c s h substitute (p ∷ people) st =
    append_people_same a b c s h (properties_by (node_options h s.options) c.properties.is_first (p ∷ people)) (p ∷ people) st

mutual
  content_same : (a b : Answers) (c : Context) (outer : Option NamesNode) (s : NodeSetting) (x : Node) (st : State) → LabelsAlike a b → AlikeIn c.is_published (named_in x) a b
      → content (with_answers a c) outer s x st ≡ content (with_answers b c) outer s x st
  content_same a b c outer s (leaf x) st l h = leaf_same a b c s x st l h
  content_same a b c outer s (call name look) st l h = refl
  content_same a b c outer s (opened look xs) st l h =
      let f = macro_frame s look in
      let m = text_manner s.manner look in
      let before = quote_before_same a b c m look.quotes s.inside_quotes in
      let after = quote_after_same a b c m look.quotes s.inside_quotes in
      λ i. left c f (after i) (contents_same a b c (inside_macro s look) true xs (entered c f (before i) st) l h i)
  content_same a b c outer s (names hd xs) st l h =
      let here = people_named hd.variables in
      let raised = names_in s.form (taken (substituted_names c.is_published outer s) hd) in
      let people = all_people_same a b c st.suppressed hd.variables (first_alike here (named xs) a b h) in
      let rest = others_alike here (named xs) a b h in
      (λ i. names_or_substitute (with_answers a c) s raised (λ before. substitute_same a b c raised (inside_names s raised xs) xs before l rest i) (people i) st)
      ∙ substituted_same a b c s raised (first_substitute (with_answers b c) raised (inside_names s raised xs) xs) (people_of (with_answers b c) st hd) st
  content_same a b c outer s (choose bs) st l h = chosen_same a b c s bs st l h
  content_same a b c outer s (group g xs) st l h =
      let f = group_frame s g in
      λ i. left c f [] (contents_same a b c (inside_group s g) true xs (entered c f [] st) l h i)

  pub contents_same : (a b : Answers) (c : Context) (s : NodeSetting) (is_first : Bool) (xs : Nodes) (st : State) → LabelsAlike a b → AlikeIn c.is_published (named xs) a b
      → contents (with_answers a c) s is_first xs st ≡ contents (with_answers b c) s is_first xs st
  contents_same a b c s is_first no_nodes st l h = refl
  contents_same a b c s is_first (node x xs) st l h =
      let here = first_alike (named_in x) (named xs) a b h in
      let asked = survey_same a b (stage c s st) x l here in
      λ i. contents_same a b c s (is_first && not (asked i).is_admitted) xs
      (if (asked i).is_admitted
      then (let known = noted (asked i).met st in
      let f = delimited_frame s known in
      if delimits_printed s known
      then left c f [] (content_same a b c None s x (entered c f [] known) l here i)
      else content_same a b c None s x (delimited_same a b c s is_first known i) l here i)
      else noted (asked i).met st)
      l (others_alike (named_in x) (named xs) a b h) i

  chosen_same : (a b : Answers) (c : Context) (s : NodeSetting) (bs : Branches) (st : State) → LabelsAlike a b → AlikeIn c.is_published (named_in_branches bs) a b
      → chosen (with_answers a c) s bs st ≡ chosen (with_answers b c) s bs st
  chosen_same a b c s (otherwise xs) st l h = contents_same a b c s true xs st l h
  chosen_same a b c s (branch condition xs bs) st l h =
      let tests = named_in_tests condition.tests in
      let more = others_alike tests (joined_named (named xs) (named_in_branches bs)) a b h in
      let met = met_same a b c condition l (first_alike tests (joined_named (named xs) (named_in_branches bs)) a b h) in
      let known = noted (asks_disambiguate condition) st in
      let this = contents_same a b c s true xs known l (first_alike (named xs) (named_in_branches bs) a b more) in
      let rest = chosen_same a b c s bs known l (others_alike (named xs) (named_in_branches bs) a b more) in
      λ i. if met i then this i else rest i

  substitute_same : (a b : Answers) (c : Context) (hd : NamesNode) (s : NodeSetting) (xs : Nodes) (st : State) → LabelsAlike a b → AlikeIn c.is_published (named xs) a b
      → first_substitute (with_answers a c) hd s xs st ≡ first_substitute (with_answers b c) hd s xs st
  substitute_same a b c hd s no_nodes st l h = refl
  substitute_same a b c hd s (node x xs) st l h =
      let here = first_alike (named_in x) (named xs) a b h in
      let rest = others_alike (named_in x) (named xs) a b h in
      let asked = survey_same a b (stage c s st) x l here in
      λ i.
      let done = content_same a b c (Some hd) s x (tried c s (noted (asked i).met st)) l here i in
      if (asked i).is_admitted && prints 0 done.page.tokens
      then accepted c s done
      else substitute_same a b c hd s xs (noted ((asked i).met || (asked i).is_admitted && done.met_disambiguate) st) l rest i

-- the label is among what every style names
label_named : Contains always_named.variables (variables.Standard standard.CitationLabel)
label_named = let all : length always_named.variables ≡ 9 = refl in (8, omega (arith, all), refl)

pub labels_alike : {w : Bool} (a b : Answers) → AlikeIn w always_named a b → LabelsAlike a b
labels_alike a b h = h.variables (variables.Standard standard.CitationLabel) label_named

pub entries_alike : AlikeEntriesPrintAlike
entries_alike a b c s is_first xs st h =
    let in_print = alike_in c.is_published (joined_named always_named (named xs)) a b h in
    contents_same a b c s is_first xs st (labels_alike a b (first_alike always_named (named xs) a b in_print)) (others_alike always_named (named xs) a b in_print)
