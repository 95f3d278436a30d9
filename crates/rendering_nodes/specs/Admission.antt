-- Which nodes are admitted: those that have something to print and are not excluded.
use Rattle.std.specs.Prelude.{Bool, true, false, not, ◌&&◌, ◌||◌, List, if◌then◌else◌}
use Rattle.std.specs.List.{list_any}
use Rattle.std.specs.Option.{option_map_or}
use Rattle.laws.specs.Text.{is_filled}
use Rattle.rendering_taxonomy.specs.Variables.{is_variable, is_name_variable}
use Rattle.rendering_locale.specs.Lookup.{term_text}
use Rattle.rendering_style.specs.Nodes.{TextSource, of_variable, of_term, of_value, TextLook, NumberNode, DateNode, NamesNode, Leaf, Node, Nodes, Branches, leaf, call, opened, names, choose, group, no_nodes, node, otherwise, branch}
use Rattle.rendering_style.specs.Nodes as nodes
use Rattle.rendering_context.specs.Contexts.{Context}
use Rattle.rendering_leaves.specs.NodeSettings.{SpecialForm, whole, author_only, without_author, first_date_only, suffix_only, authors_alone, without_names}
use Rattle.rendering_context.specs.Answering.{answer_to, is_missing, date_answer, all_people}
use Rattle.rendering_context.specs.Choosing.{is_met, asks_disambiguate}
use Rattle.rendering_taxonomy.specs.declared.date.LongShortForm.TheVariants as lengths
use Rattle.rendering_taxonomy.specs.declared.variable.NameVariable.{NameVariable}
use Rattle.rendering_taxonomy.specs.declared.variable.NameVariable.TheVariants as name
use Rattle.rendering_taxonomy.specs.declared.variable.NumberVariable.TheVariants as number
use Rattle.rendering_taxonomy.specs.declared.variable.StandardVariable.TheVariants as standard
use Rattle.rendering_taxonomy.specs.declared.variable.Variable.{Variable}
use Rattle.rendering_taxonomy.specs.declared.variable.Variable.TheVariants as variables

-- What is asked of a node before it is printed: whether it is admitted; whether it calls a variable, and whether one that it calls has
-- an answer; and whether the test `disambiguate` was evaluated on the way.
pub record Survey : Type 0 where
  pub is_admitted : Bool
  pub calls : Bool
  pub is_answered : Bool
  pub met : Bool

-- what is asked where there is no node
abbrev pub nothing : Survey
nothing = record { is_admitted = false; calls = false; is_answered = false; met = false }

-- what is asked of two nodes together
abbrev pub both : Survey → Survey → Survey
both a b = record {
  is_admitted = a.is_admitted || b.is_admitted;
  calls = a.calls || b.calls;
  is_answered = a.is_answered || b.is_answered;
  met = a.met || b.met;
}

-- what is asked of a node that prints words of its own
abbrev pub words_survey : Bool → Survey
words_survey admitted = record { is_admitted = admitted; calls = false; is_answered = false; met = false }

-- what is asked of a node that prints the answer to a variable
abbrev pub variable_survey : Bool → Survey
variable_survey admitted = record { is_admitted = admitted; calls = true; is_answered = admitted; met = false }

-- what is asked of a node that prints what others in it print; to the nodes around it this is an answer
abbrev pub containing : Bool → Survey → Survey
containing admitted inside = record inside { is_admitted = admitted; is_answered = admitted }

-- the variables of locators and of a year suffix
abbrev pub is_locator_variable : Variable → Bool
is_locator_variable v = is_variable v (variables.Number number.Locator)

-- whether a variable is the year suffix
abbrev pub is_suffix_variable : Variable → Bool
is_suffix_variable v = is_variable v (variables.Standard standard.YearSuffix)

-- whether a node of a variable is printed where the year suffix and locators alone are
abbrev pub is_with_suffix : Variable → Bool
is_with_suffix v = is_locator_variable v || is_suffix_variable v

-- whether a form allows the node of a variable that is no date and no names
abbrev pub allows_variable : SpecialForm → Variable → Bool
allows_variable whole v = true
allows_variable (author_only a) v = false
allows_variable without_author v = true
allows_variable first_date_only v = is_with_suffix v
allows_variable suffix_only v = is_with_suffix v
allows_variable (authors_alone a) v = false
allows_variable (without_names a) v = true

-- whether a form allows words of the style
abbrev pub allows_words : SpecialForm → Bool
allows_words whole = true
allows_words (author_only a) = false
allows_words without_author = true
allows_words first_date_only = false
allows_words suffix_only = false
allows_words (authors_alone a) = false
allows_words (without_names a) = true

-- Whether a form allows a date: the first one, where the first alone is wanted; and where the year suffix alone is, the first one, whose
-- suffix it is if the style does not print it by itself.
abbrev pub allows_date : Context → Bool → SpecialForm → Bool
allows_date c has_date whole = true
allows_date c has_date (author_only a) = false
allows_date c has_date without_author = true
allows_date c has_date first_date_only = not has_date
allows_date c has_date suffix_only = not has_date && not c.has_suffix_node
allows_date c has_date (authors_alone a) = false
allows_date c has_date (without_names a) = true

-- whether it is asked in a form if the first date was printed
abbrev pub asks_for_date : SpecialForm → Bool
asks_for_date whole = false
asks_for_date (author_only a) = false
asks_for_date without_author = false
asks_for_date first_date_only = true
asks_for_date suffix_only = true
asks_for_date (authors_alone a) = false
asks_for_date (without_names a) = false

-- whether a variable is among those of a names node
abbrev pub is_of : NameVariable → NamesNode → Bool
is_of v h = list_any (is_name_variable v) h.variables

-- whether a form allows names
abbrev pub allows_names : SpecialForm → NamesNode → Bool
allows_names whole h = true
allows_names (author_only v) h = is_of v h
allows_names without_author h = not (is_of name.Author h)
allows_names first_date_only h = false
allows_names suffix_only h = false
allows_names (authors_alone v) h = is_of v h
allows_names (without_names v) h = not (is_of v h)

-- whether a node is names of a variable
abbrev pub is_names_of : NameVariable → Node → Bool
is_names_of v (names h xs) = is_of v h
is_names_of v x = false

-- whether one of the nodes is
abbrev pub have_names_of : NameVariable → Nodes → Bool
have_names_of v no_nodes = false
have_names_of v (node x xs) = is_names_of v x || have_names_of v xs

-- whether names of some variables hold those of a variable: it is one of these, or its names would stand for them
abbrev pub holds_names_of : NameVariable → List NameVariable → Nodes → Bool
holds_names_of v vs xs = list_any (is_name_variable v) vs || have_names_of v xs

-- The form of the substitute of names of some variables. Where the names of a variable are printed alone, all is printed of what stands for
-- names that hold those.
abbrev pub substitute_form : SpecialForm → List NameVariable → Nodes → SpecialForm
substitute_form (authors_alone v) vs xs =
    if holds_names_of v vs xs then whole else authors_alone v
substitute_form form vs xs = form

-- How far a call has come: what it prints from and in which form, whether the first date was printed, and which variables are not printed again.
pub record Stage : Type 0 where
  pub context : Context
  pub form : SpecialForm
  pub has_date : Bool
  pub suppressed : List Variable

-- whether a variable has something to print
abbrev pub is_there : Stage → Variable → Bool
is_there s v = not (is_missing (answer_to s.context s.suppressed lengths.Long v))

-- what is asked of a text: an answer, a term or words of the style
abbrev pub source_survey : Stage → TextSource → Survey
source_survey s (of_variable v form) = variable_survey (not (is_missing (answer_to s.context s.suppressed form v)) && allows_variable s.form v)
source_survey s (of_term name form plural) = words_survey (is_filled (term_text s.context.locales name form plural) && allows_words s.form)
source_survey s (of_value cs) = words_survey (is_filled cs && allows_words s.form)

-- what is asked of a node that contains no others; a label calls no variable
abbrev pub leaf_survey : Stage → Leaf → Survey
leaf_survey s (nodes.text source look) = source_survey s source
leaf_survey s (nodes.number n) = variable_survey (is_there s n.variable && allows_variable s.form n.variable)
leaf_survey s (nodes.label v look) = words_survey (is_there s v && allows_variable s.form v)
leaf_survey s (nodes.date d) = variable_survey (option_map_or (λ day. true) (date_answer s.context s.suppressed d.variable) false && allows_date s.context s.has_date s.form)

-- whether what stands for names is an answer: all that is printed of it, where names are printed alone
abbrev pub substitute_answers : SpecialForm → Survey → Bool
substitute_answers (authors_alone v) inside = inside.is_admitted
substitute_answers form inside = inside.is_answered

-- what is asked of names whose substitute is asked
abbrev pub substitute_survey : SpecialForm → Survey → Survey
substitute_survey form inside = record inside {
  calls = true;
  is_answered = substitute_answers form inside;
}

-- What is asked of names: of themselves where they have people, else of all of their substitute, unless that is shut out.
abbrev pub names_survey : Stage → NamesNode → Bool → Bool → Survey → Survey
names_survey s h true is_shut_out inside = variable_survey (allows_names s.form h)
names_survey s h false is_shut_out inside =
    if is_shut_out then variable_survey false else substitute_survey s.form inside

-- how far a call has come in the substitute of names
abbrev pub in_substitute_of : NamesNode → Nodes → Stage → Stage
in_substitute_of h xs s = record s { form = substitute_form s.form h.variables xs }

-- whether one of their variables has people
abbrev pub has_people : Stage → NamesNode → Bool
has_people s h = is_filled (all_people s.context s.suppressed h.variables)

-- Whether a form shuts the substitute of names out: of names that it leaves out, and in a published style of those for which such names
-- would stand too.
abbrev pub is_shut_out_by : SpecialForm → NamesNode → Nodes → Bool
is_shut_out_by without_author h xs = is_of name.Author h
is_shut_out_by (without_names v) h xs = holds_names_of v h.variables xs
is_shut_out_by form h xs = false

-- whether the substitute of names is shut out
abbrev pub is_shut_out : Stage → NamesNode → Nodes → Bool
is_shut_out s h xs = is_shut_out_by s.form h xs

-- a group prints nothing where it calls variables and none has an answer
abbrev pub group_survey : Survey → Survey
group_survey inside = containing (inside.is_admitted && not (inside.calls && not inside.is_answered)) inside

abbrev mutual
  -- what is asked of a node
  pub survey : Stage → Node → Survey
  survey s (leaf l) = leaf_survey s l
  survey s (call name look) = nothing
  survey s (opened look xs) = let inside = surveys s xs in containing inside.is_admitted inside
  survey s (names h xs) =
      names_survey s h (has_people s h) (is_shut_out s h xs) (surveys (in_substitute_of h xs s) xs)
  survey s (choose bs) = branch_survey s bs
  survey s (group g xs) = group_survey (surveys s xs)

  -- what is asked of nodes together
  pub surveys : Stage → Nodes → Survey
  surveys s no_nodes = nothing
  surveys s (node x xs) = both (survey s x) (surveys s xs)

  -- what is asked of the branch that is taken; whether `disambiguate` was evaluated for those before it is remembered
  pub branch_survey : Stage → Branches → Survey
  branch_survey s (otherwise xs) = surveys s xs
  branch_survey s (branch c xs bs) =
      both (record nothing { met = asks_disambiguate c }) (if is_met s.context c then surveys s xs else branch_survey s bs)
