-- Elements without nodes in them: texts, numbers, labels and dates.
use Rattle.std.specs.Prelude.{ℕ, true, false, List, [], ◌∷◌, if◌then◌else◌, Option, Some, None, is_some, unwrap_or, codes}
use Rattle.std.specs.Option.{option_map, option_and_then}
use Rattle.laws.specs.Text.{text}
use Rattle.xml_tree.specs.Trees.{Element}
use Rattle.rendering_taxonomy.specs.Variables.{is_variable}
use Rattle.rendering_taxonomy.specs.declared.choose.ChooseMatch.TheVariants as matches
use Rattle.rendering_locale.specs.Locales.{DatePart}
use Rattle.rendering_taxonomy.specs.declared.date.DateForm.{DateForm}
use Rattle.rendering_taxonomy.specs.declared.date.DateParts.TheVariants as cuts
use Rattle.rendering_taxonomy.specs.declared.date.LongShortForm.TheVariants as lengths
use Rattle.rendering_taxonomy.specs.declared.number.NumberForm.TheVariants as numbers
use Rattle.rendering_taxonomy.specs.declared.variable.DateVariable.{DateVariable}
use Rattle.rendering_taxonomy.specs.declared.variable.StandardVariable.TheVariants as standard
use Rattle.rendering_taxonomy.specs.declared.variable.Variable.{Variable}
use Rattle.rendering_taxonomy.specs.declared.variable.Variable.TheVariants as variables
use Rattle.rendering_style.specs.Nodes.{TextSource, of_variable, of_term, of_value, NumberNode, DatePartChange, DateNode, Condition, has_answer, Leaf, number, label, date, Node, leaf, call, choose, no_nodes, node, otherwise, branch}
use Rattle.rendering_style.specs.Nodes as nodes
use Rattle.csl_words.specs.Elements.{content_in}
use Rattle.csl_words.specs.Looking.{table, attribute, value_by, is_true}
use Rattle.csl_words.specs.Printing.{printed, printed_text}
use Rattle.csl_words.specs.declared.options.TheConstants.{DATE_FORMS, DATE_PARTS, LENGTHS, NUMBER_FORMS}
use Rattle.csl_words.specs.declared.variables.TheConstants.{DATE_VARIABLES, NUMBER_VARIABLES}
use Rattle.csl_nodes.specs.Terms.{printed_variable, term_of}
use Rattle.csl_nodes.specs.Looks.{look, text_case, text_look, term_form, label_look}
use Rattle.csl_nodes.specs.Dates.{date_parts, part_changes}

-- the year suffix
abbrev pub year_suffix : Variable
year_suffix = variables.Standard standard.YearSuffix

-- there is one
abbrev pub has_suffix : Condition
has_suffix = record { required = matches.All; tests = has_answer year_suffix ∷ [] }

-- a node that stands where there is a year suffix
abbrev pub where_suffixed : Node → Node
where_suffixed x = choose (branch has_suffix (node x no_nodes) (otherwise no_nodes))

-- The node of a text of a variable. That of the year suffix stands where there is one, so that a group around it calls no variable else.
abbrev pub answered : Variable → Node → Node
answered v x = if is_variable v year_suffix then where_suffixed x else x

-- a text of such a source
abbrev pub text_of_source : Element → TextSource → Node
text_of_source e source = leaf (nodes.text source (text_look e))

-- the answer to a variable, long where nothing is said
abbrev pub variable_text : Element → Variable → Node
variable_text e v = answered v (text_of_source e (of_variable v (unwrap_or (value_by (table LENGTHS.now) (codes "form") e) lengths.Long)))

-- a term
abbrev pub term_text : List (List ℕ) → Element → List ℕ → Node
term_text unlisted e t = text_of_source e (of_term (term_of unlisted t) (term_form e) (is_true (codes "plural") e))

-- a text by the first of these that it has: a variable, a macro, a term; or else words of its own
abbrev pub text_by : List (List ℕ) → Element → Option (List ℕ) → Option (List ℕ) → Option (List ℕ) → Option Node
text_by unlisted e (Some v) m t = option_map (variable_text e) (printed_variable (text v))
text_by unlisted e None (Some m) t = Some (call (text m) (text_look e))
text_by unlisted e None None (Some t) = Some (term_text unlisted e (text t))
text_by unlisted e None None None = Some (text_of_source e (of_value (printed_text (codes "value") e)))

abbrev pub text_node : List (List ℕ) → Element → Option Node
text_node unlisted e = text_by unlisted e (attribute (codes "variable") e) (attribute (codes "macro") e) (attribute (codes "term") e)

-- the answer to a variable of a number, in digits where nothing is said
abbrev pub number_of : Element → Variable → NumberNode
number_of e v = record {
  variable = v;
  form = unwrap_or (value_by (table NUMBER_FORMS.now) (codes "form") e) numbers.Numeric;
  text_case = text_case e;
  look = look e;
}

-- a number, if it is of a variable
abbrev pub number_node : Element → Option Node
number_node e = option_map (λ (v : Variable). leaf (number (number_of e v))) (value_by (table NUMBER_VARIABLES.now) (codes "variable") e)

-- a label, if it is of a variable
abbrev pub label_node : Element → Option Node
label_node e = option_map (λ (v : Variable). leaf (label v (label_look e))) (value_by (table NUMBER_VARIABLES.now) (codes "variable") e)

-- the form of the locale's dates in which a date is printed, if it says one
abbrev pub date_form : Element → Option DateForm
date_form e = value_by (table DATE_FORMS.now) (codes "form") e

-- the parts of a date: those of the locale, where it says a form, and else its own
abbrev pub own_parts : Element → List DatePart
own_parts e = if is_some (date_form e) then [] else date_parts (content_in e)

-- what a date changes of the parts of the locale, where it says a form
abbrev pub form_changes : Element → List DatePartChange
form_changes e = if is_some (date_form e) then part_changes (content_in e) else []

-- the answer to a variable of a date; the sides of a range print once what they share
abbrev pub date_of : Element → DateVariable → DateNode
date_of e v = record {
  variable = v;
  form = date_form e;
  parts = unwrap_or (value_by (table DATE_PARTS.now) (codes "date-parts") e) cuts.YearMonthDay;
  own_parts = own_parts e;
  part_changes = form_changes e;
  delimiter = printed (codes "delimiter") e;
  text_case = text_case e;
  merges_ranges = true;
  look = look e;
}

-- a date, if it is of a variable
abbrev pub date_node : Element → Option Node
date_node e = option_map (λ (v : DateVariable). leaf (date (date_of e v))) (value_by (table DATE_VARIABLES.now) (codes "variable") e)
