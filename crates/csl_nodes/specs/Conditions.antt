-- What the branches of a choose ask.
use Rattle.std.specs.Prelude.{ℕ, List, [], ◌∷◌, ◌++◌, if◌then◌else◌, Option, unwrap_or, filter_map, flat_map, codes}
use Rattle.std.specs.Option.{option_map}
use Rattle.xml_tree.specs.Trees.{Element}
use Rattle.rendering_taxonomy.specs.declared.choose.ChooseMatch.TheVariants as matches
use Rattle.rendering_style.specs.Nodes.{Test, is_of_kind, has_answer, is_numeric, is_uncertain, has_locator, stands_at, is_alike, Condition}
use Rattle.csl_words.specs.Looking.{table, in_table, value_by, is_true, words_in}
use Rattle.csl_words.specs.declared.kinds.TheConstants.{KINDS, LOCATORS}
use Rattle.csl_words.specs.declared.options.TheConstants.{MATCHES, POSITIONS}
use Rattle.csl_words.specs.declared.variables.TheConstants.{DATE_VARIABLES}
use Rattle.csl_nodes.specs.Terms.{variable_of}
use Rattle.csl_nodes.specs.declared.conditions.Question.{Question}
use Rattle.csl_nodes.specs.declared.conditions.Question.TheVariants as questions
use Rattle.csl_nodes.specs.declared.conditions.TheConstants.{QUESTIONS}

-- whether a kind, a date, a label or a position of that word is asked for
unfoldable pub kind_test : List ℕ → Option Test
kind_test t = option_map is_of_kind (in_table (table KINDS.now) t)

abbrev pub date_test : List ℕ → Option Test
date_test t = option_map is_uncertain (in_table (table DATE_VARIABLES.now) t)

unfoldable pub locator_test : List ℕ → Option Test
locator_test t = option_map has_locator (in_table (table LOCATORS.now) t)

abbrev pub position_test : List ℕ → Option Test
position_test t = option_map stands_at (in_table (table POSITIONS.now) t)

-- the test of a word under a question
abbrev pub test_of : Question → List ℕ → Option Test
test_of questions.IsOfKind t = kind_test t
test_of questions.HasAnswer t = option_map has_answer (variable_of t)
test_of questions.IsNumeric t = option_map is_numeric (variable_of t)
test_of questions.IsUncertain t = date_test t
test_of questions.HasLocator t = locator_test t
test_of questions.StandsAt t = position_test t

-- the tests of the words in an attribute that asks such a question
abbrev pub tests_by : Element → List ℕ × Question → List Test
tests_by e q = filter_map (test_of q.1) (words_in q.0 e)

-- the test whether cites are alike, where it is asked
abbrev pub alike : Element → List Test
alike e = if is_true (codes "disambiguate") e then is_alike ∷ [] else []

-- all tests of a branch, of which all have to hold where nothing is said
abbrev pub condition : Element → Condition
condition e = record {
  required = unwrap_or (value_by (table MATCHES.now) (codes "match") e) matches.All;
  tests = flat_map (tests_by e) (table QUESTIONS.now) ++ alike e;
}
