-- The variables and the terms that words name. Words are bytes.
use Rattle.std.specs.Prelude.{ℕ, min, List, Option, unwrap_or}
use Rattle.std.specs.List.{position_or_len}
use Rattle.std.specs.Option.{option_map, option_or}
use Rattle.std.specs.Str.{bytes_eq}
use Rattle.csl_words.specs.Looking.{table, in_table}
use Rattle.csl_words.specs.declared.kinds.TheConstants.{KINDS, LOCATORS}
use Rattle.csl_words.specs.declared.terms.TheConstants.{DATE_TERMS, OTHER_TERMS}
use Rattle.csl_words.specs.declared.variables.TheConstants.{DATE_VARIABLES, NAME_VARIABLES, NUMBER_VARIABLES, TEXT_VARIABLES}
use Rattle.rendering_taxonomy.specs.declared.term.Term.{Term}
use Rattle.rendering_taxonomy.specs.declared.term.Term.TheVariants as terms
use Rattle.rendering_taxonomy.specs.declared.variable.Variable.{Variable}
use Rattle.rendering_taxonomy.specs.declared.variable.Variable.TheVariants as variables

-- the variable of a text, of people or of a date
unfoldable pub text_variable : List ℕ → Option Variable
text_variable t = option_map variables.Standard (in_table (table TEXT_VARIABLES.now) t)

unfoldable pub name_variable : List ℕ → Option Variable
name_variable t = option_map variables.Name (in_table (table NAME_VARIABLES.now) t)

abbrev pub date_variable : List ℕ → Option Variable
date_variable t = option_map variables.Date (in_table (table DATE_VARIABLES.now) t)

-- the variable of a number, or the page
unfoldable pub number_variable : List ℕ → Option Variable
number_variable t = in_table (table NUMBER_VARIABLES.now) t

-- the variable of a text or of a number
abbrev pub printed_variable : List ℕ → Option Variable
printed_variable t = option_or (text_variable t) (number_variable t)

-- the variable of any of these
abbrev pub variable_of : List ℕ → Option Variable
variable_of t = option_or (printed_variable t) (option_or (name_variable t) (date_variable t))

-- the term of the label of a locator, of a kind, and another one
unfoldable pub locator_term : List ℕ → Option Term
locator_term t = option_map terms.Locator (in_table (table LOCATORS.now) t)

unfoldable pub kind_term : List ℕ → Option Term
kind_term t = option_map terms.Kind (in_table (table KINDS.now) t)

unfoldable pub other_term : List ℕ → Option Term
other_term t = option_map terms.Other (in_table (table OTHER_TERMS.now) t)

-- that of a month or a season
unfoldable pub date_term : List ℕ → Option Term
date_term t = in_table (table DATE_TERMS.now) t

-- The term of a word that some list has: that of a variable, of the label of a locator, of a kind, another one, or that of a month or a season.
-- A word that stands in two lists names one term.
abbrev pub listed_term : List ℕ → Option Term
listed_term t = option_or (option_map terms.Variable (variable_of t)) (option_or (locator_term t) (option_or (kind_term t) (option_or (other_term t) (date_term t))))

-- numbers of words go up to this one
abbrev pub last_place : ℕ
last_place = 4294967295

-- the number of a word among those that no list has: its place among them
abbrev pub place : List (List ℕ) → List ℕ → ℕ
place unlisted t = min (position_or_len (λ (w : List ℕ). bytes_eq w t) unlisted) last_place

-- the term of a word, where these are the words that no list has
abbrev pub term_of : List (List ℕ) → List ℕ → Term
term_of unlisted t = unwrap_or (listed_term t) (terms.Word (place unlisted t))
