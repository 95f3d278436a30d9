-- The endings of ordinal numbers, which terms of a locale are, each with the gender and the numbers that it is of alone, if it says them.
use Rattle.std.specs.Prelude.{ℕ, Bool, ◌||◌, List, [], codes, if◌then◌else◌, is_some, Option, Some, None, unwrap_or, find, filter_map}
use Rattle.std.specs.List.{list_any}
use Rattle.std.specs.Option.{option_map, option_map_or}
use Rattle.xml_tree.specs.Trees.{Element}
use Rattle.rendering_locale.specs.Locales.{OrdinalEnding, Ordinals}
use Rattle.csl_words.specs.Looking.{table, in_table, value_by, says}
use Rattle.csl_words.specs.declared.terms.TheConstants.{GENDERS, ORDINAL_MATCHES}
use Rattle.csl_locales.specs.Terms.{term_text}
use Rattle.csl_locales.specs.declared.ordinals.TheConstants.{ORDINALS}

-- a term is the ending of all numbers that have no other
abbrev pub is_default : Element → Bool
is_default e = says (codes "name") (codes "ordinal") e

-- the number of a word
abbrev pub number_of : List ℕ → Option ℕ
number_of word = in_table (table ORDINALS.now) word

-- the number whose ending a term is, if it is one
abbrev pub ordinal_number : Element → Option ℕ
ordinal_number e = value_by (table ORDINALS.now) (codes "name") e

abbrev pub is_ordinal : Element → Bool
is_ordinal e = is_default e || is_some (ordinal_number e)

-- the text of a term for one
abbrev pub ending_text : Element → List ℕ
ending_text e = unwrap_or (term_text (codes "single") e) []

-- an ending of that number
abbrev pub ending_of : Element → ℕ → OrdinalEnding
ending_of e n = record {
  number = n;
  ending = ending_text e;
  gender = value_by (table GENDERS.now) (codes "gender-form") e;
  only = value_by (table ORDINAL_MATCHES.now) (codes "match") e;
}

-- the ending that a term is, if it is one of a number
abbrev pub ending : Element → Option OrdinalEnding
ending e = option_map (ending_of e) (ordinal_number e)

-- the endings among terms, if some term is one
abbrev pub ordinals_of : List Element → Option Ordinals
ordinals_of ts = if list_any is_ordinal ts then Some (record { endings = filter_map ending ts; default = option_map_or ending_text (find is_default ts) [] }) else None
