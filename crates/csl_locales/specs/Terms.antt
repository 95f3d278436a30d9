-- What a `term` of a locale means.
use Rattle.std.specs.Prelude.{ℕ, Bool, ◌&&◌, List, [], ◌++◌, codes, if◌then◌else◌, is_none, Option, Some}
use Rattle.std.specs.Option.{option_map, option_map_or}
use Rattle.laws.specs.Text.{text}
use Rattle.xml_tree.specs.Trees.{Element, Tagged, Content, Last, Next}
use Rattle.rendering_locale.specs.Locales.{LocalizedTerm}
use Rattle.csl_words.specs.Looking.{table, text_of, value_by}
use Rattle.csl_words.specs.Elements.{part_called}
use Rattle.csl_words.specs.declared.terms.TheConstants.{GENDERS}
use Rattle.csl_locales.specs.Called.{called}
use Rattle.csl_nodes.specs.Looks.{term_form}
use Rattle.csl_nodes.specs.Terms.{term_of}

-- the texts in an element, without those of elements in it
abbrev pub texts_in : Content → List ℕ
texts_in (Last t) = t
texts_in (Next t e c) = t ++ texts_in c

abbrev pub own_text : Element → List ℕ
own_text (Tagged left n attributes content) = texts_in content

-- the text of the first element of that name in an element, if there is one
abbrev pub text_called : List ℕ → Element → Option (List ℕ)
text_called name e = option_map own_text (part_called name e)

-- the text of a term does not tell one from more than one
abbrev pub has_one_text : Element → Bool
has_one_text e = is_none (part_called (codes "single") e) && is_none (part_called (codes "multiple") e)

-- the text of a term for one, or for more than one, by the name of the element that has it
abbrev pub term_text : List ℕ → Element → Option (List ℕ)
term_text name e = if has_one_text e then Some (own_text e) else text_called name e

-- a term, by the words that no list has
abbrev pub localized_term : List (List ℕ) → Element → LocalizedTerm
localized_term words e = record {
  name = term_of words (text (text_of (codes "name") e));
  form = term_form e;
  single = term_text (codes "single") e;
  multiple = term_text (codes "multiple") e;
  gender = value_by (table GENDERS.now) (codes "gender") e;
}

-- the terms of a locale, as they follow each other
abbrev pub terms_of : Element → List Element
terms_of e = option_map_or (called (codes "term")) (part_called (codes "terms") e) []
