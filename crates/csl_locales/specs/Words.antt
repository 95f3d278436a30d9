-- The words of terms that no list has, of a style or of a locale, as bytes. What is in `info` and in elements of other namespaces does not count.
use Rattle.std.specs.Prelude.{ℕ, Bool, not, ◌||◌, List, [], ◌++◌, filter, codes, if◌then◌else◌, is_none, Option, None, option_to_list}
use Rattle.std.specs.Option.{option_map}
use Rattle.laws.specs.Text.{text}
use Rattle.xml_tree.specs.Trees.{FullName, Element, Tagged, Content, Last, Next}
use Rattle.xml_schema.specs.Faults.{name_of}
use Rattle.csl_words.specs.Elements.{is_csl, is_called}
use Rattle.csl_words.specs.Looking.{attribute}
use Rattle.csl_nodes.specs.Terms.{listed_term}
use Rattle.csl_nodes.specs.Words.{each_once}

-- an element that is passed over with all that is in it: `info`, and one of another namespace
abbrev pub is_passed : FullName → Bool
is_passed n = not (is_csl n.space) || is_called (codes "info") n

-- the word of a term that an element has: of a text that prints a term, or of a term of a locale
abbrev pub own_word : Element → Option (List ℕ)
own_word e = if is_called (codes "text") (name_of e) then attribute (codes "term") e else (if is_called (codes "term") (name_of e) then attribute (codes "name") e else None)

abbrev mutual
  -- the words of an element and of those in it, as they follow each other in the text
  pub words_of : Element → List (List ℕ)
  words_of (Tagged left n attributes content) = if is_passed n then [] else option_to_list (option_map text (own_word (Tagged left n attributes content))) ++ words_in content

  pub words_in : Content → List (List ℕ)
  words_in (Last t) = []
  words_in (Next t e c) = words_of e ++ words_in c

-- no list has the word
abbrev pub is_unlisted : List ℕ → Bool
is_unlisted w = is_none (listed_term w)

-- those that no list has, each once
abbrev pub unlisted_words : Element → List (List ℕ)
unlisted_words root = each_once (filter is_unlisted (words_of root))
