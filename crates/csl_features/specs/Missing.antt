-- The terms that a style prints and none of some locales has, by the elements that print them, in the order of the text. Words are bytes.
use Rattle.std.specs.Prelude.{ℕ, Bool, false, List, map, filter, flat_map, codes, if◌then◌else◌, is_none, Option, None, option_to_list}
use Rattle.std.specs.Option.{option_map}
use Rattle.laws.specs.Text.{text}
use Rattle.rendering_locale.specs.Locales.{Locale}
use Rattle.rendering_locale.specs.Lookup.{term}
use Rattle.xml_tree.specs.Trees.{Element}
use Rattle.xml_schema.specs.Faults.{left_at, name_of}
use Rattle.csl_words.specs.Elements.{is_called}
use Rattle.csl_words.specs.Looking.{attribute, says}
use Rattle.csl_nodes.specs.Looks.{term_form}
use Rattle.csl_nodes.specs.Terms.{term_of}
use Rattle.csl_features.specs.Features.{Feature, elements}

-- the variable of a label, whose term it prints; for a locator a cite says which label it has
abbrev pub label_word : Element → Option (List ℕ)
label_word e = if says (codes "variable") (codes "locator") e then None else attribute (codes "variable") e

-- the word of the term that a text or a label prints, whatever is cited
abbrev pub printed_word : Element → Option (List ℕ)
printed_word e =
    if is_called (codes "text") (name_of e) then attribute (codes "term") e
    else (if is_called (codes "label") (name_of e) then label_word e else None)

-- none of the locales has the term of a word in the form that an element says, where these are the words that no list has
abbrev pub is_missing : List (List ℕ) → List Locale → Element → List ℕ → Bool
is_missing words ls e w = is_none (term ls (term_of words w) (term_form e) false)

-- those terms of an element that are missing, by their words
abbrev pub missing_by : List (List ℕ) → List Locale → Element → List (List ℕ) → List Feature
missing_by words ls e ws = map (λ (w : List ℕ). record { left = left_at e; name = w }) (filter (is_missing words ls e) ws)

-- the term that an element prints, if it is missing
abbrev pub missing_at : List (List ℕ) → List Locale → Element → List Feature
missing_at words ls e = missing_by words ls e (option_to_list (option_map text (printed_word e)))

-- those of a style, by its root
abbrev pub missing_terms : List (List ℕ) → List Locale → Element → List Feature
missing_terms words ls root = flat_map (missing_at words ls) (elements root)
