-- What styles mean that say the same.
use Rattle.std.proofs.Common.{◌≡◌, true, false, ℕ, Bool, cond, not, ◌&&◌, ◌||◌, List, [], ◌++◌, map, Option, Some, None, option_map, option_to_list, codes, pos, refl, ap, ◌∙◌}
use Rattle.std.specs.Option.{option_map_or, option_and_then, option_or, unwrap_or}
use Rattle.laws.specs.Characters.{hyphen}
use Rattle.laws.specs.Text.{text}
use Rattle.texts.specs.Reading.{taken}
use Rattle.xml_tree.specs.Trees.{Element, Tagged, Content, Last, Next}
use Rattle.rendering_style.specs.Sorting.{by_variable, by_macro}
use Rattle.rendering_style.specs.Styles.{plain_citation}
use Rattle.rendering_taxonomy.specs.declared.page.PageRule.TheVariants.{Joined}
use Rattle.rendering_taxonomy.specs.declared.style.DisambiguationRule.TheVariants.{ByCite}
use Rattle.rendering_taxonomy.specs.declared.style.SortDirection.TheVariants as directions
use Rattle.rendering_taxonomy.specs.declared.style.StyleClass.TheVariants.{InText}
use Rattle.rendering_taxonomy.specs.declared.style.SubsequentAuthorSubstituteRule.TheVariants.{CompleteAll}
use Rattle.csl_words.specs.Elements.{is_called, content_in, part_called}
use Rattle.csl_words.specs.Looking.{table}
use Rattle.csl_words.specs.declared.options.TheConstants.{CATEGORIES, CLASSES, COLLAPSES, GIVEN_NAME_RULES, PAGE_RANGES, SECOND_FIELDS, SORT_DIRECTIONS, SUBSTITUTE_RULES}
use Rattle.csl_nodes.specs.Nodes.{macro_of}
use Rattle.csl_nodes.specs.Terms.{variable_of}
use Rattle.csl_locales.specs.Called.{called}
use Rattle.csl_locales.specs.Locales.{locale}
use Rattle.csl_locales.specs.Words.{is_passed, unlisted_words}
use Rattle.csl_styles.specs.Bibliographies.{line_spacing, entry_spacing, spacing_of, bibliography}
use Rattle.csl_styles.specs.Citations.{is_by_cite, usual_delimiter, citation}
use Rattle.csl_styles.specs.Files.{Dependent, Independent, Localized, localized, style_by, meaning}
use Rattle.csl_styles.specs.Information.{category_of, categories_in, categories_of, parent_address, address_in, last_segment, parent_of}
use Rattle.csl_styles.specs.Layouts.{layout, empty_layout, layout_in, sort_key, sort_keys}
use Rattle.csl_styles.specs.Locators.{asks_locator, asked_in}
use Rattle.csl_styles.specs.SecondFields.{aligned}
use Rattle.csl_styles.specs.Styles.{demoting, splitting, default_locale, citation_in, bibliography_in, keys_in, style}
use Rattle.csl_laws.specs.Alike.{AreAlikeInside}
use Rattle.csl_laws.specs.Trees.{text_counts, Alike}
use Rattle.csl_laws.proofs.Said.{SaySame, alike_said, names_same, value_same, text_same, printed_same, says_same, set_same, true_same, number_same, part_found, called_found, made_same, mapped_same, then_same, each_same}
use Rattle.csl_laws.proofs.LooksAlike.{formatting_same, options_same}
use Rattle.csl_laws.proofs.NodesAlike.{in_same, macro_same}
use Rattle.csl_laws.proofs.LocalesAlike.{locale_same, unlisted_same}

-- ---- information

category_same : (x y : Element) → Alike x y → category_of x ≡ category_of y
category_same x y a = λ j. cond (is_called (codes "category") (names_same x y a j)) (value_same x y (alike_said x y a) (table CATEGORIES.now) (codes "citation-format") j) None

categories_same : (here : Bool) (c d : Content) → AreAlikeInside text_counts here c d → categories_in c ≡ categories_in d
categories_same here (Last t) (Last u) a = refl
categories_same here (Last t) (Next u f d) a = absurd a
categories_same here (Next t e c) (Last u) a = absurd a
categories_same here (Next t e c) (Next u f d) (ts, es, rest) = λ j. option_to_list (category_same e f es j) ++ categories_same here c d rest j

categories_inside : (x y : Element) → Alike x y → categories_in (content_in x) ≡ categories_in (content_in y)
categories_inside (Tagged left n ps c) (Tagged right m bs d) a = categories_same (text_counts (Tagged left n ps c)) c d a.2

categories_of_same : (x y : Element) → Alike x y → categories_of x ≡ categories_of y
categories_of_same x y a =
    made_same (codes "info") (λ (info : Element). categories_in (content_in info)) [] (λ e f is es. categories_inside e f es) (part_called (codes "info") x) (part_called (codes "info") y) (part_found (codes "info") x y a)

address_same : (x y : Element) → Alike x y → parent_address x ≡ parent_address y
address_same x y a =
    let h : SaySame x y = alike_said x y a in
    (λ j. cond (is_called (codes "link") (names_same x y a j) && says_same x y h (codes "rel") (codes "independent-parent") j) (h (codes "href") j) None)

addresses_same : (here : Bool) (c d : Content) → AreAlikeInside text_counts here c d → address_in c ≡ address_in d
addresses_same here (Last t) (Last u) a = refl
addresses_same here (Last t) (Next u f d) a = absurd a
addresses_same here (Next t e c) (Last u) a = absurd a
addresses_same here (Next t e c) (Next u f d) (ts, es, rest) = λ j. option_or (address_same e f es j) (addresses_same here c d rest j)

addresses_inside : (x y : Element) → Alike x y → address_in (content_in x) ≡ address_in (content_in y)
addresses_inside (Tagged left n ps c) (Tagged right m bs d) a = addresses_same (text_counts (Tagged left n ps c)) c d a.2

pub parent_same : (x y : Element) → Alike x y → parent_of x ≡ parent_of y
parent_same x y a =
    ap (option_map last_segment)
    (then_same (codes "info") (λ (info : Element). address_in (content_in info)) (λ e f is es. addresses_inside e f es) (part_called (codes "info") x) (part_called (codes "info") y) (part_found (codes "info") x y a))

-- ---- layouts and keys

layout_same : (words : List (List ℕ)) (x y : Element) → Alike x y → layout words x ≡ layout words y
layout_same words x y a =
    let h : SaySame x y = alike_said x y a in
    λ j. record {
      nodes = in_same words x y a j;
      formatting = formatting_same x y h j;
      prefix = printed_same x y h (codes "prefix") j;
      suffix = printed_same x y h (codes "suffix") j;
      delimiter = printed_same x y h (codes "delimiter") j;
    }

layout_in_same : (words : List (List ℕ)) (x y : Element) → Alike x y → layout_in words x ≡ layout_in words y
layout_in_same words x y a =
    made_same (codes "layout") (layout words) empty_layout (λ e f is es. layout_same words e f es) (part_called (codes "layout") x) (part_called (codes "layout") y) (part_found (codes "layout") x y a)

key_same : (x y : Element) → Alike x y → sort_key x ≡ sort_key y
key_same x y a =
    let h : SaySame x y = alike_said x y a in
    λ j. record {
      target = option_map_or by_variable (option_and_then (λ (t : List ℕ). variable_of (text t)) (h (codes "variable") j)) (by_macro (text (text_same x y h (codes "macro") j)));
      direction = unwrap_or (value_same x y h (table SORT_DIRECTIONS.now) (codes "sort") j) directions.Ascending;
      names_min = number_same x y h (codes "names-min") j;
      names_use_first = number_same x y h (codes "names-use-first") j;
      names_use_last = set_same x y h (codes "names-use-last") j;
    }

keys_inside : (x y : Element) → Alike x y → map sort_key (called (codes "key") x) ≡ map sort_key (called (codes "key") y)
keys_inside x y a = each_same (codes "key") sort_key (λ e f is es. key_same e f es) (called (codes "key") x) (called (codes "key") y) (called_found (codes "key") x y a)

keys_same : (x y : Element) → Alike x y → sort_keys x ≡ sort_keys y
keys_same x y a =
    made_same (codes "sort") (λ (s : Element). map sort_key (called (codes "key") s)) [] (λ e f is es. keys_inside e f es) (part_called (codes "sort") x) (part_called (codes "sort") y) (part_found (codes "sort") x y a)

keys_in_same : (name : List ℕ) (x y : Element) → Alike x y → keys_in name x ≡ keys_in name y
keys_in_same name x y a = made_same name sort_keys [] (λ e f is es. keys_same e f es) (part_called name x) (part_called name y) (part_found name x y a)

-- ---- whether they print locators

mutual
  locators_same : (x y : Element) → Alike x y → asks_locator x ≡ asks_locator y
  locators_same (Tagged left n ps c) (Tagged right m bs d) (names, same, inside) =
      let x : Element = Tagged left n ps c in
      let y : Element = Tagged right m bs d in
      λ j. cond (is_passed (names j)) false (says_same x y (alike_said x y (names, same, inside)) (codes "variable") (codes "locator") j || asked_same (text_counts x) c d inside j)

  asked_same : (here : Bool) (c d : Content) → AreAlikeInside text_counts here c d → asked_in c ≡ asked_in d
  asked_same here (Last t) (Last u) a = refl
  asked_same here (Last t) (Next u f d) a = absurd a
  asked_same here (Next t e c) (Last u) a = absurd a
  asked_same here (Next t e c) (Next u f d) (ts, es, rest) = λ j. locators_same e f es j || asked_same here c d rest j

-- ---- a citation and a bibliography

citation_same : (words : List (List ℕ)) (locators : Bool) (x y : Element) → Alike x y → citation words locators x ≡ citation words locators y
citation_same words locators x y a =
    let h : SaySame x y = alike_said x y a in
    λ j. record (citation words locators x) {
      layout = layout_in_same words x y a j;
      name_options = options_same x y h (codes "name-form") (codes "name-delimiter") j;
      add_names = true_same x y h (codes "disambiguate-add-names") j;
      add_givenname = true_same x y h (codes "disambiguate-add-givenname") j;
      givenname_rule = unwrap_or (value_same x y h (table GIVEN_NAME_RULES.now) (codes "givenname-disambiguation-rule") j) ByCite;
      add_year_suffix = true_same x y h (codes "disambiguate-add-year-suffix") j;
      collapse = value_same x y h (table COLLAPSES.now) (codes "collapse") j;
      cite_group_delimiter = option_or (printed_same x y h (codes "cite-group-delimiter") j) (usual_delimiter (value_same x y h (table COLLAPSES.now) (codes "collapse") j));
      after_collapse_delimiter = printed_same x y h (codes "after-collapse-delimiter") j;
      year_suffix_delimiter = printed_same x y h (codes "year-suffix-delimiter") j;
      near_note_distance = unwrap_or (number_same x y h (codes "near-note-distance") j) 5;
      raises_names_first = true_same x y h (codes "disambiguate-add-givenname") j
          && not (is_by_cite (unwrap_or (value_same x y h (table GIVEN_NAME_RULES.now) (codes "givenname-disambiguation-rule") j) ByCite));
    }

spacing_same : (x y : Element) → SaySame x y → spacing_of x ≡ spacing_of y
spacing_same x y h = ap (λ (o : Option (List ℕ)). option_map_or (λ (t : List ℕ). entry_spacing (taken hyphen t)) o (pos 1)) (h (codes "entry-spacing"))

bibliography_same : (words : List (List ℕ)) (x y : Element) → Alike x y → bibliography words x ≡ bibliography words y
bibliography_same words x y a =
    let h : SaySame x y = alike_said x y a in
    λ j. record {
      layout = aligned (value_same x y h (table SECOND_FIELDS.now) (codes "second-field-align") j) (layout_in_same words x y a j);
      name_options = options_same x y h (codes "name-form") (codes "name-delimiter") j;
      hanging_indent = true_same x y h (codes "hanging-indent") j;
      second_field_align = value_same x y h (table SECOND_FIELDS.now) (codes "second-field-align") j;
      line_spacing = line_spacing (unwrap_or (number_same x y h (codes "line-spacing") j) 1);
      entry_spacing = spacing_same x y h j;
      substitute = printed_same x y h (codes "subsequent-author-substitute") j;
      substitute_rule = unwrap_or (value_same x y h (table SUBSTITUTE_RULES.now) (codes "subsequent-author-substitute-rule") j) CompleteAll;
      substitutes_names_alone = true;
    }

citation_in_same : (words : List (List ℕ)) (x y : Element) → Alike x y → citation_in words x ≡ citation_in words y
citation_in_same words x y a =
    made_same (codes "citation") (citation words (asks_locator x)) (plain_citation empty_layout) (λ e f is es. citation_same words (asks_locator x) e f es) (part_called (codes "citation") x)
    (part_called (codes "citation") y) (part_found (codes "citation") x y a)
    ∙ ap (λ (locators : Bool). option_map_or (citation words locators) (part_called (codes "citation") y) (plain_citation empty_layout)) (locators_same x y a)

bibliography_in_same : (words : List (List ℕ)) (x y : Element) → Alike x y → bibliography_in words x ≡ bibliography_in words y
bibliography_in_same words x y a =
    mapped_same (codes "bibliography") (bibliography words) (λ e f is es. bibliography_same words e f es) (part_called (codes "bibliography") x) (part_called (codes "bibliography") y)
    (part_found (codes "bibliography") x y a)

-- ---- a file

default_same : (x y : Element) → Alike x y → default_locale x ≡ default_locale y
default_same x y a = ap (option_map text) (alike_said x y a (codes "default-locale"))

style_same : (words : List (List ℕ)) (x y : Element) → Alike x y → style words x ≡ style words y
style_same words x y a =
    let h : SaySame x y = alike_said x y a in
    λ j. record {
      class = unwrap_or (value_same x y h (table CLASSES.now) (codes "class") j) InText;
      categories = categories_of_same x y a j;
      default_locale = default_same x y a j;
      page_ranges = value_same x y h (table PAGE_RANGES.now) (codes "page-range-format") j;
      page_rule = Joined;
      name_options = splitting (demoting (options_same x y h (codes "name-form") (codes "name-delimiter") j));
      locales = each_same (codes "locale") (locale words) (λ e f is es. locale_same words e f es) (called (codes "locale") x) (called (codes "locale") y) (called_found (codes "locale") x y a) j;
      macros = each_same (codes "macro") (macro_of words) (λ e f is es. macro_same words e f es) (called (codes "macro") x) (called (codes "macro") y) (called_found (codes "macro") x y a) j;
      citation = citation_in_same words x y a j;
      bibliography = bibliography_in_same words x y a j;
      citation_sort = keys_in_same (codes "citation") x y a j;
      bibliography_sort = keys_in_same (codes "bibliography") x y a j;
    }

localized_same : (x y : Element) → Alike x y → localized x ≡ localized y
localized_same x y a =
    let words : unlisted_words x ≡ unlisted_words y = unlisted_same x y a in
    (λ j. Localized (words j) (locale (words j) x)) ∙ ap (Localized (unlisted_words y)) (locale_same (unlisted_words y) x y a)

style_by_same : (o : Option (List ℕ)) (x y : Element) → Alike x y → style_by o x ≡ style_by o y
style_by_same (Some parent) x y a = ap (Dependent parent) (default_same x y a)
style_by_same None x y a =
    let words : unlisted_words x ≡ unlisted_words y = unlisted_same x y a in
    (λ j. Independent (words j) (style (words j) x)) ∙ ap (Independent (unlisted_words y)) (style_same (unlisted_words y) x y a)

pub meanings_same : (x y : Element) → Alike x y → meaning x ≡ meaning y
meanings_same x y a =
    let others : style_by (parent_of x) x ≡ style_by (parent_of y) y = ap (λ (o : Option (List ℕ)). style_by o x) (parent_same x y a) ∙ style_by_same (parent_of y) x y a in
    (λ j. cond (is_called (codes "locale") (names_same x y a j)) (localized_same x y a j) (others j))
