-- What a file means does not go by what its `info` is, but for categories and the parent.
use Rattle.std.proofs.Common.{◌≡◌, ℕ, Bool, true, false, cond, not, ◌&&◌, ◌||◌, List, [], ◌∷◌, ◌++◌, map, codes, Option, Some, None, option_map, option_to_list, refl, sym, ap, ◌∙◌}
use Rattle.std.specs.Cmp.Lexicographic.{bytes_decides}
use Rattle.std.specs.List.{filter}
use Rattle.std.specs.Option.{option_map_or, option_and_then}
use Rattle.std.specs.Str.{bytes_eq}
use Rattle.laws.specs.Text.{text}
use Rattle.xml_tree.specs.Trees.{FullName, Element, Tagged, Content, Last, Next}
use Rattle.xml_schema.specs.Faults.{name_of}
use Rattle.rendering_locale.specs.Locales as locales
use Rattle.rendering_style.specs.Styles as styles
use Rattle.rendering_style.specs.Styles.{plain_citation}
use Rattle.csl_words.specs.Elements.{is_csl, is_called, content_in, first_called, part_called}
use Rattle.csl_words.specs.Looking.{is_set}
use Rattle.csl_nodes.specs.Nodes.{macro_of}
use Rattle.csl_nodes.specs.Words.{each_once}
use Rattle.csl_locales.specs.Called.{all_called, called}
use Rattle.csl_locales.specs.Endings.{ordinals_of}
use Rattle.csl_locales.specs.Locales.{localized_date, locale}
use Rattle.csl_locales.specs.Terms.{localized_term, terms_of}
use Rattle.csl_locales.specs.Words.{is_passed, own_word, words_of, words_in, is_unlisted, unlisted_words}
use Rattle.csl_styles.specs.Bibliographies.{bibliography}
use Rattle.csl_styles.specs.Citations.{citation}
use Rattle.csl_styles.specs.Files.{Csl, Dependent, Independent, Localized, localized, style_by, meaning}
use Rattle.csl_styles.specs.Information.{categories_of, parent_of}
use Rattle.csl_styles.specs.Laws.{with_info, informed}
use Rattle.csl_styles.specs.Layouts.{empty_layout, sort_keys}
use Rattle.csl_styles.specs.Locators.{is_of_locator, asks_locator, asked_in}
use Rattle.csl_styles.specs.Styles.{default_locale, style}

-- what is called `info` has no other name
apart : (name t : List ℕ) (a : Bool) → bytes_eq (codes "info") name ≡ false → (a && bytes_eq t (codes "info")) ≡ true → (a && bytes_eq t name) ≡ false
apart name t false differ is = refl
apart name t true differ is = ap (λ (u : List ℕ). bytes_eq u name) ((bytes_decides t (codes "info")).0 is) ∙ differ

other_name : (name : List ℕ) (n : FullName) → bytes_eq (codes "info") name ≡ false → is_called (codes "info") n ≡ true → is_called name n ≡ false
other_name name n differ is = apart name (text n.local) (is_csl n.space) differ is

-- elements of another name
called_same : (info : Element) (name : List ℕ) → bytes_eq (codes "info") name ≡ false → is_called (codes "info") (name_of info) ≡ true → (c : Content)
    → all_called name (with_info info c) ≡ all_called name c
called_same info name differ is (Last t) = refl
called_same info name differ is (Next t e c) = by_test (is_called (codes "info") (name_of e)) refl (all_called name (with_info info c)) (all_called name c) (called_same info name differ is c)
  where
    by_test : (b : Bool) → is_called (codes "info") (name_of e) ≡ b → (here there : List Element) → here ≡ there
        → cond (is_called name (name_of (cond b info e))) (cond b info e ∷ here) here ≡ cond (is_called name (name_of e)) (e ∷ there) there
    by_test true at here there rest =
        ap (λ (b : Bool). cond b (info ∷ here) here) (other_name name (name_of info) differ is) ∙ (rest ∙ sym (ap (λ (b : Bool). cond b (e ∷ there) there) (other_name name (name_of e) differ at)))
    by_test false at here there rest = ap (λ (es : List Element). cond (is_called name (name_of e)) (e ∷ es) es) rest

-- the first of them
first_same : (info : Element) (name : List ℕ) → bytes_eq (codes "info") name ≡ false → is_called (codes "info") (name_of info) ≡ true → (c : Content)
    → first_called name (with_info info c) ≡ first_called name c
first_same info name differ is (Last t) = refl
first_same info name differ is (Next t e c) = by_test (is_called (codes "info") (name_of e)) refl (first_called name (with_info info c)) (first_called name c) (first_same info name differ is c)
  where
    by_test : (b : Bool) → is_called (codes "info") (name_of e) ≡ b → (here there : Option Element) → here ≡ there
        → cond (is_called name (name_of (cond b info e))) (Some (cond b info e)) here ≡ cond (is_called name (name_of e)) (Some e) there
    by_test true at here there rest =
        ap (λ (b : Bool). cond b (Some info) here) (other_name name (name_of info) differ is) ∙ (rest ∙ sym (ap (λ (b : Bool). cond b (Some e) there) (other_name name (name_of e) differ at)))
    by_test false at here there rest = ap (λ (o : Option Element). cond (is_called name (name_of e)) (Some e) o) rest

-- words of terms
or_true : (a : Bool) → (a || true) ≡ true
or_true true = refl
or_true false = refl

no_words : (e : Element) → is_called (codes "info") (name_of e) ≡ true → words_of e ≡ []
no_words (Tagged left n attributes content) is =
    let passed : is_passed n ≡ true = ap (λ (b : Bool). not (is_csl n.space) || b) is ∙ or_true (not (is_csl n.space)) in
    ap (λ (b : Bool). cond b [] (option_to_list (option_map text (own_word (Tagged left n attributes content))) ++ words_in content)) passed

words_same : (info : Element) → is_called (codes "info") (name_of info) ≡ true → (c : Content) → words_in (with_info info c) ≡ words_in c
words_same info is (Last t) = refl
words_same info is (Next t e c) = by_test (is_called (codes "info") (name_of e)) refl (words_in (with_info info c)) (words_in c) (words_same info is c)
  where
    by_test : (b : Bool) → is_called (codes "info") (name_of e) ≡ b → (here there : List (List ℕ)) → here ≡ there → words_of (cond b info e) ++ here ≡ words_of e ++ there
    by_test true at here there rest = ap (λ (ws : List (List ℕ)). ws ++ here) (no_words info is) ∙ (rest ∙ sym (ap (λ (ws : List (List ℕ)). ws ++ there) (no_words e at)))
    by_test false at here there rest = ap (λ (ws : List (List ℕ)). words_of e ++ ws) rest

unlisted_same : (info root : Element) → is_called (codes "info") (name_of info) ≡ true → unlisted_words (informed info root) ≡ unlisted_words root
unlisted_same info (Tagged left n attributes content) is =
    ap (λ (ws : List (List ℕ)). each_once (filter is_unlisted (cond (is_passed n) [] (option_to_list (option_map text (own_word (Tagged left n attributes content))) ++ ws)))) (words_same info is content)

-- whether a style prints locators
not_asked : (e : Element) → is_called (codes "info") (name_of e) ≡ true → asks_locator e ≡ false
not_asked (Tagged left n attributes content) is =
    let passed : is_passed n ≡ true = ap (λ (b : Bool). not (is_csl n.space) || b) is ∙ or_true (not (is_csl n.space)) in
    ap (λ (b : Bool). cond b false (is_of_locator (Tagged left n attributes content) || asked_in content)) passed

asked_same : (info : Element) → is_called (codes "info") (name_of info) ≡ true → (c : Content) → asked_in (with_info info c) ≡ asked_in c
asked_same info is (Last t) = refl
asked_same info is (Next t e c) = by_test (is_called (codes "info") (name_of e)) refl (asked_in (with_info info c)) (asked_in c) (asked_same info is c)
  where
    by_test : (b : Bool) → is_called (codes "info") (name_of e) ≡ b → (here there : Bool) → here ≡ there → (asks_locator (cond b info e) || here) ≡ (asks_locator e || there)
    by_test true at here there rest = ap (λ (b : Bool). b || here) (not_asked info is) ∙ (rest ∙ sym (ap (λ (b : Bool). b || there) (not_asked e at)))
    by_test false at here there rest = ap (λ (b : Bool). asks_locator e || b) rest

-- a locale
locale_same : (info root : Element) → is_called (codes "info") (name_of info) ≡ true → localized (informed info root) ≡ localized root
locale_same info (Tagged left n attributes content) is =
    let x : Element = Tagged left n attributes content in
    let words : unlisted_words (informed info x) ≡ unlisted_words x = unlisted_same info x is in
    let terms : part_called (codes "terms") (informed info x) ≡ part_called (codes "terms") x = first_same info (codes "terms") refl is content in
    let dates : called (codes "date") (informed info x) ≡ called (codes "date") x = called_same info (codes "date") refl is content in
    let options : part_called (codes "style-options") (informed info x) ≡ part_called (codes "style-options") x = first_same info (codes "style-options") refl is content in
    let whole : locale (unlisted_words (informed info x)) (informed info x) ≡ locale (unlisted_words x) x =
    λ j. record (locale (words j) x) {
      terms = map (localized_term (words j)) (option_map_or (called (codes "term")) (terms j) []);
      dates = map localized_date (dates j);
      ordinals = ordinals_of (option_map_or (called (codes "term")) (terms j) []);
      punctuation_in_quote = option_and_then (is_set (codes "punctuation-in-quote")) (options j);
      limits_day_ordinals = option_and_then (is_set (codes "limit-day-ordinals-to-day-1")) (options j);
    } in
    (λ j. Localized (words j) (whole j))

-- a style
style_same : (info root : Element) → is_called (codes "info") (name_of info) ≡ true → categories_of (informed info root) ≡ categories_of root
    → (o : Option (List ℕ)) → style_by o (informed info root) ≡ style_by o root
style_same info (Tagged left n attributes content) is categories (Some parent) = refl
style_same info (Tagged left n attributes content) is categories None =
    let x : Element = Tagged left n attributes content in
    let words : unlisted_words (informed info x) ≡ unlisted_words x = unlisted_same info x is in
    let own : called (codes "locale") (informed info x) ≡ called (codes "locale") x = called_same info (codes "locale") refl is content in
    let macros : called (codes "macro") (informed info x) ≡ called (codes "macro") x = called_same info (codes "macro") refl is content in
    let cites : part_called (codes "citation") (informed info x) ≡ part_called (codes "citation") x = first_same info (codes "citation") refl is content in
    let items : part_called (codes "bibliography") (informed info x) ≡ part_called (codes "bibliography") x = first_same info (codes "bibliography") refl is content in
    let locators : asks_locator (informed info x) ≡ asks_locator x = ap (λ (b : Bool). cond (is_passed n) false (is_of_locator x || b)) (asked_same info is content) in
    let whole : style (unlisted_words (informed info x)) (informed info x) ≡ style (unlisted_words x) x =
    λ j. record (style (words j) x) {
      categories = categories j;
      locales = map (locale (words j)) (own j);
      macros = map (macro_of (words j)) (macros j);
      citation = option_map_or (citation (words j) (locators j)) (cites j) (plain_citation empty_layout);
      bibliography = option_map (bibliography (words j)) (items j);
      citation_sort = option_map_or sort_keys (cites j) [];
      bibliography_sort = option_map_or sort_keys (items j) [];
    } in
    (λ j. Independent (words j) (whole j))

-- a file
pub means_same : (info root : Element) → is_called (codes "info") (name_of info) ≡ true → categories_of (informed info root) ≡ categories_of root → parent_of (informed info root) ≡ parent_of root
    → meaning (informed info root) ≡ meaning root
means_same info (Tagged left n attributes content) is categories parents =
    let x : Element = Tagged left n attributes content in
    let others : style_by (parent_of (informed info x)) (informed info x) ≡ style_by (parent_of x) x =
    ap (λ (o : Option (List ℕ)). style_by o (informed info x)) parents ∙ style_same info x is categories (parent_of x) in
    (λ j. cond (is_called (codes "locale") n) (locale_same info x is j) (others j))
