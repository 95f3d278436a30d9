-- What locales mean that say the same, and which words they have.
use Rattle.std.proofs.Common.{◌≡◌, ℕ, Bool, true, false, cond, ◌&&◌, ◌||◌, List, [], ◌∷◌, ◌++◌, Option, Some, None, option_map, option_to_list, is_some, codes, true≢false, refl, sym, ap, ◌∙◌}
use Rattle.std.specs.Cmp.Lexicographic.{bytes_decides}
use Rattle.std.specs.List.{find, list_any, filter, filter_map, cons_option}
use Rattle.std.specs.Option.{option_map_or, unwrap_or}
use Rattle.std.specs.Str.{bytes_eq}
use Rattle.laws.specs.Text.{text}
use Rattle.xml_tree.specs.Trees.{Attribute, Element, Tagged, Content, Last, Next}
use Rattle.xml_tree.specs.Scope.{xml_space, is_word, same_prefix, same_text}
use Rattle.xml_schema.specs.Faults.{name_of}
use Rattle.rendering_taxonomy.specs.declared.date.DateForm.TheVariants as date_forms
use Rattle.csl_words.specs.Elements.{is_called, part_called}
use Rattle.csl_words.specs.Looking.{table, is_set}
use Rattle.csl_words.specs.declared.options.TheConstants.{DATE_FORMS}
use Rattle.csl_words.specs.declared.terms.TheConstants.{GENDERS, ORDINAL_MATCHES}
use Rattle.csl_nodes.specs.Terms.{term_of}
use Rattle.csl_nodes.specs.Words.{each_once}
use Rattle.csl_locales.specs.Called.{called}
use Rattle.csl_locales.specs.Endings.{is_default, ordinal_number, is_ordinal, ending_text, ending_of, ending, ordinals_of}
use Rattle.csl_locales.specs.Languages.{is_of_xml, language}
use Rattle.csl_locales.specs.Locales.{localized_date, option_set, locale}
use Rattle.csl_locales.specs.Terms.{texts_in, own_text, text_called, has_one_text, term_text, localized_term, terms_of}
use Rattle.csl_locales.specs.Words.{is_passed, own_word, words_of, words_in, is_unlisted, unlisted_words}
use Rattle.csl_locales.specs.declared.ordinals.TheConstants.{ORDINALS}
use Rattle.csl_laws.specs.Alike.{AreSameTexts, AreAlikeInside}
use Rattle.csl_laws.specs.Trees.{text_counts, Alike}
use Rattle.csl_laws.proofs.Reordered.{GoesByName, found_same}
use Rattle.csl_laws.proofs.Said.{SaySame, alike_said, names_same, value_same, text_same, printed_text_same, says_same, set_same, EachFound, AreFound, part_found, called_found, mapped_same, then_same, none_found, each_same}
use Rattle.csl_laws.proofs.LooksAlike.{term_form_same, own_parts_same}

-- ---- texts that count

one_text : (here : Bool) (t u : List ℕ) → here ≡ true → AreSameTexts here t u → t ≡ u
one_text true t u is a = a
one_text false t u is a = absurd (true≢false (sym is))

texts_same : (here : Bool) (c d : Content) → here ≡ true → AreAlikeInside text_counts here c d → texts_in c ≡ texts_in d
texts_same here (Last t) (Last u) is a = one_text here t u is a
texts_same here (Last t) (Next u f d) is a = absurd a
texts_same here (Next t e c) (Last u) is a = absurd a
texts_same here (Next t e c) (Next u f d) is (ts, es, rest) = λ j. one_text here t u is ts j ++ texts_same here c d is rest j

own_text_same : (x y : Element) → Alike x y → text_counts x ≡ true → own_text x ≡ own_text y
own_text_same (Tagged left n ps c) (Tagged right m bs d) a is = texts_same (text_counts (Tagged left n ps c)) c d is a.2

-- a term tells one from more than one, or does not
one_text_same : (x y : Element) → Alike x y → has_one_text x ≡ has_one_text y
one_text_same x y a =
    λ j. none_found (codes "single") (part_called (codes "single") x) (part_called (codes "single") y) (part_found (codes "single") x y a) j
    && none_found (codes "multiple") (part_called (codes "multiple") x) (part_called (codes "multiple") y) (part_found (codes "multiple") x y a) j

pub counts_same : (x y : Element) → Alike x y → text_counts x ≡ text_counts y
counts_same x y a =
    λ j. is_called (codes "single") (names_same x y a j) || (is_called (codes "multiple") (names_same x y a j) || (is_called (codes "term") (names_same x y a j) && one_text_same x y a j))

or_later : (a b : Bool) → b ≡ true → (a || b) ≡ true
or_later true b e = refl
or_later false b e = e

single_counts : (e : Element) → is_called (codes "single") (name_of e) ≡ true → text_counts e ≡ true
single_counts e is = ap (λ (b : Bool). b || (is_called (codes "multiple") (name_of e) || (is_called (codes "term") (name_of e) && has_one_text e))) is

multiple_counts : (e : Element) → is_called (codes "multiple") (name_of e) ≡ true → text_counts e ≡ true
multiple_counts e is =
    or_later (is_called (codes "single") (name_of e)) (is_called (codes "multiple") (name_of e) || (is_called (codes "term") (name_of e) && has_one_text e))
    (ap (λ (b : Bool). b || (is_called (codes "term") (name_of e) && has_one_text e)) is)

term_counts : (e : Element) → is_called (codes "term") (name_of e) ≡ true → has_one_text e ≡ true → text_counts e ≡ true
term_counts e is one =
    let both : (is_called (codes "term") (name_of e) && has_one_text e) ≡ true = ap (λ (b : Bool). b && has_one_text e) is ∙ one in
    or_later (is_called (codes "single") (name_of e)) (is_called (codes "multiple") (name_of e) || (is_called (codes "term") (name_of e) && has_one_text e))
    (or_later (is_called (codes "multiple") (name_of e)) (is_called (codes "term") (name_of e) && has_one_text e) both)

-- the text of a term, in an element whose text counts
term_text_same : (name : List ℕ) → ((e : Element) → is_called name (name_of e) ≡ true → text_counts e ≡ true) → (x y : Element) → is_called (codes "term") (name_of x) ≡ true → Alike x y
    → term_text name x ≡ term_text name y
term_text_same name counted x y is a = by_test (has_one_text x) refl
  where
    parts : text_called name x ≡ text_called name y
    parts = mapped_same name own_text (λ e f at es. own_text_same e f es (counted e at)) (part_called name x) (part_called name y) (part_found name x y a)

    by_test : (b : Bool) → has_one_text x ≡ b → cond b (Some (own_text x)) (text_called name x) ≡ cond (has_one_text y) (Some (own_text y)) (text_called name y)
    by_test true one = (λ j. Some (own_text_same x y a (term_counts x is one) j)) ∙ ap (λ (b : Bool). cond b (Some (own_text y)) (text_called name y)) (sym one ∙ one_text_same x y a)
    by_test false one = parts ∙ ap (λ (b : Bool). cond b (Some (own_text y)) (text_called name y)) (sym one ∙ one_text_same x y a)

-- ---- terms and endings

term_same : (words : List (List ℕ)) (x y : Element) → is_called (codes "term") (name_of x) ≡ true → Alike x y → localized_term words x ≡ localized_term words y
term_same words x y is a =
    let h : SaySame x y = alike_said x y a in
    λ j. record {
      name = term_of words (text (text_same x y h (codes "name") j));
      form = term_form_same x y h j;
      single = term_text_same (codes "single") single_counts x y is a j;
      multiple = term_text_same (codes "multiple") multiple_counts x y is a j;
      gender = value_same x y h (table GENDERS.now) (codes "gender") j;
    }

default_same : (x y : Element) → Alike x y → is_default x ≡ is_default y
default_same x y a = says_same x y (alike_said x y a) (codes "name") (codes "ordinal")

number_same : (x y : Element) → Alike x y → ordinal_number x ≡ ordinal_number y
number_same x y a = value_same x y (alike_said x y a) (table ORDINALS.now) (codes "name")

ordinal_same : (x y : Element) → Alike x y → is_ordinal x ≡ is_ordinal y
ordinal_same x y a = λ j. default_same x y a j || is_some (number_same x y a j)

ending_text_same : (x y : Element) → is_called (codes "term") (name_of x) ≡ true → Alike x y → ending_text x ≡ ending_text y
ending_text_same x y is a = ap (λ (o : Option (List ℕ)). unwrap_or o []) (term_text_same (codes "single") single_counts x y is a)

ending_of_same : (x y : Element) → is_called (codes "term") (name_of x) ≡ true → Alike x y → (n : ℕ) → ending_of x n ≡ ending_of y n
ending_of_same x y is a n =
    let h : SaySame x y = alike_said x y a in
    λ j. record {
      number = n;
      ending = ending_text_same x y is a j;
      gender = value_same x y h (table GENDERS.now) (codes "gender-form") j;
      only = value_same x y h (table ORDINAL_MATCHES.now) (codes "match") j;
    }

ending_same : (x y : Element) → is_called (codes "term") (name_of x) ≡ true → Alike x y → ending x ≡ ending y
ending_same x y is a = λ j. option_map (λ (n : ℕ). ending_of_same x y is a n j) (number_same x y a j)

any_ordinal : (es fs : List Element) → EachFound (codes "term") es fs → list_any is_ordinal es ≡ list_any is_ordinal fs
any_ordinal [] [] a = refl
any_ordinal [] (f ∷ fs) a = absurd a
any_ordinal (e ∷ es) [] a = absurd a
any_ordinal (e ∷ es) (f ∷ fs) (is, one, rest) = λ j. ordinal_same e f one j || any_ordinal es fs rest j

endings_same : (es fs : List Element) → EachFound (codes "term") es fs → filter_map ending es ≡ filter_map ending fs
endings_same [] [] a = refl
endings_same [] (f ∷ fs) a = absurd a
endings_same (e ∷ es) [] a = absurd a
endings_same (e ∷ es) (f ∷ fs) (is, one, rest) = λ j. cons_option (ending_same e f is one j) (endings_same es fs rest j)

default_ending : (es fs : List Element) → EachFound (codes "term") es fs → option_map_or ending_text (find is_default es) [] ≡ option_map_or ending_text (find is_default fs) []
default_ending [] [] a = refl
default_ending [] (f ∷ fs) a = absurd a
default_ending (e ∷ es) [] a = absurd a
default_ending (e ∷ es) (f ∷ fs) (is, one, rest) =
    by_test (is_default e) (is_default f) (default_same e f one) (ending_text_same e f is one) (find is_default es) (find is_default fs) (default_ending es fs rest)
  where
    by_test : (a b : Bool) → a ≡ b → ending_text e ≡ ending_text f → (o p : Option Element) → option_map_or ending_text o [] ≡ option_map_or ending_text p []
        → option_map_or ending_text (cond a (Some e) o) [] ≡ option_map_or ending_text (cond b (Some f) p) []
    by_test true true same is o p more = is
    by_test true false same is o p more = absurd (true≢false same)
    by_test false true same is o p more = absurd (true≢false (sym same))
    by_test false false same is o p more = more

ordinals_same : (es fs : List Element) → EachFound (codes "term") es fs → ordinals_of es ≡ ordinals_of fs
ordinals_same es fs a = λ j. cond (any_ordinal es fs a j) (Some (record { endings = endings_same es fs a j; default = default_ending es fs a j })) None

terms_found : (x y : Element) → Alike x y → EachFound (codes "term") (terms_of x) (terms_of y)
terms_found x y a = by_found (part_called (codes "terms") x) (part_called (codes "terms") y) (part_found (codes "terms") x y a)
  where
    by_found : (o p : Option Element) → AreFound (codes "terms") o p → EachFound (codes "term") (option_map_or (called (codes "term")) o []) (option_map_or (called (codes "term")) p [])
    by_found None None a = tt
    by_found None (Some f) a = absurd a
    by_found (Some e) None a = absurd a
    by_found (Some e) (Some f) a = called_found (codes "term") e f a.1

-- ---- a locale

date_same : (x y : Element) → Alike x y → localized_date x ≡ localized_date y
date_same x y a =
    let h : SaySame x y = alike_said x y a in
    λ j. record {
      form = unwrap_or (value_same x y h (table DATE_FORMS.now) (codes "form") j) date_forms.Text;
      parts = own_parts_same x y a j;
      delimiter = printed_text_same x y h (codes "delimiter") j;
    }

option_same : (name : List ℕ) (x y : Element) → Alike x y → option_set name x ≡ option_set name y
option_same name x y a =
    then_same (codes "style-options") (is_set name) (λ e f is es. set_same e f (alike_said e f es) name) (part_called (codes "style-options") x) (part_called (codes "style-options") y)
    (part_found (codes "style-options") x y a)

-- a test by a name of the prefix xml
xml_by_name : (name : List ℕ) → GoesByName (λ (v : Attribute). is_of_xml name (record { v = v; left = 0 }))
xml_by_name name u w p r = by_spaces u.name.space w.name.space p r
  where
    first_of : (a b : Bool) → (a && b) ≡ true → a ≡ true
    first_of true b e = refl
    first_of false b e = e

    second_of : (a b : Bool) → (a && b) ≡ true → b ≡ true
    second_of true b e = e
    second_of false b e = absurd (true≢false (sym e))

    one : (a b c : List ℕ) → bytes_eq a c ≡ true → bytes_eq b c ≡ true → bytes_eq a b ≡ true
    one a b c p r = (bytes_decides a b).1 ((bytes_decides a c).0 p ∙ sym ((bytes_decides b c).0 r))

    both : (a b c d e f : List ℕ) → (bytes_eq a c && bytes_eq d f) ≡ true → (bytes_eq b c && bytes_eq e f) ≡ true → (bytes_eq a b && bytes_eq d e) ≡ true
    both a b c d e f p r =
        let first : bytes_eq a b ≡ true = one a b c (first_of (bytes_eq a c) (bytes_eq d f) p) (first_of (bytes_eq b c) (bytes_eq e f) r) in
        let second : bytes_eq d e ≡ true = one d e f (second_of (bytes_eq a c) (bytes_eq d f) p) (second_of (bytes_eq b c) (bytes_eq e f) r) in
        (λ j. first j && second j)

    by_spaces : (a b : Option (List ℕ)) → (is_word xml_space a && bytes_eq (text u.name.local) name) ≡ true → (is_word xml_space b && bytes_eq (text w.name.local) name) ≡ true
        → (same_prefix a b && same_text u.name.local w.name.local) ≡ true
    by_spaces None b p r = absurd (true≢false (sym p))
    by_spaces (Some a) None p r = absurd (true≢false (sym r))
    by_spaces (Some a) (Some b) p r = both (text a) (text b) xml_space (text u.name.local) (text w.name.local) name p r

language_same : (x y : Element) → Alike x y → language x ≡ language y
language_same (Tagged left n ps c) (Tagged right m bs d) a =
    ap (option_map text) (found_same (λ (v : Attribute). is_of_xml (codes "lang") (record { v = v; left = 0 })) (xml_by_name (codes "lang")) ps bs a.1)

pub locale_same : (words : List (List ℕ)) (x y : Element) → Alike x y → locale words x ≡ locale words y
locale_same words x y a =
    λ j. record {
      lang = language_same x y a j;
      terms = each_same (codes "term") (localized_term words) (term_same words) (terms_of x) (terms_of y) (terms_found x y a) j;
      dates = each_same (codes "date") localized_date (λ e f is es. date_same e f es) (called (codes "date") x) (called (codes "date") y) (called_found (codes "date") x y a) j;
      ordinals = ordinals_same (terms_of x) (terms_of y) (terms_found x y a) j;
      punctuation_in_quote = option_same (codes "punctuation-in-quote") x y a j;
      limits_day_ordinals = option_same (codes "limit-day-ordinals-to-day-1") x y a j;
    }

-- ---- words

own_word_same : (x y : Element) → Alike x y → own_word x ≡ own_word y
own_word_same x y a =
    let h : SaySame x y = alike_said x y a in
    (λ j. cond (is_called (codes "text") (names_same x y a j)) (h (codes "term") j) (cond (is_called (codes "term") (names_same x y a j)) (h (codes "name") j) None))

mutual
  words_of_same : (x y : Element) → Alike x y → words_of x ≡ words_of y
  words_of_same (Tagged left n ps c) (Tagged right m bs d) (names, same, inside) =
      let x : Element = Tagged left n ps c in
      let y : Element = Tagged right m bs d in
      λ j. cond (is_passed (names j)) [] (option_to_list (option_map text (own_word_same x y (names, same, inside) j)) ++ words_in_same (text_counts x) c d inside j)

  words_in_same : (here : Bool) (c d : Content) → AreAlikeInside text_counts here c d → words_in c ≡ words_in d
  words_in_same here (Last t) (Last u) a = refl
  words_in_same here (Last t) (Next u f d) a = absurd a
  words_in_same here (Next t e c) (Last u) a = absurd a
  words_in_same here (Next t e c) (Next u f d) (ts, es, rest) = λ j. words_of_same e f es j ++ words_in_same here c d rest j

pub unlisted_same : (x y : Element) → Alike x y → unlisted_words x ≡ unlisted_words y
unlisted_same x y a = ap (λ (ws : List (List ℕ)). each_once (filter is_unlisted ws)) (words_of_same x y a)
