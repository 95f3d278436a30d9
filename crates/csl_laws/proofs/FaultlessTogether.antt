-- Files that say the same are without faults together.
use Rattle.std.proofs.Common.{◌≡◌, ℕ, Bool, true, false, cond, ◌&&◌, ◌||◌, List, [], ◌∷◌, ◌++◌, map, Option, Some, None, option_to_list, is_none, codes, nat_lt, true≢false, refl, sym, ap, ◌∙◌, subst}
use Rattle.std.specs.Str.{bytes_eq}
use Rattle.laws.specs.Text.{text}
use Rattle.xml_tree.specs.Trees.{Element, Tagged, Content, Last, Next}
use Rattle.xml_schema.specs.Faults.{left_at, name_of}
use Rattle.csl_schema.specs.Faults.{csl_schema, csl_faults}
use Rattle.csl_words.specs.Elements.{is_called, part_called, content_in}
use Rattle.csl_locales.specs.Called.{called}
use Rattle.csl_locales.specs.Sets.{is_one_of}
use Rattle.csl_locales.specs.Words.{is_passed}
use Rattle.csl_styles.specs.Faults.{Fault, fault, SecondMacro, UnknownMacro, NoCitation, by_schema, macro_name, macro_names, called_macro, unknown_at, call_fault, call_faults, calls_in, is_macro, second_fault, with_name, child_faults, macro_faults, lacks_citation, citation_fault, style_faults, own_faults, before, merged, faults}
use Rattle.csl_laws.specs.Alike.{AreSameTexts, AreAlikeInside}
use Rattle.csl_laws.specs.Trees.{text_counts, Alike}
use Rattle.csl_laws.proofs.Reordered.{same_back}
use Rattle.csl_laws.proofs.SoundTogether.{first_empty, second_empty, both_empty, map_empty, trees_sound}
use Rattle.csl_laws.proofs.Said.{alike_said, names_same, text_same, part_found, called_found, none_found, each_same}
use Rattle.csl_laws.proofs.LocalesAlike.{counts_same}
use Rattle.csl_laws.proofs.StylesAlike.{parent_same}

-- ---- the other way round

texts_back : (here : Bool) (t u : List ℕ) → AreSameTexts here t u → AreSameTexts here u t
texts_back true t u a = sym a
texts_back false t u a = sym a

mutual
  pub alike_back : (x y : Element) → Alike x y → Alike y x
  alike_back (Tagged left n ps c) (Tagged right m bs d) (names, same, inside) =
      let x : Element = Tagged left n ps c in
      let y : Element = Tagged right m bs d in
      (sym names, same_back ps bs same, subst (λ (here : Bool). AreAlikeInside text_counts here d c) (counts_same x y (names, same, inside)) (inside_back (text_counts x) c d inside))

  inside_back : (here : Bool) (c d : Content) → AreAlikeInside text_counts here c d → AreAlikeInside text_counts here d c
  inside_back here (Last t) (Last u) a = texts_back here t u a
  inside_back here (Last t) (Next u f d) a = a
  inside_back here (Next t e c) (Last u) a = a
  inside_back here (Next t e c) (Next u f d) (ts, es, rest) = (texts_back here t u ts, alike_back e f es, inside_back here c d rest)

-- ---- macros and calls of them

macro_name_same : (x y : Element) → Alike x y → macro_name x ≡ macro_name y
macro_name_same x y a = ap text (text_same x y (alike_said x y a) (codes "name"))

macro_names_same : (x y : Element) → Alike x y → macro_names x ≡ macro_names y
macro_names_same x y a = each_same (codes "macro") macro_name (λ e f is es. macro_name_same e f es) (called (codes "macro") x) (called (codes "macro") y) (called_found (codes "macro") x y a)

called_macro_same : (x y : Element) → Alike x y → called_macro x ≡ called_macro y
called_macro_same x y a =
    λ j. cond (is_called (codes "text") (names_same x y a j) || is_called (codes "key") (names_same x y a j)) (alike_said x y a (codes "macro") j) None

known_sound : (b : Bool) (f g : Fault) → option_to_list (cond b None (Some f)) ≡ [] → option_to_list (cond b None (Some g)) ≡ []
known_sound true f g e = refl
known_sound false f g e = absurd cc

unknown_sound : (known : List ℕ → Bool) (left right : ℕ) (o : Option (List ℕ)) → option_to_list (unknown_at known left o) ≡ [] → option_to_list (unknown_at known right o) ≡ []
unknown_sound known left right None e = refl
unknown_sound known left right (Some name) e = known_sound (known (text name)) (fault left UnknownMacro) (fault right UnknownMacro) e

call_sound : (known : List ℕ → Bool) (x y : Element) → Alike x y → option_to_list (call_fault known x) ≡ [] → option_to_list (call_fault known y) ≡ []
call_sound known x y a e =
    unknown_sound known (left_at x) (left_at y) (called_macro y) (ap (λ (o : Option (List ℕ)). option_to_list (unknown_at known (left_at x) o)) (sym (called_macro_same x y a)) ∙ e)

passed_sound : (a b : Bool) → a ≡ b → (xs ys : List Fault) → (xs ≡ [] → ys ≡ []) → cond a [] xs ≡ [] → cond b [] ys ≡ []
passed_sound true true same xs ys more e = refl
passed_sound true false same xs ys more e = absurd (true≢false same)
passed_sound false true same xs ys more e = refl
passed_sound false false same xs ys more e = more e

mutual
  calls_sound : (known : List ℕ → Bool) (x y : Element) → Alike x y → call_faults known x ≡ [] → call_faults known y ≡ []
  calls_sound known (Tagged left n ps c) (Tagged right m bs d) (names, same, inside) none =
      let x : Element = Tagged left n ps c in
      let y : Element = Tagged right m bs d in
      let own : List Fault = option_to_list (call_fault known x) in
      passed_sound (is_passed n) (is_passed m) (ap is_passed names) (own ++ calls_in known c) (option_to_list (call_fault known y) ++ calls_in known d)
      (λ e. both_empty (option_to_list (call_fault known y)) (calls_in known d)
      (call_sound known x y (names, same, inside) (first_empty own (calls_in known c) e)) (calls_in_sound known (text_counts x) c d inside (second_empty own (calls_in known c) e))) none

  calls_in_sound : (known : List ℕ → Bool) (here : Bool) (c d : Content) → AreAlikeInside text_counts here c d → calls_in known c ≡ [] → calls_in known d ≡ []
  calls_in_sound known here (Last t) (Last u) a none = refl
  calls_in_sound known here (Last t) (Next u f d) a none = absurd a
  calls_in_sound known here (Next t e c) (Last u) a none = absurd a
  calls_in_sound known here (Next t e c) (Next u f d) (ts, es, rest) none =
      both_empty (call_faults known f) (calls_in known d) (calls_sound known e f es (first_empty (call_faults known e) (calls_in known c) none))
      (calls_in_sound known here c d rest (second_empty (call_faults known e) (calls_in known c) none))

is_macro_same : (x y : Element) → Alike x y → is_macro x ≡ is_macro y
is_macro_same x y a = ap (is_called (codes "macro")) (names_same x y a)

with_name_same : (earlier : List ℕ → Bool) (x y : Element) → Alike x y → with_name earlier x ≡ with_name earlier y
with_name_same earlier x y a = λ j name. (is_macro_same x y a j && bytes_eq (macro_name_same x y a j) name) || earlier name

second_by : (a b : Bool) → a ≡ b → (f g : Fault) → option_to_list (cond a (Some f) None) ≡ [] → option_to_list (cond b (Some g) None) ≡ []
second_by true true same f g e = absurd cc
second_by true false same f g e = refl
second_by false true same f g e = absurd (true≢false (sym same))
second_by false false same f g e = refl

second_sound : (earlier : List ℕ → Bool) (x y : Element) → Alike x y → option_to_list (second_fault earlier x) ≡ [] → option_to_list (second_fault earlier y) ≡ []
second_sound earlier x y a e =
    second_by (is_macro x && earlier (macro_name x)) (is_macro y && earlier (macro_name y)) (λ j. is_macro_same x y a j && earlier (macro_name_same x y a j))
    (fault (left_at x) SecondMacro) (fault (left_at y) SecondMacro) e

child_sound : (known earlier : List ℕ → Bool) (x y : Element) → Alike x y → child_faults known earlier x ≡ [] → child_faults known earlier y ≡ []
child_sound known earlier x y a none =
    both_empty (option_to_list (second_fault earlier y)) (call_faults known y)
    (second_sound earlier x y a (first_empty (option_to_list (second_fault earlier x)) (call_faults known x) none))
    (calls_sound known x y a (second_empty (option_to_list (second_fault earlier x)) (call_faults known x) none))

macros_sound : (known earlier : List ℕ → Bool) (here : Bool) (c d : Content) → AreAlikeInside text_counts here c d → macro_faults known earlier c ≡ [] → macro_faults known earlier d ≡ []
macros_sound known earlier here (Last t) (Last u) a none = refl
macros_sound known earlier here (Last t) (Next u f d) a none = absurd a
macros_sound known earlier here (Next t e c) (Last u) a none = absurd a
macros_sound known earlier here (Next t e c) (Next u f d) (ts, es, rest) none =
    both_empty (child_faults known earlier f) (macro_faults known (with_name earlier f) d)
    (child_sound known earlier e f es (first_empty (child_faults known earlier e) (macro_faults known (with_name earlier e) c) none))
    (ap (λ (names : List ℕ → Bool). macro_faults known names d) (sym (with_name_same earlier e f es))
    ∙ macros_sound known (with_name earlier e) here c d rest (second_empty (child_faults known earlier e) (macro_faults known (with_name earlier e) c) none))

macros_inside : (known earlier : List ℕ → Bool) (x y : Element) → Alike x y → macro_faults known earlier (content_in x) ≡ [] → macro_faults known earlier (content_in y) ≡ []
macros_inside known earlier (Tagged left n ps c) (Tagged right m bs d) a none = macros_sound known earlier (text_counts (Tagged left n ps c)) c d a.2 none

-- ---- a style

lacks_same : (x y : Element) → Alike x y → lacks_citation x ≡ lacks_citation y
lacks_same x y a =
    λ j. is_none (parent_same x y a j) && none_found (codes "citation") (part_called (codes "citation") x) (part_called (codes "citation") y) (part_found (codes "citation") x y a) j

citation_sound : (x y : Element) → Alike x y → option_to_list (citation_fault x) ≡ [] → option_to_list (citation_fault y) ≡ []
citation_sound x y a e = second_by (lacks_citation x) (lacks_citation y) (lacks_same x y a) (fault (left_at x) NoCitation) (fault (left_at y) NoCitation) e

style_sound : (x y : Element) → Alike x y → style_faults x ≡ [] → style_faults y ≡ []
style_sound x y a none =
    let macros : List Fault = macro_faults (is_one_of (macro_names x)) (λ name. false) (content_in x) in
    both_empty (option_to_list (citation_fault y)) (macro_faults (is_one_of (macro_names y)) (λ name. false) (content_in y))
    (citation_sound x y a (first_empty (option_to_list (citation_fault x)) macros none))
    (ap (λ (names : List (List ℕ)). macro_faults (is_one_of names) (λ name. false) (content_in y)) (sym (macro_names_same x y a))
    ∙ macros_inside (is_one_of (macro_names x)) (λ name. false) x y a (second_empty (option_to_list (citation_fault x)) macros none))

own_by : (a b : Bool) → a ≡ b → (xs ys : List Fault) → (xs ≡ [] → ys ≡ []) → cond a xs [] ≡ [] → cond b ys [] ≡ []
own_by true true same xs ys more e = more e
own_by true false same xs ys more e = refl
own_by false true same xs ys more e = absurd (true≢false (sym same))
own_by false false same xs ys more e = refl

own_sound : (x y : Element) → Alike x y → own_faults x ≡ [] → own_faults y ≡ []
own_sound x y a none =
    own_by (is_called (codes "style") (name_of x)) (is_called (codes "style") (name_of y)) (ap (is_called (codes "style")) (names_same x y a)) (style_faults x) (style_faults y) (style_sound x y a) none

-- ---- a file

before_some : (f : Fault) (others : List Fault → List Fault) (gs : List Fault) → before f others gs ≡ [] → ⊥
before_some f others [] e = cc
before_some f others (g ∷ gs) e = by_test (nat_lt f.left g.left) e
  where
    by_test : (b : Bool) → cond b (g ∷ before f others gs) (f ∷ others (g ∷ gs)) ≡ [] → ⊥
    by_test true e = cc
    by_test false e = cc

merged_first : (fs gs : List Fault) → merged fs gs ≡ [] → fs ≡ []
merged_first [] gs e = refl
merged_first (f ∷ fs) gs e = absurd (before_some f (merged fs) gs e)

merged_second : (fs gs : List Fault) → merged fs gs ≡ [] → gs ≡ []
merged_second [] gs e = e
merged_second (f ∷ fs) gs e = absurd (before_some f (merged fs) gs e)

merged_none : (fs gs : List Fault) → fs ≡ [] → gs ≡ [] → merged fs gs ≡ []
merged_none fs gs e f = ap (λ (hs : List Fault). merged hs gs) e ∙ f

pub files_sound : (x y : Element) → Alike x y → faults x ≡ [] → faults y ≡ []
files_sound x y a none =
    let by_rules : csl_faults x ≡ [] = map_empty by_schema (csl_faults x) (merged_first (map by_schema (csl_faults x)) (own_faults x) none) in
    merged_none (map by_schema (csl_faults y)) (own_faults y) (ap (map by_schema) (trees_sound text_counts csl_schema x y a by_rules))
    (own_sound x y a (merged_second (map by_schema (csl_faults x)) (own_faults x) none))
