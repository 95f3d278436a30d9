-- Trees that say the same are without faults of a schema together.
use Rattle.std.proofs.Common.{◌≡◌, ℕ, ◌+◌, Bool, true, false, cond, not, ◌&&◌, ◌||◌, List, [], ◌∷◌, ◌++◌, map, Option, Some, None, option_to_list, is_none, true≢false, refl, sym, ap, ◌∙◌}
use Rattle.std.specs.List.{find, filter_map, count_by}
use Rattle.std.specs.Cmp.Lexicographic.{bytes_decides}
use Rattle.std.specs.Str.{bytes_eq}
use Rattle.laws.specs.Text.{text}
use Rattle.xml_text.specs.Tokens.{At}
use Rattle.xml_tree.specs.Trees.{FullName, Attribute, Element, Tagged, Content, Last, Next}
use Rattle.xml_tree.specs.Scope.{same_prefix, same_text}
use Rattle.xml_schema.specs.Values.{has_words}
use Rattle.xml_schema.specs.Faults.{Texts, Fault, fault, attribute_wrong, is_had, has_attribute, count_had, lack_wrong, one_wrong, need_wrong, name_of, left_at, is_named, count_called, times_wrong, child_wrong, content_has_words, later_wrongs, own_wrongs, is_other, by_found_rule, by_rule_name, child_rule, by_child_rule, standing, faults_where_it_stands, ruled_faults, content_faults, as_root, faults}
use Rattle.xml_schema.specs.Tables.{Text, ChildRule, Need, Rule, Schema}
use Rattle.xml_schema.specs.declared.schema.Need.TheVariants as needs
use Rattle.csl_laws.specs.Alike.{AreSameAttributes, AreSameTexts, AreAlike, AreAlikeInside}
use Rattle.csl_laws.proofs.Reordered.{GoesByName, any_same, none_same}

-- two lists with nothing in them
pub first_empty : {A : Type 0} (xs ys : List A) → xs ++ ys ≡ [] → xs ≡ []
first_empty [] ys e = refl
first_empty (x ∷ xs) ys e = absurd cc

pub second_empty : {A : Type 0} (xs ys : List A) → xs ++ ys ≡ [] → ys ≡ []
second_empty [] ys e = e
second_empty (x ∷ xs) ys e = absurd cc

pub both_empty : {A : Type 0} (xs ys : List A) → xs ≡ [] → ys ≡ [] → xs ++ ys ≡ []
both_empty {A} xs ys e f = (λ j. e j ++ ys) ∙ f

pub map_empty : {A B : Type 0} (f : A → B) (xs : List A) → map f xs ≡ [] → xs ≡ []
map_empty f [] e = refl
map_empty f (x ∷ xs) e = absurd cc

-- a test by a name without a namespace
pub had_by_name : (name : List ℕ) → GoesByName (λ (v : Attribute). is_had name (record { v = v; left = 0 }))
had_by_name name u w p r = by_spaces u.name.space w.name.space p r
  where
    same_locals : bytes_eq (text u.name.local) name ≡ true → bytes_eq (text w.name.local) name ≡ true → bytes_eq (text u.name.local) (text w.name.local) ≡ true
    same_locals p r = (bytes_decides (text u.name.local) (text w.name.local)).1 ((bytes_decides (text u.name.local) name).0 p ∙ sym ((bytes_decides (text w.name.local) name).0 r))

    by_spaces : (a b : Option (List ℕ)) → (is_none a && bytes_eq (text u.name.local) name) ≡ true → (is_none b && bytes_eq (text w.name.local) name) ≡ true
        → (same_prefix a b && same_text u.name.local w.name.local) ≡ true
    by_spaces None None p r = same_locals p r
    by_spaces None (Some b) p r = absurd (true≢false (sym r))
    by_spaces (Some a) b p r = absurd (true≢false (sym p))

-- attributes that are there
pub had_same : (ps bs : List (At Attribute)) → AreSameAttributes ps bs → (name : List ℕ) → has_attribute ps name ≡ has_attribute bs name
had_same ps bs same name = any_same (λ (v : Attribute). is_had name (record { v = v; left = 0 })) ps bs same

count_same : (ps bs : List (At Attribute)) → AreSameAttributes ps bs → (names : List Text) → count_had ps names ≡ count_had bs names
count_same ps bs same names = λ j. count_by (λ (w : Text). had_same ps bs same w.now j) names

need_same : (ps bs : List (At Attribute)) → AreSameAttributes ps bs → (need : Need) → need_wrong ps need ≡ need_wrong bs need
need_same ps bs same (needs.AtLeastOne names) = ap (lack_wrong names.now) (count_same ps bs same names.now)
need_same ps bs same (needs.ExactlyOne names) = ap (one_wrong names.now) (count_same ps bs same names.now)

-- elements that are there
pub alike_names : (counts : Element → Bool) (x y : Element) → AreAlike counts x y → name_of x ≡ name_of y
alike_names counts (Tagged left n ps c) (Tagged right m bs d) a = a.0

called_counted : (counts : Element → Bool) (here : Bool) (of_schema name : List ℕ) (c d : Content) → AreAlikeInside counts here c d → count_called of_schema name c ≡ count_called of_schema name d
called_counted counts here of_schema name (Last t) (Last u) a = refl
called_counted counts here of_schema name (Last t) (Next u f d) a = absurd a
called_counted counts here of_schema name (Next t e c) (Last u) a = absurd a
called_counted counts here of_schema name (Next t e c) (Next u f d) (ts, es, rest) =
    λ j. cond (is_named of_schema name (alike_names counts e f es j)) (1 + called_counted counts here of_schema name c d rest j) (called_counted counts here of_schema name c d rest j)

child_same : (counts : Element → Bool) (here : Bool) (s : Schema) (c d : Content) → AreAlikeInside counts here c d → (r : ChildRule) → child_wrong s c r ≡ child_wrong s d r
child_same counts here s c d a r = ap (times_wrong r.2 r.0.now) (called_counted counts here s.space.now r.0.now c d a)

-- text that is there
words_same : (here : Bool) (t u : List ℕ) → AreSameTexts here t u → has_words t ≡ has_words u
words_same true t u a = ap has_words a
words_same false t u a = a

text_same : (counts : Element → Bool) (here : Bool) (c d : Content) → AreAlikeInside counts here c d → content_has_words c ≡ content_has_words d
text_same counts here (Last t) (Last u) a = words_same here t u a
text_same counts here (Last t) (Next u f d) a = absurd a
text_same counts here (Next t e c) (Last u) a = absurd a
text_same counts here (Next t e c) (Next u f d) (ts, es, rest) = λ j. words_same here t u ts j || text_same counts here c d rest j

-- an element itself
later_same : (counts : Element → Bool) (here : Bool) (s : Schema) (rule : Rule) (ps bs : List (At Attribute)) (c d : Content) → AreSameAttributes ps bs → AreAlikeInside counts here c d
    → later_wrongs s rule ps c ≡ later_wrongs s rule bs d
later_same counts here s rule ps bs c d same a =
    λ j. filter_map (λ (n : Need). need_same ps bs same n j) rule.needs.now
    ++ (filter_map (λ (r : ChildRule). child_same counts here s c d a r j) rule.children.now
    ++ option_to_list (cond (not rule.holds_text && text_same counts here c d a j) (Some Texts) None))

own_sound : (counts : Element → Bool) (here : Bool) (s : Schema) (rule : Rule) (ps bs : List (At Attribute)) (c d : Content) → AreSameAttributes ps bs → AreAlikeInside counts here c d
    → own_wrongs s rule ps c ≡ [] → own_wrongs s rule bs d ≡ []
own_sound counts here s rule ps bs c d same a none =
    both_empty (filter_map (attribute_wrong s rule) bs) (later_wrongs s rule bs d)
    (none_same (λ (v : Attribute). attribute_wrong s rule (record { v = v; left = 0 })) ps bs same (first_empty (filter_map (attribute_wrong s rule) ps) (later_wrongs s rule ps c) none))
    (sym (later_same counts here s rule ps bs c d same a) ∙ second_empty (filter_map (attribute_wrong s rule) ps) (later_wrongs s rule ps c) none)

-- an element where it stands, or as a root
module _ (around : Rule) (left right : ℕ) (R Q : Rule → List Fault) (more : (r : Rule) → R r ≡ [] → Q r ≡ []) where
  by_found : (o : Option Rule) → faults_where_it_stands around (by_found_rule o) left R ≡ [] → faults_where_it_stands around (by_found_rule o) right Q ≡ []
  by_found None none = absurd cc
  by_found (Some r) none = more r none

  by_name : (s : Schema) (o : Option Text) → faults_where_it_stands around (by_rule_name s o) left R ≡ [] → faults_where_it_stands around (by_rule_name s o) right Q ≡ []
  by_name s None none = refl
  by_name s (Some name) none = by_found (find (λ (rule : Rule). bytes_eq rule.name.now name.now) s.rules.now) none

  by_child : (s : Schema) (o : Option ChildRule) → faults_where_it_stands around (by_child_rule s o) left R ≡ [] → faults_where_it_stands around (by_child_rule s o) right Q ≡ []
  by_child s None none = absurd cc
  by_child s (Some r) none = by_name s r.1 none

  by_other : (s : Schema) (b : Bool) (o : Option ChildRule) → faults_where_it_stands around (cond b (by_rule_name s None) (by_child_rule s o)) left R ≡ []
      → faults_where_it_stands around (cond b (by_rule_name s None) (by_child_rule s o)) right Q ≡ []
  by_other s true o none = refl
  by_other s false o none = by_child s o none

  stands_sound : (s : Schema) (n : FullName) → faults_where_it_stands around (standing s around n) left R ≡ [] → faults_where_it_stands around (standing s around n) right Q ≡ []
  stands_sound s n none = by_other s (is_other s.space.now n.space) (child_rule around.children.now n.local) none

  root_found : (o : Option Rule) → faults_where_it_stands around (as_root (by_found_rule o)) left R ≡ [] → faults_where_it_stands around (as_root (by_found_rule o)) right Q ≡ []
  root_found None none = absurd cc
  root_found (Some r) none = more r none

  root_name : (s : Schema) (o : Option Text) → faults_where_it_stands around (as_root (by_rule_name s o)) left R ≡ [] → faults_where_it_stands around (as_root (by_rule_name s o)) right Q ≡ []
  root_name s None none = absurd cc
  root_name s (Some name) none = root_found (find (λ (rule : Rule). bytes_eq rule.name.now name.now) s.rules.now) none

  root_child : (s : Schema) (o : Option ChildRule) → faults_where_it_stands around (as_root (by_child_rule s o)) left R ≡ [] → faults_where_it_stands around (as_root (by_child_rule s o)) right Q ≡ []
  root_child s None none = absurd cc
  root_child s (Some r) none = root_name s r.1 none

  root_other : (s : Schema) (b : Bool) (o : Option ChildRule) → faults_where_it_stands around (as_root (cond b (by_rule_name s None) (by_child_rule s o))) left R ≡ []
      → faults_where_it_stands around (as_root (cond b (by_rule_name s None) (by_child_rule s o))) right Q ≡ []
  root_other s true o none = absurd cc
  root_other s false o none = root_child s o none

  root_sound : (s : Schema) (n : FullName) → faults_where_it_stands around (as_root (standing s around n)) left R ≡ [] → faults_where_it_stands around (as_root (standing s around n)) right Q ≡ []
  root_sound s n none = root_other s (is_other s.space.now n.space) (child_rule around.children.now n.local) none

mutual
  pub ruled_sound : (counts : Element → Bool) (s : Schema) (rule : Rule) (x y : Element) → AreAlike counts x y → ruled_faults s rule x ≡ [] → ruled_faults s rule y ≡ []
  ruled_sound counts s rule (Tagged left n ps c) (Tagged right m bs d) (names, same, inside) none =
      let here : Bool = counts (Tagged left n ps c) in
      let own : own_wrongs s rule ps c ≡ [] = map_empty (fault left) (own_wrongs s rule ps c) (first_empty (map (fault left) (own_wrongs s rule ps c)) (content_faults s rule c) none) in
      both_empty (map (fault right) (own_wrongs s rule bs d)) (content_faults s rule d)
      (ap (map (fault right)) (own_sound counts here s rule ps bs c d same inside own))
      (contents_sound counts here s rule c d inside (second_empty (map (fault left) (own_wrongs s rule ps c)) (content_faults s rule c) none))

  pub contents_sound : (counts : Element → Bool) (here : Bool) (s : Schema) (rule : Rule) (c d : Content) → AreAlikeInside counts here c d → content_faults s rule c ≡ [] → content_faults s rule d ≡ []
  contents_sound counts here s rule (Last t) (Last u) a none = refl
  contents_sound counts here s rule (Last t) (Next u f d) a none = absurd a
  contents_sound counts here s rule (Next t e c) (Last u) a none = absurd a
  contents_sound counts here s rule (Next t e c) (Next u f d) (ts, es, rest) none =
      let first : List Fault = faults_where_it_stands rule (standing s rule (name_of e)) (left_at e) (λ r. ruled_faults s r e) in
      both_empty (faults_where_it_stands rule (standing s rule (name_of f)) (left_at f) (λ r. ruled_faults s r f)) (content_faults s rule d)
      (stands_sound rule (left_at e) (left_at f) (λ r. ruled_faults s r e) (λ r. ruled_faults s r f) (λ r. ruled_sound counts s r e f es) s (name_of f)
      (ap (λ (n : FullName). faults_where_it_stands rule (standing s rule n) (left_at e) (λ r. ruled_faults s r e)) (sym (alike_names counts e f es)) ∙ first_empty first (content_faults s rule c) none))
      (contents_sound counts here s rule c d rest (second_empty first (content_faults s rule c) none))

-- a tree
pub trees_sound : (counts : Element → Bool) (s : Schema) (x y : Element) → AreAlike counts x y → faults s x ≡ [] → faults s y ≡ []
trees_sound counts s x y a none =
    root_sound s.document (left_at x) (left_at y) (λ r. ruled_faults s r x) (λ r. ruled_faults s r y) (λ r. ruled_sound counts s r x y a) s (name_of y)
    (ap (λ (n : FullName). faults_where_it_stands s.document (as_root (standing s s.document n)) (left_at x) (λ r. ruled_faults s r x)) (sym (alike_names counts x y a)) ∙ none)
