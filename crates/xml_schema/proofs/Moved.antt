-- The faults of a tree are the same wherever the texts and lists of a schema lie: moved to one place, it has the same.
use Rattle.std.proofs.Common.{◌≡◌, ℕ, ◌+◌, Bool, true, false, cond, ◌==◌, nat_lt, ◌&&◌, ◌||◌, List, [], ◌∷◌, ◌++◌, map, length, fold, if◌then◌else◌, is_none, Option, Some, None, option_map, option_to_list, chars, refl, ap, ◌∙◌}
use Rattle.std.specs.List.{find, filter_map, cons_option, list_all, slice_split}
use Rattle.std.specs.Option.{option_or}
use Rattle.std.specs.Str.{bytes_eq}
use Rattle.laws.specs.Borrowed.{borrowed}
use Rattle.laws.specs.Characters.{space}
use Rattle.laws.specs.Text.{text}
use Rattle.xml_text.specs.Tokens.{At}
use Rattle.xml_tree.specs.Scope.{xml_space, is_word}
use Rattle.xml_tree.specs.Trees.{FullName, Attribute, Element, Tagged, Content, Last, Next}
use Rattle.xml_schema.specs.Faults.{Wrong, NoValue, Lacking, Crowded, Fault, fault, is_other, values_of, group_values, wrong_by, attribute_wrong, has_attribute, count_had, lack_wrong, crowd_wrong, one_wrong, need_wrong, name_of, left_at, child_wrong, text_wrong, content_wrongs, later_wrongs, own_wrongs, by_found_rule, by_rule_name, child_rule, by_child_rule, standing, faults_where_it_stands, ruled_faults, content_faults, as_root, faults}
use Rattle.xml_schema.specs.Moved.{moved_text, moved_words, moved_groups, moved_values, moved_attribute, moved_attributes, moved_attribute_groups, moved_need, moved_child, moved_rule, moved_schema}
use Rattle.xml_schema.specs.Tables.{Text, Words, Values, AttributeRule, AttributeRules, Need, ChildRule, Rule, Schema}
use Rattle.xml_schema.specs.Values.{is_among, is_in_group, is_empty_or_in_group, are_in_group, has_words, allows}
use Rattle.xml_schema.specs.declared.schema.Need.TheVariants as needs
use Rattle.xml_schema.specs.declared.schema.Values.TheVariants as values
use Rattle.xml_schema.specs.declared.standing.Standing.{Standing}
use Rattle.xml_schema.specs.declared.standing.Standing.TheVariants.{Passed, NotAllowed, Under}

-- values

among_same : (ws : List Text) (t : List ℕ) → is_among (moved_words ws) t ≡ is_among ws t
among_same [] t = refl
among_same (w ∷ ws) t = ap (λ (b : Bool). bytes_eq t w.now || b) (among_same ws t)

group_same : (gs : List Words) (t : List ℕ) → is_in_group (moved_groups gs) t ≡ is_in_group gs t
group_same [] t = refl
group_same (g ∷ gs) t = λ i. among_same g.now t i || group_same gs t i

each_same : (gs : List Words) (parts : List (List ℕ)) → list_all (is_empty_or_in_group (moved_groups gs)) parts ≡ list_all (is_empty_or_in_group gs) parts
each_same gs [] = refl
each_same gs (p ∷ parts) = λ i. (length p == 0 || group_same gs p i) && each_same gs parts i

groups_same : (gs : List Words) (t : List ℕ) → are_in_group (moved_groups gs) t ≡ are_in_group gs t
groups_same gs t = each_same gs (slice_split (λ b. b == space) t)

allows_same : (v : Values) (t : List ℕ) → allows (moved_values v) t ≡ allows v t
allows_same values.Any t = refl
allows_same values.Number t = refl
allows_same values.Signed t = refl
allows_same (values.OneOf groups) t = group_same groups.now t
allows_same (values.SomeOf groups) t = ap (λ (b : Bool). has_words (chars t) && b) (groups_same groups.now t)

-- attributes

abbrev pub attribute_named : List ℕ → List AttributeRule → Option AttributeRule
attribute_named name rs = find (λ (r : AttributeRule). bytes_eq (text name) r.0.now) rs

named_found : (rs : List AttributeRule) (name : List ℕ) → attribute_named name (moved_attributes rs) ≡ option_map moved_attribute (attribute_named name rs)
named_found [] name = refl
named_found (r ∷ rs) name = by_test (bytes_eq (text name) r.0.now) (named_found rs name)
  where
    by_test : (is : Bool) → attribute_named name (moved_attributes rs) ≡ option_map moved_attribute (attribute_named name rs)
        → cond is (Some (moved_attribute r)) (attribute_named name (moved_attributes rs)) ≡ option_map moved_attribute (cond is (Some r) (attribute_named name rs))
    by_test true others = refl
    by_test false others = others

values_moved : (o : Option AttributeRule) → option_map (λ (r : AttributeRule). r.1) (option_map moved_attribute o) ≡ option_map moved_values (option_map (λ (r : AttributeRule). r.1) o)
values_moved None = refl
values_moved (Some r) = refl

values_found : (rs : List AttributeRule) (name : List ℕ) → values_of (moved_attributes rs) name ≡ option_map moved_values (values_of rs name)
values_found rs name = ap (option_map (λ (r : AttributeRule). r.1)) (named_found rs name) ∙ values_moved (attribute_named name rs)

or_mapped : {X Y : Type 0} (f : X → Y) (o p : Option X) → option_or (option_map f o) (option_map f p) ≡ option_map f (option_or o p)
or_mapped f None p = refl
or_mapped f (Some x) p = refl

group_found : (gs : List AttributeRules) (name : List ℕ) → group_values (moved_attribute_groups gs) name ≡ option_map moved_values (group_values gs name)
group_found [] name = refl
group_found (g ∷ gs) name = (λ i. option_or (values_found g.now name i) (group_found gs name i)) ∙ or_mapped moved_values (values_of g.now name) (group_values gs name)

wrong_same : (o : Option Values) (a : Attribute) → wrong_by (option_map moved_values o) a ≡ wrong_by o a
wrong_same None a = refl
wrong_same (Some v) a = ap (λ (b : Bool). if b then None else Some (NoValue a.name.local)) (allows_same v (text a.value))

attribute_same : (s : Schema) (rule : Rule) (a : At Attribute) → attribute_wrong (moved_schema s) (moved_rule rule) a ≡ attribute_wrong s rule a
attribute_same s rule a =
    let own : wrong_by (group_values (moved_attribute_groups rule.attributes.now) a.v.name.local) a.v ≡ wrong_by (group_values rule.attributes.now a.v.name.local) a.v =
    ap (λ (o : Option Values). wrong_by o a.v) (group_found rule.attributes.now a.v.name.local) ∙ wrong_same (group_values rule.attributes.now a.v.name.local) a.v in
    let of_xml : wrong_by (values_of (moved_attributes rule.xml_attributes.now) a.v.name.local) a.v ≡ wrong_by (values_of rule.xml_attributes.now a.v.name.local) a.v =
    ap (λ (o : Option Values). wrong_by o a.v) (values_found rule.xml_attributes.now a.v.name.local) ∙ wrong_same (values_of rule.xml_attributes.now a.v.name.local) a.v in
    λ i. if is_none a.v.name.space then own i else (if is_word xml_space a.v.name.space then of_xml i else (if is_other s.space.now a.v.name.space then None else wrong_by None a.v))

attributes_same : (s : Schema) (rule : Rule) (attributes : List (At Attribute)) → filter_map (attribute_wrong (moved_schema s) (moved_rule rule)) attributes ≡ filter_map (attribute_wrong s rule) attributes
attributes_same s rule [] = refl
attributes_same s rule (a ∷ attributes) = λ i. cons_option (attribute_same s rule a i) (attributes_same s rule attributes i)

-- what an element needs

names_same : (ws : List Text) → borrowed (moved_words ws) ≡ borrowed ws
names_same [] = refl
names_same (w ∷ ws) = ap (λ (ts : List (List ℕ)). w.now ∷ ts) (names_same ws)

had_from : (attributes : List (At Attribute)) (n : ℕ) (ws : List Text)
    → fold (λ (k : ℕ) (w : Text). k + cond (has_attribute attributes w.now) 1 0) n (moved_words ws) ≡ fold (λ (k : ℕ) (w : Text). k + cond (has_attribute attributes w.now) 1 0) n ws
had_from attributes n [] = refl
had_from attributes n (w ∷ ws) = had_from attributes (n + cond (has_attribute attributes w.now) 1 0) ws

had_same : (attributes : List (At Attribute)) (ws : List Text) → count_had attributes (moved_words ws) ≡ count_had attributes ws
had_same attributes ws = had_from attributes 0 ws

lack_same : (ws : List Text) (n : ℕ) → lack_wrong (moved_words ws) n ≡ lack_wrong ws n
lack_same ws n = ap (λ (ts : List (List ℕ)). if n == 0 then Some (Lacking ts) else None) (names_same ws)

crowd_same : (ws : List Text) (n : ℕ) → crowd_wrong (moved_words ws) n ≡ crowd_wrong ws n
crowd_same ws n = ap (λ (ts : List (List ℕ)). if nat_lt 1 n then Some (Crowded ts) else None) (names_same ws)

one_same : (ws : List Text) (n : ℕ) → one_wrong (moved_words ws) n ≡ one_wrong ws n
one_same ws n = λ i. option_or (lack_same ws n i) (crowd_same ws n i)

need_same : (attributes : List (At Attribute)) (need : Need) → need_wrong attributes (moved_need need) ≡ need_wrong attributes need
need_same attributes (needs.AtLeastOne names) = ap (λ (n : ℕ). lack_wrong (moved_words names.now) n) (had_same attributes names.now) ∙ lack_same names.now (count_had attributes names.now)
need_same attributes (needs.ExactlyOne names) = ap (λ (n : ℕ). one_wrong (moved_words names.now) n) (had_same attributes names.now) ∙ one_same names.now (count_had attributes names.now)

needs_same : (attributes : List (At Attribute)) (ns : List Need) → filter_map (need_wrong attributes) (map moved_need ns) ≡ filter_map (need_wrong attributes) ns
needs_same attributes [] = refl
needs_same attributes (n ∷ ns) = λ i. cons_option (need_same attributes n i) (needs_same attributes ns i)

-- elements in an element

children_same : (s : Schema) (content : Content) (rs : List ChildRule) → filter_map (child_wrong (moved_schema s) content) (map moved_child rs) ≡ filter_map (child_wrong s content) rs
children_same s content [] = refl
children_same s content (r ∷ rs) = ap (cons_option (child_wrong s content r)) (children_same s content rs)

contents_wrong_same : (s : Schema) (rule : Rule) (content : Content) → content_wrongs (moved_schema s) (moved_rule rule) content ≡ content_wrongs s rule content
contents_wrong_same s rule content = ap (λ (ws : List Wrong). ws ++ option_to_list (text_wrong rule content)) (children_same s content rule.children.now)

later_same : (s : Schema) (rule : Rule) (attributes : List (At Attribute)) (content : Content) → later_wrongs (moved_schema s) (moved_rule rule) attributes content ≡ later_wrongs s rule attributes content
later_same s rule attributes content = λ i. needs_same attributes rule.needs.now i ++ contents_wrong_same s rule content i

own_same : (s : Schema) (rule : Rule) (attributes : List (At Attribute)) (content : Content) → own_wrongs (moved_schema s) (moved_rule rule) attributes content ≡ own_wrongs s rule attributes content
own_same s rule attributes content = λ i. attributes_same s rule attributes i ++ later_same s rule attributes content i

-- how an element stands

abbrev pub moved_standing : Standing → Standing
moved_standing Passed = Passed
moved_standing NotAllowed = NotAllowed
moved_standing (Under rule) = Under (moved_rule rule)

child_found : (rs : List ChildRule) (local : List ℕ) → child_rule (map moved_child rs) local ≡ option_map moved_child (child_rule rs local)
child_found [] local = refl
child_found (r ∷ rs) local = by_test (bytes_eq (text local) r.0.now) (child_found rs local)
  where
    by_test : (is : Bool) → child_rule (map moved_child rs) local ≡ option_map moved_child (child_rule rs local)
        → cond is (Some (moved_child r)) (child_rule (map moved_child rs) local) ≡ option_map moved_child (cond is (Some r) (child_rule rs local))
    by_test true others = refl
    by_test false others = others

abbrev pub rule_named : List ℕ → List Rule → Option Rule
rule_named name rules = find (λ (rule : Rule). bytes_eq rule.name.now name) rules

rule_found : (rules : List Rule) (name : List ℕ) → rule_named name (map moved_rule rules) ≡ option_map moved_rule (rule_named name rules)
rule_found [] name = refl
rule_found (r ∷ rules) name = by_test (bytes_eq r.name.now name) (rule_found rules name)
  where
    by_test : (is : Bool) → rule_named name (map moved_rule rules) ≡ option_map moved_rule (rule_named name rules)
        → cond is (Some (moved_rule r)) (rule_named name (map moved_rule rules)) ≡ option_map moved_rule (cond is (Some r) (rule_named name rules))
    by_test true others = refl
    by_test false others = others

found_rule_same : (o : Option Rule) → by_found_rule (option_map moved_rule o) ≡ moved_standing (by_found_rule o)
found_rule_same None = refl
found_rule_same (Some rule) = refl

rule_name_same : (s : Schema) (o : Option Text) → by_rule_name (moved_schema s) (option_map moved_text o) ≡ moved_standing (by_rule_name s o)
rule_name_same s None = refl
rule_name_same s (Some name) = ap by_found_rule (rule_found s.rules.now name.now) ∙ found_rule_same (rule_named name.now s.rules.now)

child_rule_same : (s : Schema) (o : Option ChildRule) → by_child_rule (moved_schema s) (option_map moved_child o) ≡ moved_standing (by_child_rule s o)
child_rule_same s None = refl
child_rule_same s (Some r) = rule_name_same s r.1

passed_or : (b : Bool) (st : Standing) → (if b then Passed else moved_standing st) ≡ moved_standing (if b then Passed else st)
passed_or true st = refl
passed_or false st = refl

standing_same : (s : Schema) (around : Rule) (n : FullName) → standing (moved_schema s) (moved_rule around) n ≡ moved_standing (standing s around n)
standing_same s around n =
    let found : by_child_rule (moved_schema s) (child_rule (map moved_child around.children.now) n.local) ≡ moved_standing (by_child_rule s (child_rule around.children.now n.local)) =
    ap (by_child_rule (moved_schema s)) (child_found around.children.now n.local) ∙ child_rule_same s (child_rule around.children.now n.local) in
    (λ i. if is_other s.space.now n.space then Passed else found i) ∙ passed_or (is_other s.space.now n.space) (by_child_rule s (child_rule around.children.now n.local))

stands_same : (around : Rule) (st : Standing) (left : ℕ) (f g : Rule → List Fault) → ((r : Rule) → f (moved_rule r) ≡ g r)
    → faults_where_it_stands (moved_rule around) (moved_standing st) left f ≡ faults_where_it_stands around st left g
stands_same around Passed left f g each = refl
stands_same around NotAllowed left f g each = refl
stands_same around (Under rule) left f g each = each rule

mutual
  ruled_same : (s : Schema) (rule : Rule) (e : Element) → ruled_faults (moved_schema s) (moved_rule rule) e ≡ ruled_faults s rule e
  ruled_same s rule (Tagged left name attributes content) = λ i. map (fault left) (own_same s rule attributes content i) ++ content_same s rule content i

  content_same : (s : Schema) (rule : Rule) (c : Content) → content_faults (moved_schema s) (moved_rule rule) c ≡ content_faults s rule c
  content_same s rule (Last t) = refl
  content_same s rule (Next t e c) =
      let first : faults_where_it_stands (moved_rule rule) (standing (moved_schema s) (moved_rule rule) (name_of e)) (left_at e) (λ r. ruled_faults (moved_schema s) r e) ≡ faults_where_it_stands rule (standing s rule (name_of e)) (left_at e) (λ r. ruled_faults s r e) =
      ap (λ (st : Standing). faults_where_it_stands (moved_rule rule) st (left_at e) (λ r. ruled_faults (moved_schema s) r e)) (standing_same s rule (name_of e))
      ∙ stands_same rule (standing s rule (name_of e)) (left_at e) (λ r. ruled_faults (moved_schema s) r e) (λ r. ruled_faults s r e) (λ r. ruled_same s r e) in
      λ i. first i ++ content_same s rule c i

as_root_same : (st : Standing) → as_root (moved_standing st) ≡ moved_standing (as_root st)
as_root_same Passed = refl
as_root_same NotAllowed = refl
as_root_same (Under rule) = refl

pub faults_same : (s : Schema) (root : Element) → faults (moved_schema s) root ≡ faults s root
faults_same s root =
    let at : Standing = standing s s.document (name_of root) in
    ap (λ (st : Standing). faults_where_it_stands (moved_rule s.document) st (left_at root) (λ r. ruled_faults (moved_schema s) r root))
    (ap as_root (standing_same s s.document (name_of root)) ∙ as_root_same at)
    ∙ stands_same s.document (as_root at) (left_at root) (λ r. ruled_faults (moved_schema s) r root) (λ r. ruled_faults s r root) (λ r. ruled_same s r root)
