-- All faults of a tree by a schema. They stand at the start-tags of elements and come in the order of the text; those of one element in the
-- order of its attributes, of what it needs of them, and of the elements that it may have in it; text comes last. Names of a tree are
-- characters, words of a schema are bytes.
use Rattle.std.specs.Prelude.{ℕ, ◌+◌, nat_lt, Bool, false, not, ◌==◌, ◌&&◌, ◌||◌, List, [], ◌∷◌, ◌++◌, map, if◌then◌else◌, is_none, Option, Some, None, option_to_list}
use Rattle.std.specs.List.{list_any, find, filter_map, count_by}
use Rattle.std.specs.Option.{option_map, option_or}
use Rattle.std.specs.Str.{bytes_eq}
use Rattle.laws.specs.Borrowed.{borrowed}
use Rattle.laws.specs.Text.{text}
use Rattle.xml_text.specs.Tokens.{At}
use Rattle.xml_tree.specs.Trees.{FullName, Attribute, Element, Tagged, Content, Last, Next}
use Rattle.xml_tree.specs.Scope.{xml_space, is_word}
use Rattle.xml_schema.specs.Tables.{AttributeRule, AttributeRules, ChildRule, Need, Rule, Schema, Text, Values}
use Rattle.xml_schema.specs.Values.{allows, has_words}
use Rattle.xml_schema.specs.declared.schema.Need.TheVariants as needs
use Rattle.xml_schema.specs.declared.schema.Times.{Times}
use Rattle.xml_schema.specs.declared.schema.Times.TheVariants.{Any, AtMostOnce, Once}
use Rattle.xml_schema.specs.declared.standing.Standing.{Standing}
use Rattle.xml_schema.specs.declared.standing.Standing.TheVariants.{Passed, NotAllowed, Under}

-- What is wrong with an element: it may not stand in one of that rule; an attribute that it may not have, and one whose value it may not have,
-- by the local name; it has none of these attributes, and more than one; it has no element of that name in it, and more than one; text.
pub data Wrong : Type 0 where
  Stray : List ℕ → Wrong
  NoAttribute : List ℕ → Wrong
  NoValue : List ℕ → Wrong
  Lacking : List (List ℕ) → Wrong
  Crowded : List (List ℕ) → Wrong
  Childless : List ℕ → Wrong
  Repeated : List ℕ → Wrong
  Texts : Wrong

-- what is wrong, and where the start-tag begins
pub record Fault : Type 0 where
  pub left : ℕ
  pub wrong : Wrong

abbrev pub fault : ℕ → Wrong → Fault
fault left wrong = record { left = left; wrong = wrong }

-- a namespace is another one than a schema's; none counts as the schema's
abbrev pub is_other : List ℕ → Option (List ℕ) → Bool
is_other of_schema None = false
is_other of_schema (Some space) = not (bytes_eq (text space) of_schema)

-- the values of the first attribute of that name
abbrev pub values_of : List AttributeRule → List ℕ → Option Values
values_of rs name = option_map (λ (r : AttributeRule). r.1) (find (λ (r : AttributeRule). bytes_eq (text name) r.0.now) rs)

-- those of the first group that has one
abbrev pub group_values : List AttributeRules → List ℕ → Option Values
group_values [] name = None
group_values (g ∷ gs) name = option_or (values_of g.now name) (group_values gs name)

-- what is wrong with an attribute that may have such values, or that may not be there
abbrev pub wrong_by : Option Values → Attribute → Option Wrong
wrong_by None a = Some (NoAttribute a.name.local)
wrong_by (Some values) a = if allows values (text a.value) then None else Some (NoValue a.name.local)

-- What is wrong with an attribute. One without a namespace and one of the namespace of the prefix xml have to be as the rule says; one of the
-- schema's namespace is always wrong; those of other namespaces are passed over.
abbrev pub attribute_wrong : Schema → Rule → At Attribute → Option Wrong
attribute_wrong s rule a = if is_none a.v.name.space then wrong_by (group_values rule.attributes.now a.v.name.local) a.v
    else (if is_word xml_space a.v.name.space then wrong_by (values_of rule.xml_attributes.now a.v.name.local) a.v
    else (if is_other s.space.now a.v.name.space then None else wrong_by None a.v))

-- an attribute has that name, and no namespace
abbrev pub is_had : List ℕ → At Attribute → Bool
is_had name a = is_none a.v.name.space && bytes_eq (text a.v.name.local) name

-- there is such an attribute
abbrev pub has_attribute : List (At Attribute) → List ℕ → Bool
has_attribute attributes name = list_any (is_had name) attributes

-- how many of these attributes there are
abbrev pub count_had : List (At Attribute) → List Text → ℕ
count_had attributes names = count_by (λ (w : Text). has_attribute attributes w.now) names

-- what is wrong where there are so many of these, of which one or more are needed
abbrev pub lack_wrong : List Text → ℕ → Option Wrong
lack_wrong names n = if n == 0 then Some (Lacking (borrowed names)) else None

-- the same where no more than one may be there
abbrev pub crowd_wrong : List Text → ℕ → Option Wrong
crowd_wrong names n = if nat_lt 1 n then Some (Crowded (borrowed names)) else None

-- the same where one is needed, and no more may be there
abbrev pub one_wrong : List Text → ℕ → Option Wrong
one_wrong names n = option_or (lack_wrong names n) (crowd_wrong names n)

-- what is wrong with attributes of which these are needed
abbrev pub need_wrong : List (At Attribute) → Need → Option Wrong
need_wrong attributes (needs.AtLeastOne names) = lack_wrong names.now (count_had attributes names.now)
need_wrong attributes (needs.ExactlyOne names) = one_wrong names.now (count_had attributes names.now)

abbrev pub name_of : Element → FullName
name_of (Tagged left name attributes content) = name

-- how many bytes of the text are left where its start-tag begins
abbrev pub left_at : Element → ℕ
left_at (Tagged left name attributes content) = left

-- an element counts as one of the schema with this namespace, and has that name
abbrev pub is_named : List ℕ → List ℕ → FullName → Bool
is_named of_schema name n = not (is_other of_schema n.space) && bytes_eq (text n.local) name

-- how many elements of that name are in an element
abbrev pub count_called : List ℕ → List ℕ → Content → ℕ
count_called of_schema name (Last t) = 0
count_called of_schema name (Next t e c) = if is_named of_schema name (name_of e) then 1 + count_called of_schema name c else count_called of_schema name c

-- what is wrong where elements of that name may be there so often, and are there so often
abbrev pub times_wrong : Times → List ℕ → ℕ → Option Wrong
times_wrong Any name n = None
times_wrong AtMostOnce name n = if nat_lt 1 n then Some (Repeated name) else None
times_wrong Once name n = if n == 0 then Some (Childless name) else (if nat_lt 1 n then Some (Repeated name) else None)

-- what is wrong with how often the element of a rule is there
abbrev pub child_wrong : Schema → Content → ChildRule → Option Wrong
child_wrong s content r = times_wrong r.2 r.0.now (count_called s.space.now r.0.now content)

-- some text in an element is more than white space
abbrev pub content_has_words : Content → Bool
content_has_words (Last t) = has_words t
content_has_words (Next t e c) = has_words t || content_has_words c

abbrev pub text_wrong : Rule → Content → Option Wrong
text_wrong rule content = if not rule.holds_text && content_has_words content then Some Texts else None

-- all that is wrong with how often elements are in an element, and with its text
abbrev pub content_wrongs : Schema → Rule → Content → List Wrong
content_wrongs s rule content = filter_map (child_wrong s content) rule.children.now ++ option_to_list (text_wrong rule content)

-- the same after what it needs of its attributes
abbrev pub later_wrongs : Schema → Rule → List (At Attribute) → Content → List Wrong
later_wrongs s rule attributes content = filter_map (need_wrong attributes) rule.needs.now ++ content_wrongs s rule content

-- all that is wrong with an element itself, by its rule
abbrev pub own_wrongs : Schema → Rule → List (At Attribute) → Content → List Wrong
own_wrongs s rule attributes content = filter_map (attribute_wrong s rule) attributes ++ later_wrongs s rule attributes content

abbrev pub wrongs_of : Schema → Rule → Element → List Wrong
wrongs_of s rule (Tagged left name attributes content) = own_wrongs s rule attributes content

-- all faults of it
abbrev pub own_faults : Schema → Rule → Element → List Fault
own_faults s rule e = map (fault (left_at e)) (wrongs_of s rule e)

-- An element is passed over, may not stand where it does, or has to be as a rule says.

-- how one stands that has to be as a rule of some name says, where this rule was found, or none
abbrev pub by_found_rule : Option Rule → Standing
by_found_rule None = NotAllowed
by_found_rule (Some rule) = Under rule

-- how one stands that has to be as the rule of this name says, or that has no rule
abbrev pub by_rule_name : Schema → Option Text → Standing
by_rule_name s None = Passed
by_rule_name s (Some name) = by_found_rule (find (λ (rule : Rule). bytes_eq rule.name.now name.now) s.rules.now)

-- what a rule says of an element of that local name in one of it
abbrev pub child_rule : List ChildRule → List ℕ → Option ChildRule
child_rule rs local = find (λ (r : ChildRule). bytes_eq (text local) r.0.now) rs

-- how an element stands of which a rule says this, or of which it says nothing
abbrev pub by_child_rule : Schema → Option ChildRule → Standing
by_child_rule s None = NotAllowed
by_child_rule s (Some r) = by_rule_name s r.1

-- how an element of that name stands in one of the rule
abbrev pub standing : Schema → Rule → FullName → Standing
standing s around n = if is_other s.space.now n.space then Passed else by_child_rule s (child_rule around.children.now n.local)

-- The faults of an element that stands so in one of the rule, by those that it has where it has to be as a rule says. What is in one that may not
-- stand there is not looked at.
abbrev pub faults_where_it_stands : Rule → Standing → ℕ → (Rule → List Fault) → List Fault
faults_where_it_stands around Passed left ruled = []
faults_where_it_stands around NotAllowed left ruled = fault left (Stray around.name.now) ∷ []
faults_where_it_stands around (Under rule) left ruled = ruled rule

abbrev mutual
  -- all faults of an element that has to be as the rule says, and of what is in it
  pub ruled_faults : Schema → Rule → Element → List Fault
  ruled_faults s rule (Tagged left name attributes content) = map (fault left) (own_wrongs s rule attributes content) ++ content_faults s rule content

  -- all faults of the elements in one of the rule
  pub content_faults : Schema → Rule → Content → List Fault
  content_faults s rule (Last t) = []
  content_faults s rule (Next t e c) = faults_where_it_stands rule (standing s rule (name_of e)) (left_at e) (λ r. ruled_faults s r e) ++ content_faults s rule c

-- all faults of an element that stands so in one of the rule, and of what is in it
abbrev pub element_faults : Schema → Rule → Standing → Element → List Fault
element_faults s around st e = faults_where_it_stands around st (left_at e) (λ r. ruled_faults s r e)

-- a root is not passed over
abbrev pub as_root : Standing → Standing
as_root Passed = NotAllowed
as_root NotAllowed = NotAllowed
as_root (Under rule) = Under rule

-- all faults of a tree
abbrev pub faults : Schema → Element → List Fault
faults s root = element_faults s s.document (as_root (standing s s.document (name_of root))) root

-- the first of a list
abbrev pub first_of : {A : Type 0} → List A → Option A
first_of [] = None
first_of (x ∷ xs) = Some x
