-- What a style names of entries, and when two entries answer alike to it.
use Rattle.std.specs.Prelude.{◌≡◌, Bool, true, false, ◌||◌, List, [], ◌∷◌, ◌++◌, map, if◌then◌else◌, Contains}
use Rattle.rendering_entries.specs.Answers.{Answers}
use Rattle.rendering_style.specs.Nodes.{TextSource, of_variable, of_term, of_value, Test, Condition, Leaf, Node, Nodes, Branches, leaf, call, opened, names, choose, group, no_nodes, node, otherwise, branch}
use Rattle.rendering_style.specs.Nodes as nodes
use Rattle.rendering_nodes.specs.Admission.{is_suffix_variable}
use Rattle.rendering_taxonomy.specs.declared.date.LongShortForm.{LongShortForm}
use Rattle.rendering_taxonomy.specs.declared.kind.Kind.{Kind}
use Rattle.rendering_taxonomy.specs.declared.variable.DateVariable.TheVariants as date
use Rattle.rendering_taxonomy.specs.declared.variable.NameVariable.{NameVariable}
use Rattle.rendering_taxonomy.specs.declared.variable.NameVariable.TheVariants as name
use Rattle.rendering_taxonomy.specs.declared.variable.StandardVariable.TheVariants as standard
use Rattle.rendering_taxonomy.specs.declared.variable.Variable.{Variable}
use Rattle.rendering_taxonomy.specs.declared.variable.Variable.TheVariants as variables

-- variables, kinds, and variables of which it counts how they were written
pub record Named : Type 0 where
  pub variables : List Variable
  pub kinds : List Kind
  pub written : List Variable

-- no variable and no kind
abbrev pub none_named : Named
none_named = record { variables = []; kinds = []; written = [] }

-- one variable
abbrev pub variable_named : Variable → Named
variable_named v = record { variables = v ∷ []; kinds = []; written = [] }

-- all that two name
abbrev pub joined_named : Named → Named → Named
joined_named a b = record {
  variables = a.variables ++ b.variables;
  kinds = a.kinds ++ b.kinds;
  written = a.written ++ b.written;
}

-- the same, where it counts how numbers and pages were written, or does not
abbrev pub as_printed : Bool → Named → Named
as_printed is_published n = record n { written = if is_published then n.variables else [] }

-- the people of variables
abbrev pub people_named : List NameVariable → Named
people_named vs =
    record { variables = map (λ v. variables.Name v) vs; kinds = []; written = [] }

-- one kind
abbrev pub kind_named : Kind → Named
kind_named k = record { variables = []; kinds = k ∷ []; written = [] }

-- what a test names
abbrev pub named_in_test : Test → Named
named_in_test (nodes.is_of_kind k) = kind_named k
named_in_test (nodes.has_answer v) = variable_named v
named_in_test (nodes.is_numeric v) = variable_named v
named_in_test (nodes.is_uncertain v) = variable_named (variables.Date v)
named_in_test t = none_named

-- what tests name
abbrev pub named_in_tests : List Test → Named
named_in_tests [] = none_named
named_in_tests (t ∷ ts) = joined_named (named_in_test t) (named_in_tests ts)

-- what a text names
abbrev pub named_in_source : TextSource → Named
named_in_source (of_variable v form) = variable_named v
named_in_source (of_term name form plural) = none_named
named_in_source (of_value cs) = none_named

-- what a node without others names
abbrev pub named_in_leaf : Leaf → Named
named_in_leaf (nodes.text source look) = named_in_source source
named_in_leaf (nodes.number n) = variable_named n.variable
named_in_leaf (nodes.label v look) = variable_named v
named_in_leaf (nodes.date d) = variable_named (variables.Date d.variable)

abbrev mutual
  -- what a node names
  pub named_in : Node → Named
  named_in (leaf l) = named_in_leaf l
  named_in (call name look) = none_named
  named_in (opened look xs) = named xs
  named_in (names h xs) = joined_named (people_named h.variables) (named xs)
  named_in (choose bs) = named_in_branches bs
  named_in (group g xs) = named xs

  -- what a list of nodes names
  pub named : Nodes → Named
  named no_nodes = none_named
  named (node x xs) = joined_named (named_in x) (named xs)

  -- what branches name, those that are not taken too
  pub named_in_branches : Branches → Named
  named_in_branches (otherwise xs) = named xs
  named_in_branches (branch c xs bs) = joined_named (named_in_tests c.tests) (joined_named (named xs) (named_in_branches bs))

-- what is named by every style: purposes, suffixes and identifiers ask for it
abbrev pub always_named : Named
always_named = record {
  variables =
      variables.Name name.Author ∷ variables.Name name.Editor
      ∷ variables.Date date.Issued ∷ variables.Date date.Accessed ∷ variables.Date date.AvailableDate
      ∷ variables.Date date.EventDate ∷ variables.Date date.Submitted ∷ variables.Date date.OriginalDate
      ∷ variables.Standard standard.CitationLabel ∷ [];
  kinds = [];
  written = [];
}

-- two entries answer one variable alike, in all forms
abbrev pub AnswerAlike : Answers → Answers → Variable → Type 0
AnswerAlike a b (variables.Standard v) = (form : LongShortForm) → a.standard form v ≡ b.standard form v
AnswerAlike a b (variables.Number v) = a.number v ≡ b.number v
AnswerAlike a b variables.Page = a.pages ≡ b.pages
AnswerAlike a b (variables.Name v) = a.people v ≡ b.people v
AnswerAlike a b (variables.Date v) = a.date v ≡ b.date v

-- two entries answer alike to all that is named, as it was written where that counts, and to whether they are in English
pub record AreAlike (n : Named) (a b : Answers) : Type 0 where
  pub variables : (v : Variable) → Contains n.variables v → AnswerAlike a b v
  pub written : (v : Variable) → Contains n.written v → a.written v ≡ b.written v
  pub kinds : (k : Kind) → Contains n.kinds k → a.kind k ≡ b.kind k
  pub english : a.english ≡ b.english

-- whether a leaf prints the year suffix by itself
abbrev pub is_suffix_leaf : Leaf → Bool
is_suffix_leaf (nodes.text (of_variable v form) look) = is_suffix_variable v
is_suffix_leaf l = false

abbrev mutual
  -- whether a node holds such a leaf, in a branch that is taken or in another one
  pub has_suffix_in : Node → Bool
  has_suffix_in (leaf l) = is_suffix_leaf l
  has_suffix_in (call name look) = false
  has_suffix_in (opened look xs) = has_suffix xs
  has_suffix_in (names h xs) = has_suffix xs
  has_suffix_in (choose bs) = has_suffix_in_branches bs
  has_suffix_in (group g xs) = has_suffix xs

  -- whether one of the nodes holds such a leaf
  pub has_suffix : Nodes → Bool
  has_suffix no_nodes = false
  has_suffix (node x xs) = has_suffix_in x || has_suffix xs

  -- whether a node in one of the branches holds such a leaf
  pub has_suffix_in_branches : Branches → Bool
  has_suffix_in_branches (otherwise xs) = has_suffix xs
  has_suffix_in_branches (branch c xs bs) = has_suffix xs || has_suffix_in_branches bs

-- a text of the style's own or of the locale
abbrev pub is_word_source : TextSource → Bool
is_word_source (of_variable v form) = false
is_word_source (of_term name form plural) = true
is_word_source (of_value cs) = true

-- whether a leaf prints such a text
abbrev pub is_word_leaf : Leaf → Bool
is_word_leaf (nodes.text source look) = is_word_source source
is_word_leaf l = false

abbrev mutual
  -- whether a node prints words of the style or of the locale
  pub has_words_in : Node → Bool
  has_words_in (leaf l) = is_word_leaf l
  has_words_in (call name look) = false
  has_words_in (opened look xs) = has_words xs
  has_words_in (names h xs) = has_words xs
  has_words_in (choose bs) = has_words_in_branches bs
  has_words_in (group g xs) = has_words xs

  -- whether one of the nodes prints such words
  pub has_words : Nodes → Bool
  has_words no_nodes = false
  has_words (node x xs) = has_words_in x || has_words xs

  -- whether a node in one of the branches prints such words
  pub has_words_in_branches : Branches → Bool
  has_words_in_branches (otherwise xs) = has_words xs
  has_words_in_branches (branch c xs bs) = has_words xs || has_words_in_branches bs
