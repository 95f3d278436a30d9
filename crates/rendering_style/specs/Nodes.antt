-- The nodes of a style: what is printed, one after the other.
use Rattle.std.specs.Prelude.{ℕ, Bool, List, [], ◌∷◌, Option, None}
use Rattle.rendering_taxonomy.specs.Formats.{Changes, unchanged}
use Rattle.rendering_locale.specs.Locales.{DatePart}
use Rattle.rendering_style.specs.Options.{NameOptions}
use Rattle.rendering_style.specs.declared.node.ChangedDatePart.{ChangedDatePart}
use Rattle.rendering_taxonomy.specs.declared.choose.ChooseMatch.{ChooseMatch}
use Rattle.rendering_taxonomy.specs.declared.choose.TestPosition.{TestPosition}
use Rattle.rendering_taxonomy.specs.declared.date.LongShortForm.{LongShortForm}
use Rattle.rendering_taxonomy.specs.declared.date.DateForm.{DateForm}
use Rattle.rendering_taxonomy.specs.declared.date.DateParts.{DateParts}
use Rattle.rendering_taxonomy.specs.declared.formatting.Display.{Display}
use Rattle.rendering_taxonomy.specs.declared.kind.Kind.{Kind}
use Rattle.rendering_taxonomy.specs.declared.locator.Locator.{Locator}
use Rattle.rendering_taxonomy.specs.declared.name.EtAlTerm.{EtAlTerm}
use Rattle.rendering_taxonomy.specs.declared.number.NumberForm.{NumberForm}
use Rattle.rendering_taxonomy.specs.declared.number.LabelPluralize.{LabelPluralize}
use Rattle.rendering_taxonomy.specs.declared.term.Term.{Term}
use Rattle.rendering_taxonomy.specs.declared.term.TermForm.{TermForm}
use Rattle.rendering_taxonomy.specs.declared.text_case.TextCase.{TextCase}
use Rattle.rendering_taxonomy.specs.declared.variable.DateVariable.{DateVariable}
use Rattle.rendering_taxonomy.specs.declared.variable.NameVariable.{NameVariable}
use Rattle.rendering_taxonomy.specs.declared.variable.Variable.{Variable}

-- how a node looks, what stands before and after what it prints, and where it stands
pub record Look : Type 0 where
  pub formatting : Changes
  pub prefix : List ℕ
  pub suffix : List ℕ
  pub display : Option Display

-- a look for which nothing is specified
abbrev pub plain_look : Look
plain_look = record { formatting = unchanged; prefix = []; suffix = []; display = None }

-- a text node's look, whether what it prints stands in quotes, whether its full stops go, and the case of its letters
pub record TextLook : Type 0 where
  pub look : Look
  pub quotes : Bool
  pub strips_periods : Bool
  pub text_case : Option TextCase

-- the answer to a variable in a form, a term in a form for one or more than one, or a text of the style's own
pub data TextSource : Type 0 where
  of_variable : Variable → LongShortForm → TextSource
  of_term : Term → TermForm → Bool → TextSource
  of_value : List ℕ → TextSource

-- the answer to a number or page variable, in a form
pub record NumberNode : Type 0 where
  pub variable : Variable
  pub form : NumberForm
  pub text_case : Option TextCase
  pub look : Look

-- the term of a variable, in a form; in the plural or not
pub record LabelLook : Type 0 where
  pub form : TermForm
  pub plural : LabelPluralize
  pub strips_periods : Bool
  pub text_case : Option TextCase
  pub look : Look

-- what changes of a part of a date: its form, whether its full stops go, the case of its letters, its look, and what stands between the
-- sides of a range that differ in it, each if it is said
pub record DatePartChange : Type 0 where
  pub part : ChangedDatePart
  pub strips_periods : Option Bool
  pub text_case : Option TextCase
  pub formatting : Changes
  pub range_delimiter : Option (List ℕ)

-- The answer to a date variable: in parts of the style's own, or in those of the locale's dates of a form; cut to so much of it. The parts
-- may be changed. The sides of a range may print once what they share.
pub record DateNode : Type 0 where
  pub variable : DateVariable
  pub form : Option DateForm
  pub parts : DateParts
  pub own_parts : List DatePart
  pub part_changes : List DatePartChange
  pub delimiter : Option (List ℕ)
  pub text_case : Option TextCase
  pub merges_ranges : Bool
  pub look : Look

-- how given names or family names look by themselves, the case of their letters, and their affixes
pub record NamePart : Type 0 where
  pub formatting : Changes
  pub text_case : Option TextCase
  pub prefix : List ℕ
  pub suffix : List ℕ

-- the options of single names, their look and affixes, and what is specified for their parts
pub record NameLook : Type 0 where
  pub options : NameOptions
  pub formatting : Changes
  pub prefix : List ℕ
  pub suffix : List ℕ
  pub given : Option NamePart
  pub family : Option NamePart

-- the term for the names left out, and its look
pub record EtAl : Type 0 where
  pub name : EtAlTerm
  pub formatting : Changes

-- Names: the variables whose people are printed; what is specified for single names, of the term for those left out, and of a label, which
-- stands before or after the names; whether editors who are the translators too are printed once; what stands between the people of two
-- variables.
pub record NamesNode : Type 0 where
  pub variables : List NameVariable
  pub name : Option NameLook
  pub et_al : Option EtAl
  pub label : Option LabelLook
  pub label_is_first : Bool
  pub merges_editor_translator : Bool
  pub delimiter : Option (List ℕ)
  pub look : Look

-- a group's look, and what stands between its children
pub record GroupNode : Type 0 where
  pub delimiter : Option (List ℕ)
  pub look : Look

-- what may be asked: a kind, whether a variable has an answer, whether that is a number, whether a date is uncertain, the label of the
-- locator, the cite's position, whether the cite is to be disambiguated
pub data Test : Type 0 where
  is_of_kind : Kind → Test
  has_answer : Variable → Test
  is_numeric : Variable → Test
  is_uncertain : DateVariable → Test
  has_locator : Locator → Test
  stands_at : TestPosition → Test
  is_alike : Test

-- tests, and how many of them have to hold
pub record Condition : Type 0 where
  pub required : ChooseMatch
  pub tests : List Test

-- a node without nodes in it
pub data Leaf : Type 0 where
  text : TextSource → TextLook → Leaf
  number : NumberNode → Leaf
  label : Variable → LabelLook → Leaf
  date : DateNode → Leaf

mutual
  -- A node without others; a macro by its name; a macro that is opened; names, and their substitute where there are none; the first
  -- branch whose condition is met; a group.
  pub data Node : Type 0 where
    leaf : Leaf → Node
    call : List ℕ → TextLook → Node
    opened : TextLook → Nodes → Node
    names : NamesNode → Nodes → Node
    choose : Branches → Node
    group : GroupNode → Nodes → Node

  -- nodes one after the other
  pub data Nodes : Type 0 where
    no_nodes : Nodes
    node : Node → Nodes → Nodes

  -- branches in the order in which they are asked, and the nodes that stand where no condition is met
  pub data Branches : Type 0 where
    otherwise : Nodes → Branches
    branch : Condition → Nodes → Branches → Branches

-- a list as it stands in a node
abbrev pub nodes_of : List Node → Nodes
nodes_of [] = no_nodes
nodes_of (x ∷ xs) = node x (nodes_of xs)
