-- Texts of valid trees: the tree of a text that has no fault by a schema, or why the text is refused.
use Rattle.std.specs.Prelude.{ℕ, List, Option, Some, None, Result, Ok, Err}
use Rattle.std.specs.Option.{option_map}
use Rattle.laws.specs.Results.{◌>>=◌}
use Rattle.xml_tree.specs.Trees.{Element}
use Rattle.xml_tree.specs.Building.{tree_of}
use Rattle.xml_tree.specs.Values as trees
use Rattle.xml_schema.specs.Faults.{Fault, faults, first_of}
use Rattle.xml_schema.specs.Placing.{placed_in}
use Rattle.xml_schema.specs.Tables.{Schema}

-- the text spells no tree, by a fault of XML and its place; or its tree has this fault first, at its place
pub data Refusal : Type 0 where
  OfText : trees.Refusal → Refusal
  OfTree : Fault → Refusal

abbrev pub as_text : Result Element trees.Refusal → Result Element Refusal
as_text (Ok e) = Ok e
as_text (Err r) = Err (OfText r)

-- a tree, or its first fault
abbrev pub unless_found : Element → Option Fault → Result Element Refusal
unless_found e None = Ok e
unless_found e (Some f) = Err (OfTree f)

-- the same where the tree is that of a text
abbrev pub checked : Schema → List ℕ → Element → Result Element Refusal
checked s cs e = unless_found e (option_map (placed_in cs) (first_of (faults s e)))

-- the valid tree of a text, or why the text is refused: its first fault
abbrev pub valid_tree_of : Schema → List ℕ → Result Element Refusal
valid_tree_of s cs = as_text (tree_of cs) >>= checked s cs
