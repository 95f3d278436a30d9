-- What the code has and returns, without where it lies in memory.
use Rattle.std.specs.Global.{Global}
use Rattle.std.specs.Prelude.{[], List, map, reverse, Vec, String}
use Rattle.laws.specs.Borrowed.{borrowed}
use Rattle.laws.specs.Text.{spelled}
use Rattle.xml_text.specs.Tokens.{At, Token}
use Rattle.xml_text.specs.Views.{placed_view, token_view}
use Rattle.xml_text.specs.declared.token.Placed.{Placed}
use Rattle.xml_text.specs.declared.token.Token as code
use Rattle.xml_tree.specs.Trees.{content_of}
use Rattle.xml_tree.specs.Views.{children_of}
use Rattle.xml_tree.specs.declared.tree.Element.{Element}
use Rattle.xml_schema.specs.Faults as faults
use Rattle.xml_schema.specs.Faults.{Stray, NoAttribute, NoValue, Lacking, Crowded, Childless, Repeated, Texts}
use Rattle.xml_schema.specs.Tables.{Rule}
use Rattle.xml_schema.specs.Waiting as specs
use Rattle.xml_schema.specs.declared.fault.Fault.{Fault}
use Rattle.xml_schema.specs.declared.fault.Wrong.{Wrong}
use Rattle.xml_schema.specs.declared.fault.Wrong.TheVariants as wrongs
use Rattle.xml_schema.specs.declared.finding.Waiting.{Waiting}

abbrev pub wrong_view : Wrong → faults.Wrong
wrong_view (wrongs.Stray name) = Stray name.now
wrong_view (wrongs.Attribute name) = NoAttribute (spelled name)
wrong_view (wrongs.Value name) = NoValue (spelled name)
wrong_view (wrongs.Lacking names) = Lacking (borrowed names.now)
wrong_view (wrongs.Crowded names) = Crowded (borrowed names.now)
wrong_view (wrongs.Childless name) = Childless name.now
wrong_view (wrongs.Repeated name) = Repeated name.now
wrong_view wrongs.Text = Texts

abbrev pub fault_view : Fault → faults.Fault
fault_view f = record { left = f.left; wrong = wrong_view f.wrong }

-- the elements of a slice, in one of the rule
abbrev pub waiting_at : Rule → List (String Global × Element) → specs.Waiting
waiting_at rule ps = specs.waits rule (content_of (children_of ps) [])

abbrev pub waiting_view : Waiting → specs.Waiting
waiting_view w = waiting_at w.rule w.rest.now

-- what waits, of which the code has the innermost last
abbrev pub waiting_of : List Waiting → List specs.Waiting
waiting_of ws = map waiting_view (reverse ws)

abbrev pub waiting_list : Vec Waiting Global → List specs.Waiting
waiting_list v = waiting_of v.items

abbrev pub tokens_view : Vec (Placed code.Token) Global → List (At Token)
tokens_view v = map (placed_view token_view) v.items
