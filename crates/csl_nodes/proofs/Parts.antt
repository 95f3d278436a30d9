-- Nodes and branches of an element, by its name and by what is in it.
use Rattle.std.proofs.Common.{◌≡◌, ℕ, Bool, true, false, cond, List, [], Option, Some, None, if◌then◌else◌, codes, refl, sym, ap, ◌∙◌}
use Rattle.std.specs.Option.{option_map_or}
use Rattle.xml_tree.specs.Trees.{Element, Tagged, Content, Last, Next}
use Rattle.xml_schema.specs.Faults.{name_of}
use Rattle.rendering_style.specs.Nodes.{Node, nodes_of}
use Rattle.rendering_style.specs.Views.{Branch}
use Rattle.csl_words.specs.Elements.{is_called, named_by, content_in, first_called}
use Rattle.csl_words.specs.Looking.{table}
use Rattle.csl_nodes.specs.Conditions.{condition}
use Rattle.csl_nodes.specs.Nodes.{node_by, is_branch, node_of, nodes_in, nodes_inside, nodes_under, branch_of, branches_in}
use Rattle.csl_nodes.specs.declared.nodes.Printing.{Printing}
use Rattle.csl_nodes.specs.declared.nodes.TheConstants.{PRINTING}

-- the node of an element of a kind
abbrev pub node_whole : List (List ℕ) → Option Printing → Element → Option Node
node_whole words kind e = node_by words kind e (nodes_in words (content_in e)) (nodes_under words (codes "substitute") (content_in e)) (branches_in words (content_in e)) (nodes_under words (codes "else") (content_in e))

pub node_is : (words : List (List ℕ)) (e : Element) → node_of words e ≡ node_whole words (named_by (table PRINTING.now) (name_of e)) e
node_is words (Tagged left name attributes content) = refl

pub node_by_kind : (words : List (List ℕ)) (e : Element) (kind : Option Printing) → kind ≡ named_by (table PRINTING.now) (name_of e) → node_whole words kind e ≡ node_of words e
node_by_kind words e kind is = ap (λ (k : Option Printing). node_whole words k e) is ∙ sym (node_is words e)

pub inside_is : (words : List (List ℕ)) (e : Element) → nodes_inside words e ≡ nodes_in words (content_in e)
inside_is words (Tagged left name attributes content) = refl

-- the nodes in the first element of a name
pub under_is : (words : List (List ℕ)) (part : List ℕ) (c : Content) → option_map_or (nodes_inside words) (first_called part c) [] ≡ nodes_under words part c
under_is words part (Last t) = refl
under_is words part (Next t e c) = by_test (is_called part (name_of e)) (under_is words part c)
  where
    by_test : (is : Bool) → option_map_or (nodes_inside words) (first_called part c) [] ≡ nodes_under words part c
        → option_map_or (nodes_inside words) (cond is (Some e) (first_called part c)) [] ≡ cond is (nodes_inside words e) (nodes_under words part c)
    by_test true rest = refl
    by_test false rest = rest

pub under_found : (words : List (List ℕ)) (part : List ℕ) (c : Content) (found : Option Element) → found ≡ first_called part c → option_map_or (nodes_inside words) found [] ≡ nodes_under words part c
under_found words part c found is = ap (λ (o : Option Element). option_map_or (nodes_inside words) o []) is ∙ under_is words part c

-- the branch that an element is
pub branch_is : (words : List (List ℕ)) (e : Element) → branch_of words e ≡ (if is_branch (name_of e) then Some (condition e, nodes_of (nodes_in words (content_in e))) else None)
branch_is words (Tagged left name attributes content) = refl
