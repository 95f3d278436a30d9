-- Nodes with their macros opened, and which styles are refused.
use Rattle.std.specs.Prelude.{◌≡◌, ℕ, zero, suc, ◌<◌, Bool, true, false, ◌&&◌, List, [], ◌∷◌, ◌++◌, length, map, find, filter_map, slice_get, Option, Some, None}
use Rattle.std.specs.List.{list_all, position}
use Rattle.std.specs.Option.{option_map, option_map_or}
use Rattle.std.specs.Str.{bytes_eq}
use Rattle.reference_graph.specs.References.{IsCircular}
use Rattle.rendering_style.specs.Nodes.{TextLook, Node, Nodes, Branches, leaf, call, opened, names, choose, group, no_nodes, node, otherwise, branch, nodes_of}
use Rattle.rendering_style.specs.Styles.{Layout, Macro, Style}

-- the nodes of the first macro of that name
abbrev pub macro_named : List Macro → List ℕ → Option Nodes
macro_named ms name = option_map (λ m. nodes_of m.nodes) (find (λ m. bytes_eq m.name name) ms)

-- each node of a list changed
abbrev pub each_node : (Node → Node) → Nodes → Nodes
each_node f no_nodes = no_nodes
each_node f (node x xs) = node (f x) (each_node f xs)

-- each node in branches changed
abbrev pub each_branch : (Node → Node) → Branches → Branches
each_branch f (otherwise xs) = otherwise (each_node f xs)
each_branch f (branch c xs bs) = branch c (each_node f xs) (each_branch f bs)

-- a macro with its nodes; a call of an unknown one stays
abbrev pub part : (Node → Node) → List ℕ → TextLook → Option Nodes → Node
part f name look None = call name look
part f name look (Some xs) = opened look (each_node f xs)

-- a node that prints nothing
abbrev pub no_node : Node
no_node = choose (otherwise no_nodes)

-- a node with its macros opened, down to so many levels of nodes; nothing is printed of what lies deeper
abbrev pub open_node : ℕ → List Macro → Node → Node
open_node zero ms x = no_node
open_node (suc n) ms (leaf l) = leaf l
open_node (suc n) ms (call name look) = part (open_node n ms) name look (macro_named ms name)
open_node (suc n) ms (opened look xs) = opened look (each_node (open_node n ms) xs)
open_node (suc n) ms (names h xs) = names h (each_node (open_node n ms) xs)
open_node (suc n) ms (choose bs) = choose (each_branch (open_node n ms) bs)
open_node (suc n) ms (group g xs) = group g (each_node (open_node n ms) xs)

-- whether each node of a list passes a test
abbrev pub all_nodes : (Node → Bool) → Nodes → Bool
all_nodes test no_nodes = true
all_nodes test (node x xs) = test x && all_nodes test xs

-- whether each node in branches passes a test
abbrev pub all_branches : (Node → Bool) → Branches → Bool
all_branches test (otherwise xs) = all_nodes test xs
all_branches test (branch c xs bs) = all_nodes test xs && all_branches test bs

-- whether a node has at most so many levels, once its macros are opened
abbrev pub fits : ℕ → List Macro → Node → Bool
fits zero ms x = false
fits (suc n) ms (leaf l) = true
fits (suc n) ms (call name look) = option_map_or (all_nodes (fits n ms)) (macro_named ms name) true
fits (suc n) ms (opened look xs) = all_nodes (fits n ms) xs
fits (suc n) ms (names h xs) = all_nodes (fits n ms) xs
fits (suc n) ms (choose bs) = all_branches (fits n ms) bs
fits (suc n) ms (group g xs) = all_nodes (fits n ms) xs

-- the most levels that a style may have
abbrev pub limit : ℕ
limit = 200

-- nodes as they are printed
abbrev pub opened_nodes : List Macro → List Node → Nodes
opened_nodes ms xs = nodes_of (map (open_node limit ms) xs)

-- deeper opening changes nothing where so many levels are enough
abbrev pub OpeningDeeperChangesNothing : Type 0
OpeningDeeperChangesNothing = (n : ℕ) (ms : List Macro) (x : Node) → fits n ms x ≡ true → open_node (suc n) ms x ≡ open_node n ms x

abbrev mutual
  -- the names of the macros that a node calls
  pub calls_in : Node → List (List ℕ)
  calls_in (leaf l) = []
  calls_in (call name look) = name ∷ []
  calls_in (opened look xs) = calls xs
  calls_in (names h xs) = calls xs
  calls_in (choose bs) = calls_of_branches bs
  calls_in (group g xs) = calls xs

  -- the names of the macros that nodes call
  pub calls : Nodes → List (List ℕ)
  calls no_nodes = []
  calls (node x xs) = calls_in x ++ calls xs

  -- the names of the macros that the nodes of branches call
  pub calls_of_branches : Branches → List (List ℕ)
  calls_of_branches (otherwise xs) = calls xs
  calls_of_branches (branch c xs bs) = calls xs ++ calls_of_branches bs

-- the index of the first macro of that name
abbrev pub index_of : List Macro → List ℕ → Option ℕ
index_of ms name = position (λ m. bytes_eq m.name name) ms

-- the macros that each calls, by their indices
abbrev pub references : List Macro → List (List ℕ)
references ms = map (λ m. filter_map (index_of ms) (calls (nodes_of m.nodes))) ms

-- why a style is refused: a macro that reaches itself, or too many levels
pub data Refusal : Type 0 where
  macro_ring : List ℕ → Refusal
  too_deep : Refusal

-- the macro at an index reaches itself, and none before it does
pub record IsFirstRing (ms : List Macro) (i : ℕ) : Type 0 where
  pub there : i < length ms
  pub ring : IsCircular (references ms) i
  pub first : (j : ℕ) → j < i → IsCircular (references ms) j → ⊥

-- whether a layout has at most so many levels
abbrev pub layout_fits : List Macro → Layout → Bool
layout_fits ms l = list_all (fits limit ms) l.nodes

-- whether each layout has, and each macro; of equal names the first counts
abbrev pub style_fits : Style → Bool
style_fits s =
    layout_fits s.macros s.citation.layout
    && option_map_or (λ b. layout_fits s.macros b.layout) s.bibliography true
    && list_all (λ m. option_map_or (all_nodes (fits limit s.macros)) (macro_named s.macros m.name) true) s.macros

-- What is answered to the parts of a style: a refusal for the first ring, else one for its levels, else the style.
abbrev pub IsAnswer : Style → Option Refusal → Type 0
IsAnswer s None = ((i : ℕ) → IsCircular (references s.macros) i → ⊥) × (style_fits s ≡ true)
IsAnswer s (Some too_deep) = ((i : ℕ) → IsCircular (references s.macros) i → ⊥) × (style_fits s ≡ false)
IsAnswer s (Some (macro_ring name)) = (i : ℕ) × IsFirstRing s.macros i × (option_map (λ m. m.name) (slice_get s.macros i) ≡ Some name)
