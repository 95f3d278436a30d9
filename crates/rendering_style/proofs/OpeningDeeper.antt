-- Opening deeper changes nothing.
use Rattle.std.proofs.Common.{◌≡◌, ℕ, zero, suc, Bool, true, List, Option, Some, None, refl, ap}
use Rattle.std.proofs.lemmas.Bool.{and_parts}
use Rattle.std.specs.Option.{option_map_or}
use Rattle.rendering_style.specs.Nodes.{TextLook, Node, Nodes, Branches, leaf, call, opened, names, choose, group, no_nodes, node, otherwise, branch}
use Rattle.rendering_style.specs.Styles.{Macro}
use Rattle.rendering_style.specs.Opening.{macro_named, each_node, each_branch, part, open_node, all_nodes, all_branches, fits}

each_same : (f g : Node → Node) (test : Node → Bool) → ((x : Node) → test x ≡ true → f x ≡ g x) → (xs : Nodes) → all_nodes test xs ≡ true → each_node f xs ≡ each_node g xs
each_same f g test h no_nodes t = refl
each_same f g test h (node x xs) t =
    let p = and_parts (test x) (all_nodes test xs) t in
    λ i. node (h x p.0 i) (each_same f g test h xs p.1 i)

branches_same : (f g : Node → Node) (test : Node → Bool) → ((x : Node) → test x ≡ true → f x ≡ g x) → (bs : Branches) → all_branches test bs ≡ true → each_branch f bs ≡ each_branch g bs
branches_same f g test h (otherwise xs) t = ap otherwise (each_same f g test h xs t)
branches_same f g test h (branch c xs bs) t =
    let p = and_parts (all_nodes test xs) (all_branches test bs) t in
    λ i. branch c (each_same f g test h xs p.0 i) (branches_same f g test h bs p.1 i)

part_same : (f g : Node → Node) (test : Node → Bool) → ((x : Node) → test x ≡ true → f x ≡ g x) → (name : List ℕ) (look : TextLook) (m : Option Nodes) → option_map_or (all_nodes test) m true ≡ true → part f name look m ≡ part g name look m
part_same f g test h name look None t = refl
part_same f g test h name look (Some xs) t = ap (λ ys. opened look ys) (each_same f g test h xs t)

pub deeper : (n : ℕ) (ms : List Macro) (x : Node) → fits n ms x ≡ true → open_node (suc n) ms x ≡ open_node n ms x
deeper zero ms x t = cc
deeper (suc n) ms (leaf l) t = refl
deeper (suc n) ms (call name look) t = part_same (open_node (suc n) ms) (open_node n ms) (fits n ms) (deeper n ms) name look (macro_named ms name) t
deeper (suc n) ms (opened look xs) t = ap (λ ys. opened look ys) (each_same (open_node (suc n) ms) (open_node n ms) (fits n ms) (deeper n ms) xs t)
deeper (suc n) ms (names h xs) t = ap (λ ys. names h ys) (each_same (open_node (suc n) ms) (open_node n ms) (fits n ms) (deeper n ms) xs t)
deeper (suc n) ms (choose bs) t = ap choose (branches_same (open_node (suc n) ms) (open_node n ms) (fits n ms) (deeper n ms) bs t)
deeper (suc n) ms (group g xs) t = ap (λ ys. group g ys) (each_same (open_node (suc n) ms) (open_node n ms) (fits n ms) (deeper n ms) xs t)
