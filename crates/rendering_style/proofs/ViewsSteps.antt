-- One more node or branch of a list.
use Rattle.std.proofs.Common.{◌≡◌, ℕ, ◌+◌, ◌<◌, List, [], ◌∷◌, ◌++◌, map, length, get_or, drop, Option, Some, None, refl, sym, ap, ◌∙◌}
use Rattle.std.specs.List.{filter_map, cons_option}
use Rattle.std.specs.Option.{option_to_list}
use Rattle.std.proofs.lemmas.List.{at_drop_more, append_assoc}
use Rattle.std.proofs.lemmas.List.Elements.{filter_map-append}
use Rattle.rendering_style.specs.Nodes.{Nodes}
use Rattle.rendering_style.specs.Opening.{calls, calls_in, calls_of_branches}
use Rattle.rendering_style.specs.Views.{node_view, nodes_view, branch_view, branches_of}
use Rattle.rendering_style.specs.declared.node.Node.{Node}
use Rattle.rendering_style.specs.declared.node.ChooseBranch.{ChooseBranch}

both_give : (p : List ℕ → Option ℕ) (xs ys : List (List ℕ)) (found new : List ℕ) → new ≡ found ++ filter_map p xs → found ++ filter_map p (xs ++ ys) ≡ new ++ filter_map p ys
both_give p xs ys found new e =
    ap (λ zs. found ++ zs) (filter_map-append p xs ys) ∙ (sym (append_assoc found (filter_map p xs) (filter_map p ys)) ∙ ap (λ zs. zs ++ filter_map p ys) (sym e))

one_to_list : (o : Option ℕ) → option_to_list o ≡ cons_option o []
one_to_list None = refl
one_to_list (Some i) = refl

-- the call of a macro is found
pub call_found : (p : List ℕ → Option ℕ) (name asked : List ℕ) (o : Option ℕ) (found new : List ℕ) → asked ≡ name → o ≡ p asked → new ≡ found ++ option_to_list o → new ≡ found ++ filter_map p (name ∷ [])
call_found p name asked o found new is e h = h ∙ ap (λ zs. found ++ zs) (one_to_list o ∙ ap (λ q. cons_option q []) (e ∙ ap p is))

-- the calls of a node are found, those of the nodes after it are left
pub calls_next : (p : List ℕ → Option ℕ) (xs : List Node) (i : ℕ) (x : Node) (found new : List ℕ) → i < length xs → x ≡ get_or xs i x → new ≡ found ++ filter_map p (calls_in (node_view x))
    → found ++ filter_map p (calls (nodes_view (drop i xs))) ≡ new ++ filter_map p (calls (nodes_view (drop (i + 1) xs)))
calls_next p xs i x found new low is e =
    ap (λ cs. found ++ filter_map p cs) (at_drop_more (λ ys. calls (nodes_view ys)) xs i x low ∙ ap (λ y. calls_in (node_view y) ++ calls (nodes_view (drop (i + 1) xs))) (sym is))
    ∙ both_give p (calls_in (node_view x)) (calls (nodes_view (drop (i + 1) xs))) found new e

-- the same of a branch
pub branch_calls_next : (p : List ℕ → Option ℕ) (bs : List ChooseBranch) (xs : Nodes) (i : ℕ) (b : ChooseBranch) (found new : List ℕ) → i < length bs → b ≡ get_or bs i b → new ≡ found ++ filter_map p (calls (nodes_view b.children.items))
    → found ++ filter_map p (calls_of_branches (branches_of (map branch_view (drop i bs)) xs)) ≡ new ++ filter_map p (calls_of_branches (branches_of (map branch_view (drop (i + 1) bs)) xs))
branch_calls_next p bs xs i b found new low is e =
    ap (λ cs. found ++ filter_map p cs)
    (at_drop_more (λ cs. calls_of_branches (branches_of (map branch_view cs) xs)) bs i b low ∙ ap (λ c. calls (nodes_view c.children.items) ++ calls_of_branches (branches_of (map branch_view (drop (i + 1) bs)) xs)) (sym is))
    ∙ both_give p (calls (nodes_view b.children.items)) (calls_of_branches (branches_of (map branch_view (drop (i + 1) bs)) xs)) found new e
