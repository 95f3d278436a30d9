-- Nodes and branches for sorting, one level at a time.
use Rattle.std.proofs.Common.{◌≡◌, Bool, List, [], ◌∷◌, length, map, Vec, refl, sym, ap, ◌∙◌, rules}
use Rattle.std.specs.Global.{Global}
use Rattle.std.specs.Vec.{with_items}
use Rattle.std.proofs.lemmas.List.{with_items_is}
use Rattle.rendering_style.specs.Nodes as nodes
use Rattle.rendering_style.specs.Nodes.{Nodes, nodes_of}
use Rattle.rendering_style.specs.Views.{Branch, node_view, nodes_view, branch_view, branches_of, condition_view, names_node_view, group_node_view}
use Rattle.rendering_style.specs.declared.node.Node.{Node, the_lemmas}
use Rattle.rendering_style.specs.declared.node.Node.TheOpen.{ChooseBranch-F}
use Rattle.rendering_style.specs.declared.node.Node.TheVariants as variants
use Rattle.rendering_style.specs.declared.node.ChooseBranch.{ChooseBranch, roll-ChooseBranch}
use Rattle.rendering_style.specs.declared.node.Group.{Group}
use Rattle.rendering_style.specs.declared.node.Names.{Names}
use Rattle.sorting_styles.specs.Nodes.{sorting_branch, sorting_branches, sorting_names, sorting_node, sorting_nodes}

viewed-names : (h : Names) (xs : Vec Node Global) → node_view (variants.Names h xs) ≡ nodes.names (names_node_view h) (nodes_view xs.items)
viewed-names h xs = search (rules, the_lemmas)

viewed-choose : (bs : Vec ChooseBranch Global) (xs : Vec Node Global) → node_view (variants.Choose bs xs) ≡ nodes.choose (branches_of (map branch_view bs.items) (nodes_view xs.items))
viewed-choose bs xs = search (rules, the_lemmas)

viewed-group : (g : Group) (xs : Vec Node Global) → node_view (variants.Group g xs) ≡ nodes.group (group_node_view g) (nodes_view xs.items)
viewed-group g xs = search (rules, the_lemmas)

-- a list of nodes, each for sorting
pub each_sorting : (xs : List nodes.Node) → nodes_of (map sorting_node xs) ≡ sorting_nodes (nodes_of xs)
each_sorting [] = refl
each_sorting (x ∷ xs) = ap (nodes.node (sorting_node x)) (each_sorting xs)

pub nodes_sorting : (old new : List Node) → map node_view new ≡ map sorting_node (map node_view old) → nodes_view new ≡ sorting_nodes (nodes_view old)
nodes_sorting old new h = ap nodes_of h ∙ each_sorting (map node_view old)

-- branches, each for sorting
pub branches_sorting : (bs : List Branch) (xs : Nodes) → branches_of (map sorting_branch bs) (sorting_nodes xs) ≡ sorting_branches (branches_of bs xs)
branches_sorting [] xs = refl
branches_sorting (b ∷ bs) xs = ap (nodes.branch b.0 (sorting_nodes b.1)) (branches_sorting bs xs)

-- a vector whose items were changed where they lie
held : (v s : Vec Node Global) (now new : List Node) → v ≡ s → now ≡ v.items → length new ≡ length now → (with_items v new).items ≡ new
held v s now new same is long = with_items_is v new (long ∙ (ap length is ∙ sym v.ok.0))

module _ (x : Node) where
  -- names that were changed where they lie
  pub names_changed : (n k m : Names) (s v : Vec Node Global) (now new : List Node) → x ≡ variants.Names n s → k ≡ n → v ≡ s → names_node_view m ≡ sorting_names (names_node_view k) → now ≡ v.items → length new ≡ length now
      → map node_view new ≡ map sorting_node (map node_view now) → node_view (variants.Names m (with_items v new)) ≡ sorting_node (node_view x)
  names_changed n k m s v now new is same_names same made from long h =
      viewed-names m (with_items v new)
      ∙ (λ i. nodes.names ((made ∙ ap (λ z. sorting_names (names_node_view z)) same_names) i) ((ap nodes_view (held v s now new same from long) ∙ nodes_sorting now new h ∙ ap (λ z. sorting_nodes (nodes_view z)) (from ∙ ap (λ z. z.items) same)) i))
      ∙ sym (ap sorting_node (ap node_view is ∙ viewed-names n s))

  -- a group whose nodes were changed where they lie, however it was put together
  pub group_changed : (g : Group) (s : Vec Node Global) (now new : List Node) {z : nodes.Node} → x ≡ variants.Group g s → z ≡ node_view (variants.Group g (with_items s new)) → now ≡ s.items → length new ≡ length now
      → map node_view new ≡ map sorting_node (map node_view now) → z ≡ sorting_node (node_view x)
  group_changed g s now new is made from long h =
      made
      ∙ viewed-group g (with_items s new)
      ∙ ap (nodes.group (group_node_view g)) (ap nodes_view (held s s now new refl from long) ∙ nodes_sorting now new h ∙ ap (λ zs. sorting_nodes (nodes_view zs)) from)
      ∙ sym (ap sorting_node (ap node_view is ∙ viewed-group g s))

  pub choose_changed : (bs cs : Vec ChooseBranch Global) (s v : Vec Node Global) (bnow bnew : List ChooseBranch) (now new : List Node) → x ≡ variants.Choose bs s → cs ≡ bs → v ≡ s
      → bnow ≡ cs.items → length bnew ≡ length bnow → map branch_view bnew ≡ map sorting_branch (map branch_view bnow)
      → now ≡ v.items → length new ≡ length now → map node_view new ≡ map sorting_node (map node_view now)
      → node_view (variants.Choose (with_items cs bnew) (with_items v new)) ≡ sorting_node (node_view x)
  choose_changed bs cs s v bnow bnew now new is same_branches same bfrom blong bh from long h =
      viewed-choose (with_items cs bnew) (with_items v new)
      ∙ (λ i. nodes.choose (branches_of
      ((ap (map branch_view) (with_items_is cs bnew (blong ∙ (ap length bfrom ∙ sym cs.ok.0))) ∙ bh ∙ ap (λ z. map sorting_branch (map branch_view z)) (bfrom ∙ ap (λ z. z.items) same_branches)) i)
      ((ap nodes_view (held v s now new same from long) ∙ nodes_sorting now new h ∙ ap (λ z. sorting_nodes (nodes_view z)) (from ∙ ap (λ z. z.items) same)) i)))
      ∙ ap nodes.choose (branches_sorting (map branch_view bs.items) (nodes_view s.items))
      ∙ sym (ap sorting_node (ap node_view is ∙ viewed-choose bs s))

-- a branch that was put together
branch_rolled : (r : ChooseBranch-F Node ChooseBranch) → branch_view (roll-ChooseBranch r) ≡ (condition_view r.condition, nodes_view r.children.items)
branch_rolled r = search (rules, the_lemmas)

-- a branch whose nodes were changed where they lie
pub branch_changed : (b : ChooseBranch) (v : Vec Node Global) (now new : List Node) → v ≡ b.children → now ≡ v.items → length new ≡ length now
    → map node_view new ≡ map sorting_node (map node_view now) → branch_view (roll-ChooseBranch record { condition = b.condition; children = with_items v new }) ≡ sorting_branch (branch_view b)
branch_changed b v now new same from long h =
    branch_rolled (record { condition = b.condition; children = with_items v new })
    ∙ ap (λ xs. (condition_view b.condition, xs)) (ap nodes_view (held v b.children now new same from long) ∙ nodes_sorting now new h ∙ ap (λ z. sorting_nodes (nodes_view z)) (from ∙ ap (λ z. z.items) same))
