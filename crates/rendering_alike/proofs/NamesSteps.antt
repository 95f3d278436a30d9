-- What is named by one more node, branch or test.
use Rattle.std.proofs.Common.{◌≡◌, ℕ, ◌+◌, ◌-◌, ◌<◌, ◌≢◌, List, map, length, get_or, drop, Vec, sym, ap, ◌∙◌}
use Rattle.std.specs.Global.{Global}
use Rattle.std.proofs.lemmas.List.{at_drop_more}
use Rattle.std.proofs.lemmas.List.Sums.{fold-append}
use Rattle.rendering_leaves.specs.NodeSettings.{with_variable}
use Rattle.rendering_nodes.specs.Named.{Named, joined_named, named, named_in, named_in_branches, named_in_test, named_in_tests, variable_named}
use Rattle.rendering_nodes.proofs.OpenedSteps.{open_choose, open_names, opened_all}
use Rattle.rendering_style.specs.Nodes.{Node, Nodes}
use Rattle.rendering_style.specs.Opening.{each_branch, each_node, open_node}
use Rattle.rendering_style.specs.Styles.{Macro, Style}
use Rattle.rendering_style.specs.Views.{branch_view, branches_of, layout_view, node_view, nodes_view, test_view}
use Rattle.rendering_style.specs.declared.node.ChooseBranch.{ChooseBranch}
use Rattle.rendering_style.specs.declared.node.ChooseTest.{ChooseTest}
use Rattle.rendering_style.specs.declared.node.Names.{Names}
use Rattle.rendering_style.specs.declared.node.Node as viewed
use Rattle.rendering_style.specs.declared.node.Node.TheVariants as variants
use Rattle.rendering_style.specs.declared.parts.Layout.{Layout}
use Rattle.rendering_taxonomy.specs.declared.variable.NameVariable.{NameVariable}
use Rattle.rendering_taxonomy.specs.declared.variable.Variable.TheVariants as variables
use Rattle.rendering.specs.Purposes.{layout_nodes}
use Rattle.rendering_alike.specs.Naming.{people_named, with_kind, with_named}

-- all that two name, one after the other
pub both_named : (n a b : Named) → with_named n (joined_named a b) ≡ with_named (with_named n a) b
both_named n a b = λ i. record n {
  variables = fold-append with_variable n.variables a.variables b.variables i;
  kinds = fold-append with_kind n.kinds a.kinds b.kinds i;
}

module _ (n new : Named) where
  pub next_node : (f : Node → Node) (xs : List viewed.Node) (i : ℕ) (x : viewed.Node) → i < length xs → x ≡ get_or xs i x → new ≡ with_named n (named_in (f (node_view x)))
      → with_named n (named (each_node f (nodes_view (drop i xs)))) ≡ with_named new (named (each_node f (nodes_view (drop (i + 1) xs))))
  next_node f xs i x low is e =
      let rest = named (each_node f (nodes_view (drop (i + 1) xs))) in
      ap (with_named n) (at_drop_more (λ ys. named (each_node f (nodes_view ys))) xs i x low ∙ ap (λ y. joined_named (named_in (f (node_view y))) rest) (sym is))
      ∙ both_named n (named_in (f (node_view x))) rest
      ∙ ap (λ m. with_named m rest) (sym e)

  pub next_branch : (f : Node → Node) (bs : List ChooseBranch) (xs : Nodes) (i : ℕ) (b : ChooseBranch) → i < length bs → b ≡ get_or bs i b
      → new ≡ with_named (with_named n (named_in_tests (branch_view b).0.tests)) (named (each_node f (branch_view b).1))
      → with_named n (named_in_branches (each_branch f (branches_of (map branch_view (drop i bs)) xs)))
      ≡ with_named new (named_in_branches (each_branch f (branches_of (map branch_view (drop (i + 1) bs)) xs)))
  next_branch f bs xs i b low is e =
      let rest = named_in_branches (each_branch f (branches_of (map branch_view (drop (i + 1) bs)) xs)) in
      let tests = named_in_tests (branch_view b).0.tests in
      let inside = named (each_node f (branch_view b).1) in
      ap (with_named n)
      (at_drop_more (λ cs. named_in_branches (each_branch f (branches_of (map branch_view cs) xs))) bs i b low
      ∙ ap (λ c. joined_named (named_in_tests (branch_view c).0.tests) (joined_named (named (each_node f (branch_view c).1)) rest)) (sym is))
      ∙ both_named n tests (joined_named inside rest)
      ∙ both_named (with_named n tests) inside rest
      ∙ ap (λ m. with_named m rest) (sym e)

  pub next_test : (ts : List ChooseTest) (i : ℕ) (d : ChooseTest) → i < length ts → new ≡ with_named n (named_in_test (test_view (get_or ts i d)))
      → with_named n (named_in_tests (map test_view (drop i ts))) ≡ with_named new (named_in_tests (map test_view (drop (i + 1) ts)))
  next_test ts i d low e =
      let rest = named_in_tests (map test_view (drop (i + 1) ts)) in
      ap (with_named n) (at_drop_more (λ us. named_in_tests (map test_view us)) ts i d low)
      ∙ both_named n (named_in_test (test_view (get_or ts i d))) rest
      ∙ ap (λ m. with_named m rest) (sym e)

  pub next_people : (vs : List NameVariable) (i : ℕ) (d : NameVariable) → i < length vs → new ≡ with_named n (variable_named (variables.Name (get_or vs i d)))
      → with_named n (people_named (drop i vs)) ≡ with_named new (people_named (drop (i + 1) vs))
  next_people vs i d low e =
      let rest = people_named (drop (i + 1) vs) in
      ap (with_named n) (at_drop_more people_named vs i d low)
      ∙ both_named n (variable_named (variables.Name (get_or vs i d))) rest
      ∙ ap (λ m. with_named m rest) (sym e)

  module _ (levels : ℕ) (ms : List Macro) (some : levels ≢ 0) (mid : Named) (node : viewed.Node) where
    -- names, and then their substitute
    pub names_named : (h : Names) (xs : Vec viewed.Node Global) (people : List NameVariable) (inside : List viewed.Node) → node ≡ variants.Names h xs → people ≡ h.variables.items → inside ≡ xs.items
        → mid ≡ with_named n (people_named people) → new ≡ with_named mid (named (each_node (open_node (levels - 1) ms) (nodes_view inside)))
        → new ≡ with_named n (named_in (open_node levels ms (node_view node)))
    names_named h xs people inside is are same first e =
        let f = open_node (levels - 1) ms in
        e
        ∙ (λ i. with_named (first i) (named (each_node f (nodes_view (same i)))))
        ∙ (λ i. with_named (with_named n (people_named (are i))) (named (each_node f (nodes_view xs.items))))
        ∙ sym (both_named n (people_named h.variables.items) (named (each_node f (nodes_view xs.items))))
        ∙ ap (λ x. with_named n (named_in x)) (sym (ap (λ y. open_node levels ms (node_view y)) is ∙ open_names levels ms h xs some))

    -- branches, and then what stands where none is taken
    pub choose_named : (bs : Vec ChooseBranch Global) (xs : Vec viewed.Node Global) (branches : List ChooseBranch) (inside : List viewed.Node) → node ≡ variants.Choose bs xs → branches ≡ bs.items → inside ≡ xs.items
        → ((ys : Nodes) → with_named mid (named (each_node (open_node (levels - 1) ms) ys)) ≡ with_named n (named_in_branches (each_branch (open_node (levels - 1) ms) (branches_of (map branch_view branches) ys))))
        → new ≡ with_named mid (named (each_node (open_node (levels - 1) ms) (nodes_view inside)))
        → new ≡ with_named n (named_in (open_node levels ms (node_view node)))
    choose_named bs xs branches inside is are same first e =
        let f = open_node (levels - 1) ms in
        e
        ∙ first (nodes_view inside)
        ∙ (λ i. with_named n (named_in_branches (each_branch f (branches_of (map branch_view (are i)) (nodes_view (same i))))))
        ∙ ap (λ x. with_named n (named_in x)) (sym (ap (λ y. open_node levels ms (node_view y)) is ∙ open_choose levels ms bs xs some))

-- the nodes of a layout, as they are opened
pub layout_named : (s : Style) (l : Layout) (n new : Named) (inside : List viewed.Node) → inside ≡ l.nodes.items → new ≡ with_named n (named (each_node (open_node 200 s.macros) (nodes_view inside)))
    → new ≡ with_named n (named (layout_nodes s (layout_view l)))
layout_named s l n new inside same e =
    e
    ∙ ap (λ xs. with_named n (named (each_node (open_node 200 s.macros) (nodes_view xs)))) same
    ∙ ap (λ ys. with_named n (named ys)) (opened_all s.macros l.nodes.items)
