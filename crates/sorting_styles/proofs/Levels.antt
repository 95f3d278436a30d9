-- A style for sorting calls the same macros and has the same levels, and so it is refused where the style is.
use Rattle.std.proofs.Common.{◌≡◌, ℕ, zero, suc, ◌+◌, Bool, true, false, cond, not, ◌&&◌, ltb, List, [], ◌∷◌, ◌++◌, find, map, Option, Some, None, refl, ap, subst, ◌∙◌}
use Rattle.std.proofs.Math.Path.{fun_ext}
use Rattle.std.specs.List.{filter_map, list_all, position, position_or_len}
use Rattle.std.specs.Option.{option_map, option_map_or}
use Rattle.std.specs.Str.{bytes_eq}
use Rattle.std.proofs.lemmas.List.{length-map}
use Rattle.reference_graph.specs.References.{IsCircular}
use Rattle.rendering_style.specs.Nodes.{Node, Nodes, Branches, leaf, call, opened, names, choose, group, no_nodes, node, otherwise, branch, nodes_of}
use Rattle.rendering_style.specs.Styles.{Bibliography, Macro, Style}
use Rattle.rendering_style.specs.Opening.{macro_named, all_nodes, all_branches, fits, style_fits, calls, calls_in, calls_of_branches, index_of, references, IsAnswer}
use Rattle.sorting_styles.specs.Nodes.{sorting_node, sorting_nodes, sorting_branches}
use Rattle.sorting_styles.specs.Styles.{sorting_bibliography, sorting_macro, sorting_style}
use Rattle.sorting_styles.proofs.Viewed.{each_sorting}

-- searching a list of what was made of each
place_made : {X Y : Type 0} (p : Y → Bool) (f : X → Y) (xs : List X) → position_or_len p (map f xs) ≡ position_or_len (λ x. p (f x)) xs
place_made p f [] = refl
place_made p f (x ∷ xs) = ap (λ n. cond (not (p (f x))) (1 + n) 0) (place_made p f xs)

position_made : {X Y : Type 0} (p : Y → Bool) (f : X → Y) (xs : List X) → position p (map f xs) ≡ position (λ x. p (f x)) xs
position_made p f xs = λ i. cond (ltb (place_made p f xs i) (length-map xs f i)) (Some (place_made p f xs i)) None

found_made : {X Y : Type 0} (p : Y → Bool) (f : X → Y) (xs : List X) → find p (map f xs) ≡ option_map f (find (λ x. p (f x)) xs)
found_made p f [] = refl
found_made {X} {Y} p f (x ∷ xs) = by_test (p (f x)) (found_made p f xs)
  where
    by_test : (b : Bool) → find p (map f xs) ≡ option_map f (find (λ y. p (f y)) xs) → cond b (Some (f x)) (find p (map f xs)) ≡ option_map f (cond b (Some x) (find (λ y. p (f y)) xs))
    by_test true h = refl
    by_test false h = h

mutual
  -- the same macros are called
  calls_in_same : (x : Node) → calls_in (sorting_node x) ≡ calls_in x
  calls_in_same (leaf l) = refl
  calls_in_same (call name look) = refl
  calls_in_same (opened look xs) = calls_same xs
  calls_in_same (names h xs) = calls_same xs
  calls_in_same (choose bs) = branch_calls_same bs
  calls_in_same (group g xs) = calls_same xs

  calls_same : (xs : Nodes) → calls (sorting_nodes xs) ≡ calls xs
  calls_same no_nodes = refl
  calls_same (node x xs) = λ i. calls_in_same x i ++ calls_same xs i

  branch_calls_same : (bs : Branches) → calls_of_branches (sorting_branches bs) ≡ calls_of_branches bs
  branch_calls_same (otherwise xs) = calls_same xs
  branch_calls_same (branch c xs bs) = λ i. calls_same xs i ++ branch_calls_same bs i

index_same : (ms : List Macro) → index_of (map sorting_macro ms) ≡ index_of ms
index_same ms = fun_ext (λ name. position_made (λ (m : Macro). bytes_eq m.name name) sorting_macro ms)

each_references_same : (f g : List ℕ → Option ℕ) → f ≡ g → (ms : List Macro)
    → map (λ (m : Macro). filter_map f (calls (nodes_of m.nodes))) (map sorting_macro ms) ≡ map (λ (m : Macro). filter_map g (calls (nodes_of m.nodes))) ms
each_references_same f g e [] = refl
each_references_same f g e (m ∷ ms) = λ i. filter_map (e i) ((ap calls (each_sorting m.nodes) ∙ calls_same (nodes_of m.nodes)) i) ∷ each_references_same f g e ms i

references_same : (ms : List Macro) → references (map sorting_macro ms) ≡ references ms
references_same ms = each_references_same (index_of (map sorting_macro ms)) (index_of ms) (index_same ms) ms

-- tests of nodes that are the same before and after
module _ (f g : Node → Bool) (same : (x : Node) → f (sorting_node x) ≡ g x) where
  all_same : (xs : Nodes) → all_nodes f (sorting_nodes xs) ≡ all_nodes g xs
  all_same no_nodes = refl
  all_same (node x xs) = λ i. same x i && all_same xs i

  branches_same : (bs : Branches) → all_branches f (sorting_branches bs) ≡ all_branches g bs
  branches_same (otherwise xs) = all_same xs
  branches_same (branch c xs bs) = λ i. all_same xs i && branches_same bs i

  found_same : (o : Option Macro)
      → option_map_or (all_nodes f) (option_map (λ (m : Macro). nodes_of m.nodes) (option_map sorting_macro o)) true ≡ option_map_or (all_nodes g) (option_map (λ (m : Macro). nodes_of m.nodes) o) true
  found_same None = refl
  found_same (Some m) = ap (all_nodes f) (each_sorting m.nodes) ∙ all_same (nodes_of m.nodes)

  named_same : (ms : List Macro) (name : List ℕ)
      → option_map_or (all_nodes f) (macro_named (map sorting_macro ms) name) true ≡ option_map_or (all_nodes g) (macro_named ms name) true
  named_same ms name =
      ap (λ o. option_map_or (all_nodes f) (option_map (λ (m : Macro). nodes_of m.nodes) o) true) (found_made (λ (m : Macro). bytes_eq m.name name) sorting_macro ms)
      ∙ found_same (find (λ (m : Macro). bytes_eq m.name name) ms)

module _ (ms : List Macro) where
  -- nodes of the macros have as many levels
  fits_same : (n : ℕ) (x : Node) → fits n (map sorting_macro ms) (sorting_node x) ≡ fits n ms x
  fits_same zero x = refl
  fits_same (suc n) (leaf l) = refl
  fits_same (suc n) (call name look) = named_same (fits n (map sorting_macro ms)) (fits n ms) (fits_same n) ms name
  fits_same (suc n) (opened look xs) = all_same (fits n (map sorting_macro ms)) (fits n ms) (fits_same n) xs
  fits_same (suc n) (names h xs) = all_same (fits n (map sorting_macro ms)) (fits n ms) (fits_same n) xs
  fits_same (suc n) (choose bs) = branches_same (fits n (map sorting_macro ms)) (fits n ms) (fits_same n) bs
  fits_same (suc n) (group g xs) = all_same (fits n (map sorting_macro ms)) (fits n ms) (fits_same n) xs

  all_nodes_same : (f g : Node → Bool) → ((x : Node) → f x ≡ g x) → (xs : Nodes) → all_nodes f xs ≡ all_nodes g xs
  all_nodes_same f g same no_nodes = refl
  all_nodes_same f g same (node x xs) = λ i. same x i && all_nodes_same f g same xs i

  all_branches_same : (f g : Node → Bool) → ((x : Node) → f x ≡ g x) → (bs : Branches) → all_branches f bs ≡ all_branches g bs
  all_branches_same f g same (otherwise xs) = all_nodes_same f g same xs
  all_branches_same f g same (branch c xs bs) = λ i. all_nodes_same f g same xs i && all_branches_same f g same bs i

  -- and so have nodes of layouts, which stay
  fits_as_before : (n : ℕ) (x : Node) → fits n (map sorting_macro ms) x ≡ fits n ms x
  fits_as_before zero x = refl
  fits_as_before (suc n) (leaf l) = refl
  fits_as_before (suc n) (call name look) = named_same (fits n (map sorting_macro ms)) (fits n ms) (fits_same n) ms name
  fits_as_before (suc n) (opened look xs) = all_nodes_same (fits n (map sorting_macro ms)) (fits n ms) (fits_as_before n) xs
  fits_as_before (suc n) (names h xs) = all_nodes_same (fits n (map sorting_macro ms)) (fits n ms) (fits_as_before n) xs
  fits_as_before (suc n) (choose bs) = all_branches_same (fits n (map sorting_macro ms)) (fits n ms) (fits_as_before n) bs
  fits_as_before (suc n) (group g xs) = all_nodes_same (fits n (map sorting_macro ms)) (fits n ms) (fits_as_before n) xs

  list_fits : (n : ℕ) (xs : List Node) → list_all (fits n (map sorting_macro ms)) xs ≡ list_all (fits n ms) xs
  list_fits n [] = refl
  list_fits n (x ∷ xs) = λ i. fits_as_before n x i && list_fits n xs i

  bibliography_fits : (n : ℕ) (o : Option Bibliography)
      → option_map_or (λ (b : Bibliography). list_all (fits n (map sorting_macro ms)) b.layout.nodes) (option_map sorting_bibliography o) true ≡ option_map_or (λ (b : Bibliography). list_all (fits n ms) b.layout.nodes) o true
  bibliography_fits n None = refl
  bibliography_fits n (Some b) = list_fits n b.layout.nodes

  macros_fit : (n : ℕ) (of : List Macro)
      → list_all (λ (m : Macro). option_map_or (all_nodes (fits n (map sorting_macro ms))) (macro_named (map sorting_macro ms) m.name) true) (map sorting_macro of)
      ≡ list_all (λ (m : Macro). option_map_or (all_nodes (fits n ms)) (macro_named ms m.name) true) of
  macros_fit n [] = refl
  macros_fit n (m ∷ of) = λ i. named_same (fits n (map sorting_macro ms)) (fits n ms) (fits_same n) ms m.name i && macros_fit n of i

style_fits_same : (demotes : Bool) (s : Style) → style_fits (sorting_style demotes s) ≡ style_fits s
style_fits_same demotes s = λ i.
    list_fits s.macros 200 s.citation.layout.nodes i
    && bibliography_fits s.macros 200 s.bibliography i
    && macros_fit s.macros 200 s.macros i

-- a style for sorting is taken where the style is
pub sorting_accepted : (demotes : Bool) (s : Style) → IsAnswer s None → IsAnswer (sorting_style demotes s) None
sorting_accepted demotes s taken = (
  λ i c. taken.0 i (subst (λ (r : List (List ℕ)). IsCircular r i) (references_same s.macros) c),
  style_fits_same demotes s ∙ taken.1,
)
