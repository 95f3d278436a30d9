-- Counting levels by tables says the same as opening macros.
use Rattle.std.proofs.Common.{◌≡◌, ℕ, zero, suc, ◌<◌, ◌≤◌, min, max, Bool, true, false, ◌&&◌, leb, List, get_or, Some, ◌⊎◌, inl, inr, Contains, refl, sym, ap, ◌∙◌, arith}
use Rattle.std.specs.List.{slice_get}
use Rattle.std.specs.Option.{option_map_or}
use Rattle.std.proofs.lemmas.Bool.Decides.{nat_tests}
use Rattle.std.proofs.lemmas.List.Elements.{Contains-append_left, Contains-append_right}
use Rattle.rendering_style.specs.Nodes.{Node, Nodes, Branches, leaf, call, opened, names, choose, group, no_nodes, node, otherwise, branch, nodes_of}
use Rattle.rendering_style.specs.Styles.{Macro}
use Rattle.rendering_style.specs.Opening.{macro_named, index_of, all_nodes, all_branches, fits, limit, calls, calls_in, calls_of_branches}
use Rattle.rendering_style.specs.Levels.{levels, levels_below, branch_levels}
use Rattle.rendering_style.specs.Tables.{Measures, nodes_at, height_at}
use Rattle.rendering_style.proofs.OpeningIndices.{IsNowhere, IsAt, look_up}

none_fit : (n : ℕ) → true ≡ leb 0 n
none_fit n = grind (arith, nat_tests)

one_less : (a n : ℕ) → leb a n ≡ leb (suc a) (suc n)
one_less a n = grind (arith, nat_tests)

of_both : (a b n : ℕ) → (leb a n && leb b n) ≡ leb (max a b) n
of_both a b n = grind (arith, nat_tests)

no_room : (a b : ℕ) → false ≡ leb (max (suc a) b) 0
no_room a b = grind (arith, nat_tests)

cut : (a n k : ℕ) → n < k → leb (min a k) n ≡ leb a n
cut a n k low = grind (arith, nat_tests)

both : {a b c d : Bool} → a ≡ c → b ≡ d → (a && b) ≡ (c && d)
both e h = λ i. e i && h i

-- what a name means has so many levels
abbrev pub MeasuresName : List Macro → (List ℕ → ℕ) → List ℕ → Type 0
MeasuresName ms height name = (n : ℕ) → n ≤ limit → option_map_or (all_nodes (fits n ms)) (macro_named ms name) true ≡ leb (height name) n

-- each of some names does
abbrev pub MeasuresNames : List Macro → (List ℕ → ℕ) → List (List ℕ) → Type 0
MeasuresNames ms height called = (name : List ℕ) → Contains called name → MeasuresName ms height name

module _ (ms : List Macro) (height : List ℕ → ℕ) where
  mutual
    -- a node by the macros that it calls
    below_fits : (x : Node) → MeasuresNames ms height (calls_in x) → (n : ℕ) → n ≤ limit → fits (suc n) ms x ≡ leb (levels_below height x) n
    below_fits (leaf l) h n low = none_fit n
    below_fits (call name look) h n low = h name (0, omega arith, refl) n low
    below_fits (opened look xs) h n low = nodes_fit xs h n low
    below_fits (names k xs) h n low = nodes_fit xs h n low
    below_fits (choose bs) h n low = branches_fit bs h n low
    below_fits (group g xs) h n low = nodes_fit xs h n low

    -- nodes by the macros that they call
    pub nodes_fit : (xs : Nodes) → MeasuresNames ms height (calls xs) → (n : ℕ) → n ≤ limit → all_nodes (fits n ms) xs ≡ leb (levels height xs) n
    nodes_fit no_nodes h n low = none_fit n
    nodes_fit (node x xs) h zero low = no_room (levels_below height x) (levels height xs)
    nodes_fit (node x xs) h (suc n) low =
        both
        (below_fits x (λ name k. h name (Contains-append_left (calls_in x) (calls xs) name k)) n (omega (arith, low)) ∙ one_less (levels_below height x) n)
        (nodes_fit xs (λ name k. h name (Contains-append_right (calls_in x) (calls xs) name k)) (suc n) low)
        ∙ of_both (suc (levels_below height x)) (levels height xs) (suc n)

    branches_fit : (bs : Branches) → MeasuresNames ms height (calls_of_branches bs) → (n : ℕ) → n ≤ limit → all_branches (fits n ms) bs ≡ leb (branch_levels height bs) n
    branches_fit (otherwise xs) h n low = nodes_fit xs h n low
    branches_fit (branch c xs bs) h n low =
        both
        (nodes_fit xs (λ name k. h name (Contains-append_left (calls xs) (calls_of_branches bs) name k)) n low)
        (branches_fit bs (λ name k. h name (Contains-append_right (calls xs) (calls_of_branches bs) name k)) n low)
        ∙ of_both (levels height xs) (branch_levels height bs) n

-- what stands at an index
pub nodes_there : (ms : List Macro) (i : ℕ) (m : Macro) → slice_get ms i ≡ Some m → nodes_at ms i ≡ nodes_of m.nodes
nodes_there ms i m e = ap (λ o. option_map_or (λ (x : Macro). nodes_of x.nodes) o no_nodes) e

-- a name by the height at its index
pub name_measured : (ms : List Macro) (heights : List ℕ) (name : List ℕ) → ((i : ℕ) → index_of ms name ≡ Some i → Measures ms (get_or heights i 0) (nodes_at ms i))
    → MeasuresName ms (λ q. height_at heights (index_of ms q)) name
name_measured ms heights name h n low = by_cases (look_up ms name)
  where
    by_cases : IsNowhere ms name ⊎ IsAt ms name → option_map_or (all_nodes (fits n ms)) (macro_named ms name) true ≡ leb (height_at heights (index_of ms name)) n
    by_cases (inl w) = ap (λ o. option_map_or (all_nodes (fits n ms)) o true) w.0 ∙ (none_fit n ∙ ap (λ o. leb (height_at heights o) n) (sym w.1))
    by_cases (inr s) =
        ap (λ o. option_map_or (all_nodes (fits n ms)) o true) s.named
        ∙ (ap (all_nodes (fits n ms)) (sym (nodes_there ms s.index s.found s.there))
        ∙ (h s.index s.indexed n low ∙ ap (λ o. leb (height_at heights o) n) (sym s.indexed)))

-- the count up to one more than the limit is a height
pub measured : (ms : List Macro) (height : List ℕ → ℕ) (xs : Nodes) → MeasuresNames ms height (calls xs) → Measures ms (min (levels height xs) 201) xs
measured ms height xs h n low = nodes_fit ms height xs h n low ∙ sym (cut (levels height xs) n 201 (omega (arith, low)))
