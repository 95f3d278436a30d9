-- Heights that are written one by one, along an order.
use Rattle.std.proofs.Common.{◌≡◌, ℕ, suc, ◌+◌, ◌<◌, ◌≤◌, min, List, length, map, get_or, set, take, Some, Contains, ◌⊎◌, inl, inr, sym, ap, subst, ◌∙◌, arith, length-set, get_or-set_same, get_or-set_other}
use Rattle.std.proofs.Math.Path.{fun_ext}
use Rattle.std.proofs.Math.Seq.{take-suc}
use Rattle.std.proofs.lemmas.Bool.{cases_eq}
use Rattle.std.specs.Global.{Global}
use Rattle.std.specs.Prelude.{String, slice_get}
use Rattle.std.specs.Option.{option_map}
use Rattle.std.specs.BTreeMap.{BTreeMap}
use Rattle.std.proofs.lemmas.List.{take_all, length-map}
use Rattle.std.proofs.lemmas.Option.{slice_get-map, slice_get-get_or}
use Rattle.std.proofs.lemmas.List.Elements.{All-get_or, Contains-push_cases}
use Rattle.reference_graph.specs.References.{references_of, IsCircular}
use Rattle.reference_graph.specs.Order.{IsOrder}
use Rattle.reference_graph.proofs.OrderUses.{all_after, contained_in_order}
use Rattle.rendering_style.specs.Styles.{Macro}
use Rattle.rendering_style.specs.Opening.{index_of, calls, references}
use Rattle.rendering_style.specs.Levels.{levels}
use Rattle.rendering_style.specs.Tables.{IsIndex, Measures, nodes_at, height_at, height_of, AreHeights}
use Rattle.rendering_style.specs.Views.{macro_view, nodes_view}
use Rattle.rendering_style.specs.declared.parts.Macro.{Macro as MacroPart}
use Rattle.rendering_style.proofs.OpeningIndices.{indexed_within}
use Rattle.rendering_style.proofs.LevelsFit.{MeasuresNames, name_measured, measured, nodes_there}
use Rattle.rendering_style.proofs.OpeningCalls.{refers, as_many}

-- one number for each macro, and those at these indices are heights
pub record AreHeightsOf (heights : List ℕ) (ms : List Macro) (done : List ℕ) : Type 0 where
  pub long : length heights ≡ length ms
  pub exact : (i : ℕ) → Contains done i → Measures ms (get_or heights i 0) (nodes_at ms i)

-- at an index of the order all macros that are called have their heights
called_measured : (heights : List ℕ) (ms : List Macro) (order : List ℕ) (k n : ℕ) → IsOrder (references ms) order → ((i : ℕ) → IsCircular (references ms) i → ⊥) → k < length order → get_or order k 0 ≡ n
    → AreHeightsOf heights ms (take k order) → MeasuresNames ms (λ q. height_at heights (index_of ms q)) (calls (nodes_at ms n))
called_measured heights ms order k n o none low at_k h name called = name_measured ms heights name (λ r e. h.exact r (done r e))
  where
    done : (r : ℕ) → index_of ms name ≡ Some r → Contains (take k order) r
    done r e =
        let many = as_many ms in
        let n_low : get_or order k 0 < length (references ms) = All-get_or (λ i. i < length (references ms)) order k 0 low o.below in
        let refers_n = refers ms n r name (omega (arith, many, n_low, at_k)) called e in
        let refers_k = subst (λ (x : ℕ). Contains (references_of (references ms) x) r) (sym at_k) refers_n in
        all_after (references ms) order o none k r low refers_k (let w = indexed_within ms name r e in omega (arith, many, w))

-- the height of one more macro is written
pub heights_more : (heights : List ℕ) (ms : List Macro) (order : List ℕ) (k n height : ℕ) → IsOrder (references ms) order → ((i : ℕ) → IsCircular (references ms) i → ⊥) → k < length order → get_or order k 0 ≡ n
    → AreHeightsOf heights ms (take k order) → height ≡ min (levels (λ q. height_at heights (index_of ms q)) (nodes_at ms n)) 201
    → AreHeightsOf (set heights n height) ms (take (k + 1) order)
heights_more heights ms order k n height o none low at_k h is = record {
  long = length-set heights n height ∙ h.long;
  exact = λ i c. by_index i (cases_eq i n) (up_to i c);
}
  where
    there : n < length heights
    there =
        let many = as_many ms in
        let below : get_or order k 0 < length (references ms) = All-get_or (λ i. i < length (references ms)) order k 0 low o.below in
        omega (arith, many, below, at_k, h.long)

    up_to : (i : ℕ) → Contains (take (k + 1) order) i → Contains (take k order) i ⊎ (get_or order k 0 ≡ i)
    up_to i c =
        let e : k + 1 ≡ suc k = omega arith in
        Contains-push_cases (take k order) (get_or order k 0) i (subst (λ (xs : List ℕ). Contains xs i) (ap (λ (j : ℕ). take j order) e ∙ take-suc order k 0 low) c)

    by_index : (i : ℕ) → (i ≡ n) ⊎ (i ≡ n → ⊥) → Contains (take k order) i ⊎ (get_or order k 0 ≡ i) → Measures ms (get_or (set heights n height) i 0) (nodes_at ms i)
    by_index i (inl e) c =
        let here : Measures ms height (nodes_at ms n) =
        subst (λ (v : ℕ). Measures ms v (nodes_at ms n)) (sym is) (measured ms (λ q. height_at heights (index_of ms q)) (nodes_at ms n) (called_measured heights ms order k n o none low at_k h)) in
        let at_n : Measures ms (get_or (set heights n height) n 0) (nodes_at ms n) = subst (λ (v : ℕ). Measures ms v (nodes_at ms n)) (sym (get_or-set_same heights n height 0 there)) here in
        subst (λ (j : ℕ). Measures ms (get_or (set heights n height) j 0) (nodes_at ms j)) (sym e) at_n
    by_index i (inr apart) (inl before) = subst (λ (v : ℕ). Measures ms v (nodes_at ms i)) (sym (get_or-set_other heights n i height 0 apart)) (h.exact i before)
    by_index i (inr apart) (inr e) = absurd (apart (sym e ∙ at_k))

-- where the order is gone along whole, all have their heights
pub heights_whole : (heights : List ℕ) (ms : List Macro) (order : List ℕ) (k : ℕ) → IsOrder (references ms) order → length order ≤ k → AreHeightsOf heights ms (take k order) → AreHeights heights ms
heights_whole heights ms order k o past h i low =
    let many = as_many ms in
    h.exact i (subst (λ (xs : List ℕ). Contains xs i) (sym (take_all k order past)) (contained_in_order (references ms) order o i (omega (arith, many, low))))

-- the tables of the code look names up as the definitions do
pub heights_same : (table : BTreeMap (String Global) ℕ) (ms : List Macro) (heights : List ℕ) → IsIndex table ms → height_of table heights ≡ (λ q. height_at heights (index_of ms q))
heights_same table ms heights told = fun_ext (λ q. ap (height_at heights) (told q))

-- the height that the code writes
pub heights_written : (table : BTreeMap (String Global) ℕ) (macros : List MacroPart) (heights order : List ℕ) (k n height : ℕ) (m : MacroPart)
    → IsIndex table (map macro_view macros) → IsOrder (references (map macro_view macros)) order → ((i : ℕ) → IsCircular (references (map macro_view macros)) i → ⊥)
    → k < length order → get_or order k 0 ≡ n → m ≡ get_or macros n m → AreHeightsOf heights (map macro_view macros) (take k order) → height ≡ min (levels (height_of table heights) (nodes_view m.nodes.items)) 201
    → AreHeightsOf (set heights n height) (map macro_view macros) (take (k + 1) order)
heights_written table macros heights order k n height m told o none low at_k is h e =
    let ms = map macro_view macros in
    let many = as_many ms in
    let as_long = length-map macros macro_view in
    let below : get_or order k 0 < length (references ms) = All-get_or (λ i. i < length (references ms)) order k 0 low o.below in
    let there : slice_get ms n ≡ Some (macro_view m) = slice_get-map macro_view macros n ∙ ap (option_map macro_view) (slice_get-get_or macros n m (omega (arith, many, as_long, below, at_k)) ∙ ap (λ (x : MacroPart). Some x) (sym is)) in
    heights_more heights ms order k n height o none low at_k h
    (e ∙ (λ i. min (levels (heights_same table ms heights told i) (sym (nodes_there ms n (macro_view m) there) i)) 201))
