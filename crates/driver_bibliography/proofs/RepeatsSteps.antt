-- How many names are the same, and what of the names of items one after the other repeats those before them.
use Rattle.std.proofs.Common.{Some, None, ◌≡◌, ℕ, suc, ◌+◌, ◌<◌, ◌≤◌, ◌==◌, ◌&&◌, ◌⊎◌, ◌≢◌, inl, inr, Bool, true, false, cond, List, [], ◌∷◌, ◌++◌, append_assoc, append-nil, length, map, drop, get_or, refl, sym, ap, subst, ◌∙◌, arith, Option}
use Rattle.std.specs.Borrow.{Bor}
use Rattle.std.proofs.lemmas.List.{get_or-map, length-map, drop_all, drop_more}
use Rattle.std.proofs.lemmas.List.Sums.{common_prefix_len-drop_yes, common_prefix_len-drop_no}
use Rattle.rendering_tree.specs.Views.{element_view}
use Rattle.rendering_tree.specs.declared.element.Elem.{Elem as ElemOf}
use Rattle.std.specs.List.{common_prefix_len}
use Rattle.std.specs.Option.{option_copied, option_map, option_or}
use Rattle.std.specs.Cmp.Lexicographic.{pointwise, unequal}
use Rattle.rendering_tree.specs.Trees.{Element}
use Rattle.driver_bibliography.specs.Substitution.{Printed, Repeated, is_same_name, repeated, substituted, with_names_before}
use Rattle.driver_bibliography.specs.Views.{borrowed_elements_view, lent_element_view, printed_view, repeats_after, all_changed}
use Rattle.driver_bibliography.specs.declared.fields.PrintedItem.{PrintedItem}
use Rattle.rendering_taxonomy.specs.declared.style.SubsequentAuthorSubstituteRule.{SubsequentAuthorSubstituteRule}

same_step : (b : Bool) (m n k : ℕ) → ((suc m == suc n) && (cond b (1 + k) 0 == suc m)) ≡ (b && ((m == n) && (k == m)))
same_step true m n k = grind arith
same_step false m n k = grind arith

-- names are the same where they are as many, and so many of them are the same
pub same_from_common : {X : Type 0} (same : X → X → Bool) (xs ys : List X) → ((length xs == length ys) && (common_prefix_len same xs ys == length xs)) ≡ pointwise same xs ys
same_from_common same [] [] = refl
same_from_common same [] (y ∷ ys) = grind arith
same_from_common same (x ∷ xs) [] = grind arith
same_from_common same (x ∷ xs) (y ∷ ys) = same_step (same x y) (length xs) (length ys) (common_prefix_len same xs ys) ∙ ap (λ b. same x y && b) (same_from_common same xs ys)

long : (ns : List (Bor ElemOf)) → length (borrowed_elements_view ns) ≡ length ns
long ns = length-map ns (λ (e : Bor ElemOf). element_view e.now)

-- whether as many are the same, where there are as many
pub same_as_many : (alone : Bool) (ns ms : List (Bor ElemOf)) (k : ℕ) → length ns ≡ length ms → k ≡ common_prefix_len (is_same_name alone) (borrowed_elements_view ns) (borrowed_elements_view ms) → (k == length ns) ≡ pointwise (is_same_name alone) (borrowed_elements_view ns) (borrowed_elements_view ms)
same_as_many alone ns ms k as_many is =
    let same : (length (borrowed_elements_view ns) == length (borrowed_elements_view ms)) ≡ true = grind (arith, long ns, long ms) in
    (λ i. is i == sym (long ns) i)
    ∙ ap (λ b. b && (common_prefix_len (is_same_name alone) (borrowed_elements_view ns) (borrowed_elements_view ms) == length (borrowed_elements_view ns))) (sym same)
    ∙ same_from_common (is_same_name alone) (borrowed_elements_view ns) (borrowed_elements_view ms)

-- where there are not, they are not the same
pub not_as_many : (alone : Bool) (ns ms : List (Bor ElemOf)) → (length ns ≢ length ms) → (length ns == length ms) ≡ pointwise (is_same_name alone) (borrowed_elements_view ns) (borrowed_elements_view ms)
not_as_many alone ns ms other =
    let apart : (length ns == length ms) ≡ false = grind (arith, other) in
    apart ∙ sym (unequal (is_same_name alone) (borrowed_elements_view ns) (borrowed_elements_view ms) (λ e. other (sym (long ns) ∙ e ∙ long ms)))

-- elements that are lent, at an index
lent_at : (ns : List (Bor ElemOf)) (i : ℕ) (x : Bor ElemOf) → i < length ns → x ≡ get_or ns i x → get_or (borrowed_elements_view ns) i (element_view x.now) ≡ element_view x.now
lent_at ns i x less is = get_or-map (λ (e : Bor ElemOf). element_view e.now) ns i x (element_view x.now) less ∙ ap (λ (e : Bor ElemOf). element_view e.now) (sym is)

module _ (alone : Bool) (ns ms : List (Bor ElemOf)) (i : ℕ) (x y : Bor ElemOf) (less : i < length ns) (below : i < length ms) (is : x ≡ get_or ns i x) (also : y ≡ get_or ms i y) where
  within : i < length (borrowed_elements_view ns)
  within = subst (λ (n : ℕ). i < n) (sym (length-map ns (λ (e : Bor ElemOf). element_view e.now))) less

  within_last : i < length (borrowed_elements_view ms)
  within_last = subst (λ (n : ℕ). i < n) (sym (length-map ms (λ (e : Bor ElemOf). element_view e.now))) below

  -- two names that are the same
  pub common_more : (n : ℕ) → is_same_name alone (element_view x.now) (element_view y.now) ≡ true → i + common_prefix_len (is_same_name alone) (drop i (borrowed_elements_view ns)) (drop i (borrowed_elements_view ms)) ≡ n
      → i + 1 + common_prefix_len (is_same_name alone) (drop (i + 1) (borrowed_elements_view ns)) (drop (i + 1) (borrowed_elements_view ms)) ≡ n
  common_more n e h =
      let step : common_prefix_len (is_same_name alone) (drop i (borrowed_elements_view ns)) (drop i (borrowed_elements_view ms)) ≡ 1 + common_prefix_len (is_same_name alone) (drop (i + 1) (borrowed_elements_view ns)) (drop (i + 1) (borrowed_elements_view ms)) =
      common_prefix_len-drop_yes (is_same_name alone) (borrowed_elements_view ns) (borrowed_elements_view ms) i (element_view x.now) (element_view y.now) within within_last
      ((λ k. is_same_name alone (lent_at ns i x less is k) (lent_at ms i y below also k)) ∙ e) in
      omega (arith, step, h)

  -- two that are not
  pub common_no_more : (n : ℕ) → is_same_name alone (element_view x.now) (element_view y.now) ≡ false → i + common_prefix_len (is_same_name alone) (drop i (borrowed_elements_view ns)) (drop i (borrowed_elements_view ms)) ≡ n → i ≡ n
  common_no_more n e h =
      let step : common_prefix_len (is_same_name alone) (drop i (borrowed_elements_view ns)) (drop i (borrowed_elements_view ms)) ≡ 0 =
      common_prefix_len-drop_no (is_same_name alone) (borrowed_elements_view ns) (borrowed_elements_view ms) i (element_view x.now) (element_view y.now) within within_last
      ((λ k. is_same_name alone (lent_at ns i x less is k) (lent_at ms i y below also k)) ∙ e) in
      omega (arith, step, h)

nothing_common : (alone : Bool) (es : List Element) → common_prefix_len (is_same_name alone) es [] ≡ 0
nothing_common alone [] = refl
nothing_common alone (e ∷ es) = refl

-- after all of either nothing is the same
pub common_none : (alone : Bool) (ns ms : List (Bor ElemOf)) (i n : ℕ) → (length ns ≤ i) ⊎ (length ms ≤ i) → i + common_prefix_len (is_same_name alone) (drop i (borrowed_elements_view ns)) (drop i (borrowed_elements_view ms)) ≡ n → i ≡ n
common_none alone ns ms i n (inl le) h =
    let none : drop i (borrowed_elements_view ns) ≡ [] = drop_all i (borrowed_elements_view ns) (subst (λ (k : ℕ). k ≤ i) (sym (length-map ns (λ (e : Bor ElemOf). element_view e.now))) le) in
    let step : common_prefix_len (is_same_name alone) (drop i (borrowed_elements_view ns)) (drop i (borrowed_elements_view ms)) ≡ 0 = ap (λ xs. common_prefix_len (is_same_name alone) xs (drop i (borrowed_elements_view ms))) none in
    omega (arith, step, h)
common_none alone ns ms i n (inr le) h =
    let none : drop i (borrowed_elements_view ms) ≡ [] = drop_all i (borrowed_elements_view ms) (subst (λ (k : ℕ). k ≤ i) (sym (length-map ms (λ (e : Bor ElemOf). element_view e.now))) le) in
    let step : common_prefix_len (is_same_name alone) (drop i (borrowed_elements_view ns)) (drop i (borrowed_elements_view ms)) ≡ 0 = ap (common_prefix_len (is_same_name alone) (drop i (borrowed_elements_view ns))) none ∙ nothing_common alone (drop i (borrowed_elements_view ns)) in
    omega (arith, step, h)

-- the substituted items are the items changed by what repeats
pub substituted_by_repeats : (alone : Bool) (rule : SubsequentAuthorSubstituteRule) (text : List ℕ) (last : Option Element) (items : List Printed)
    → all_changed text (repeats_after alone rule last items) items ≡ map (substituted alone rule text) (with_names_before last items)
substituted_by_repeats alone rule text last [] = refl
substituted_by_repeats alone rule text last (p ∷ ps) = ap (λ ts. substituted alone rule text (last, p) ∷ ts) (substituted_by_repeats alone rule text (option_or p.names last) ps)

-- what repeats was found of the items before an index, and is left to be found of the others
pub repeats_go_on : (alone : Bool) (rule : SubsequentAuthorSubstituteRule) (trees : List PrintedItem) (i : ℕ) (x : PrintedItem) (last next : Option Element) (known new all : List Repeated) (r : Repeated)
    → i < length trees → x ≡ get_or trees i x → known ++ repeats_after alone rule last (map printed_view (drop i trees)) ≡ all → r ≡ repeated alone rule last ((printed_view x).names) → next ≡ option_or ((printed_view x).names) last
    → new ≡ known ++ r ∷ [] → new ++ repeats_after alone rule next (map printed_view (drop (i + 1) trees)) ≡ all
repeats_go_on alone rule trees i x last next known new all r less is h says on e =
    let from : map printed_view (drop i trees) ≡ printed_view x ∷ map printed_view (drop (i + 1) trees) = ap (map printed_view) (drop_more trees i x less) ∙ ap (λ y. printed_view y ∷ map printed_view (drop (i + 1) trees)) (sym is) in
    (λ k. e k ++ repeats_after alone rule (on k) (map printed_view (drop (i + 1) trees)))
    ∙ append_assoc known (r ∷ []) (repeats_after alone rule (option_or ((printed_view x).names) last) (map printed_view (drop (i + 1) trees)))
    ∙ ap (λ y. known ++ y ∷ repeats_after alone rule (option_or ((printed_view x).names) last) (map printed_view (drop (i + 1) trees))) says
    ∙ ap (λ ys. known ++ repeats_after alone rule last ys) (sym from)
    ∙ h

pub repeats_end : (alone : Bool) (rule : SubsequentAuthorSubstituteRule) (trees : List PrintedItem) (i : ℕ) (last : Option Element) (known all : List Repeated) → length trees ≤ i
    → known ++ repeats_after alone rule last (map printed_view (drop i trees)) ≡ all → known ≡ all
repeats_end alone rule trees i last known all le h = sym (append-nil known) ∙ ap (λ ys. known ++ repeats_after alone rule last (map printed_view ys)) (sym (drop_all i trees le)) ∙ h

-- names that are lent are what they were where they lie
pub names_seen : (o : Option (Bor ElemOf)) → lent_element_view o ≡ option_map (λ e. element_view e) (option_copied o)
names_seen None = refl
names_seen (Some e) = refl
