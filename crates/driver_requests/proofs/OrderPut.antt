-- The order of entries, while indices are put last one after the other.
use Rattle.std.proofs.Common.{◌≡◌, ◌⊎◌, ℕ, zero, suc, ◌+◌, ◌<◌, ◌≤◌, Bool, true, false, cond, ◌||◌, nat_eq, nat_lt, List, [], ◌∷◌, ◌++◌, length, get_or, set, take, replicate, refl, sym, ap, ap₂, subst, ◌∙◌, inl, inr, arith, add-one, zero-add, le_refl, map-id, not-suc-le-zero, eq-eqb, ne_eqb, ltb-true, ltb-false, lt-ltb, le-ltb}
use Rattle.std.specs.Prelude.{filter, fold}
use Rattle.std.specs.Cmp.{nat_eq_equiv}
use Rattle.std.specs.List.{list_any, range_with_len}
use Rattle.std.proofs.lemmas.Bool.{cases_eq}
use Rattle.std.proofs.lemmas.List.{get_or-set_same, get_or-set_other, length-set, length-replicate}
use Rattle.std.proofs.lemmas.List.Sums.{fold-append, fold_push, fold_more}
use Rattle.std.proofs.lemmas.List.Elements.{filter-append}
use Rattle.std.proofs.lemmas.List.Folds.{list_any-append}
use Rattle.std.proofs.lemmas.List.FromFn.{map-range_with_len_more}
use Rattle.std.proofs.Math.Path.{fun_ext}
use Rattle.driver_requests.specs.CitedEntries.{once}
use Rattle.driver_requests.specs.Indices.{AreMarked, pushed, grown, put_last}
use Rattle.driver_requests.specs.Order.{is_index_in}
use Rattle.driver_requests.proofs.Once.{grown_all}

put_step : (count : ℕ) (es : List ℕ) (w : ℕ) (ws : List ℕ) (t : Bool)
    → fold (put_last count) (pushed nat_eq es w) ws ≡ grown nat_eq (pushed nat_eq es w) (filter (λ p. nat_lt p count) ws)
    → fold (put_last count) es ws ≡ grown nat_eq es (filter (λ p. nat_lt p count) ws)
    → fold (put_last count) (cond t (pushed nat_eq es w) es) ws ≡ grown nat_eq es (cond t (w ∷ filter (λ p. nat_lt p count) ws) (filter (λ p. nat_lt p count) ws))
put_step count es w ws true new old = new
put_step count es w ws false new old = old

-- putting each last that is one of so many indices
pub puts_filtered : (count : ℕ) (ws es : List ℕ) → fold (put_last count) es ws ≡ grown nat_eq es (filter (λ p. nat_lt p count) ws)
puts_filtered count [] es = refl
puts_filtered count (w ∷ ws) es = put_step count es w ws (nat_lt w count) (puts_filtered count ws (pushed nat_eq es w)) (puts_filtered count ws es)

one_other : (q n : ℕ) → (q ≡ n → ⊥) → (b : Bool) → nat_lt q n ≡ b → (b || (nat_eq q n || false)) ≡ nat_lt q (n + 1)
one_other q n ne true h = sym (lt-ltb q (n + 1) (omega (arith, ltb-true q n h)))
one_other q n ne false h = ap (λ b. b || false) (ne_eqb q n ne) ∙ sym (le-ltb q (n + 1) (omega (arith, ltb-false q n h, ne)))

one_more : (q n : ℕ) → (q ≡ n) ⊎ (q ≡ n → ⊥) → (nat_lt q n || (nat_eq q n || false)) ≡ nat_lt q (n + 1)
one_more q n (inl e) = ap₂ (λ a b. a || (b || false)) (le-ltb q n (omega (arith, e))) (eq-eqb q n e) ∙ sym (lt-ltb q (n + 1) (omega (arith, e)))
one_more q n (inr ne) = one_other q n ne (nat_lt q n) refl

-- one more index
pub range_more : (n : ℕ) → range_with_len 0 (n + 1) ≡ range_with_len 0 n ++ n ∷ []
range_more n = sym (map-id (range_with_len 0 (n + 1))) ∙ map-range_with_len_more (λ i. i) 0 n n (zero-add n) ∙ ap (λ xs. xs ++ n ∷ []) (map-id (range_with_len 0 n))

range_step : (q n : ℕ) → list_any (nat_eq q) (range_with_len 0 n) ≡ nat_lt q n → list_any (nat_eq q) (range_with_len 0 (suc n)) ≡ nat_lt q (suc n)
range_step q n ih =
    ap (list_any (nat_eq q)) (ap (range_with_len 0) (sym (add-one n)) ∙ range_more n)
    ∙ list_any-append (nat_eq q) (range_with_len 0 n) (n ∷ [])
    ∙ ap (λ b. b || (nat_eq q n || false)) ih
    ∙ one_more q n (cases_eq q n)
    ∙ ap (nat_lt q) (add-one n)

-- which indices there are
pub range_has : (q n : ℕ) → list_any (nat_eq q) (range_with_len 0 n) ≡ nat_lt q n
range_has q zero = sym (le-ltb q 0 (omega arith))
range_has q (suc n) = range_step q n (range_has q n)

range_kept : (n m : ℕ) → m ≤ n → filter (λ p. nat_lt p n) (range_with_len 0 m) ≡ range_with_len 0 m
range_kept n zero h = refl
range_kept n (suc m) h =
    let snoc = ap (range_with_len 0) (sym (add-one m)) ∙ range_more m in
    ap (filter (λ p. nat_lt p n)) snoc
    ∙ filter-append (λ p. nat_lt p n) (range_with_len 0 m) (m ∷ [])
    ∙ ap₂ (λ xs b. xs ++ cond b (m ∷ []) []) (range_kept n m (omega (arith, h))) (lt-ltb m n (omega (arith, h)))
    ∙ sym snoc

-- The wanted indices first, then all.
pub wanted_then_all : (count : ℕ) (ws : List ℕ)
    → fold (put_last count) (fold (put_last count) [] ws) (range_with_len 0 count) ≡ once nat_eq (filter (is_index_in (range_with_len 0 count)) ws ++ range_with_len 0 count)
wanted_then_all count ws =
    puts_filtered count (range_with_len 0 count) (fold (put_last count) [] ws)
    ∙ ap (grown nat_eq (fold (put_last count) [] ws)) (range_kept count count (le_refl count))
    ∙ ap (λ es. grown nat_eq es (range_with_len 0 count)) (puts_filtered count ws [])
    ∙ sym (fold-append (pushed nat_eq) [] (filter (λ p. nat_lt p count) ws) (range_with_len 0 count))
    ∙ grown_all nat_eq_equiv (filter (λ p. nat_lt p count) ws ++ range_with_len 0 count)
    ∙ ap (λ (test : ℕ → Bool). once nat_eq (filter test ws ++ range_with_len 0 count)) (fun_ext (λ p. sym (range_has p count)))

or_true : (b : Bool) → (b || true) ≡ true
or_true true = refl
or_true false = refl

or_false : (b : Bool) → (b || false) ≡ b
or_false true = refl
or_false false = refl

-- one more index is put last
pub put_more : (m n : ℕ) (start ws es new : List ℕ) (i : ℕ) → i < length ws → m ≡ n → new ≡ put_last m es (get_or ws i 0) → es ≡ fold (put_last n) start (take i ws) → new ≡ fold (put_last n) start (take (i + 1) ws)
put_more m n start ws es new i h same one before =
    one ∙ ap₂ (λ k fs. put_last k fs (get_or ws i 0)) same before ∙ sym (fold_more (put_last n) start ws i 0 h)

-- one more of so many
pub put_next : (m n : ℕ) (start es new : List ℕ) (i : ℕ) → m ≡ n → new ≡ put_last m es i → es ≡ fold (put_last n) start (range_with_len 0 i) → new ≡ fold (put_last n) start (range_with_len 0 (i + 1))
put_next m n start es new i same one before =
    one ∙ ap₂ (λ k fs. put_last k fs i) same before ∙ sym (fold_push (put_last n) start (range_with_len 0 i) i) ∙ ap (fold (put_last n) start) (sym (range_more i))

marked_step : (stands : List Bool) (es : List ℕ) (p q : ℕ) → AreMarked stands es → p < length stands → (q ≡ p) ⊎ (q ≡ p → ⊥) → q < length stands
    → get_or (set stands p true) q true ≡ list_any (nat_eq q) (es ++ p ∷ [])
marked_step stands es p q before there (inl e) h =
    subst (λ z. get_or (set stands p true) z true ≡ list_any (nat_eq z) (es ++ p ∷ [])) (sym e)
    (get_or-set_same stands p true true there ∙ sym (list_any-append (nat_eq p) es (p ∷ []) ∙ ap (λ b. list_any (nat_eq p) es || (b || false)) (eq-eqb p p refl) ∙ or_true (list_any (nat_eq p) es)))
marked_step stands es p q before there (inr ne) h =
    get_or-set_other stands p q true true ne ∙ before q h ∙ sym (list_any-append (nat_eq q) es (p ∷ []) ∙ ap (λ b. list_any (nat_eq q) es || (b || false)) (ne_eqb q p ne) ∙ or_false (list_any (nat_eq q) es))

-- an index that is put last is marked
pub marked_more : (stands : List Bool) (es : List ℕ) (p : ℕ) → AreMarked stands es → p < length stands → AreMarked (set stands p true) (es ++ p ∷ [])
marked_more stands es p before there = λ q h. marked_step stands es p q before there (cases_eq q p) (rw (sym (length-set stands p true)) h)

marked_none : (n q : ℕ) → q < n → get_or (replicate n false) q true ≡ false
marked_none zero q h = absurd (not-suc-le-zero h)
marked_none (suc n) zero h = refl
marked_none (suc n) (suc q) h = marked_none n q (omega (arith, h))

-- nothing stands at first
pub none_marked : (n : ℕ) → AreMarked (replicate n false) []
none_marked n = λ q h. marked_none n q (rw (sym (length-replicate n false)) h)
