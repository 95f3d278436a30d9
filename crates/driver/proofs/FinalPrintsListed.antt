-- Entries that are listed one after the other are listed by their first cites.
use Rattle.std.proofs.Common.{arith, ◌≡◌, ℕ, zero, suc, ◌<◌, Bool, true, false, true≢false, cond, eqb-true, eq-eqb, nat_eq, option_map, find, List, [], ◌∷◌, map, length, get_or, set, replicate, fold, Option, Some, None, refl, sym, ap, ◌∙◌}
use Rattle.std.specs.List.{range_with_len}
use Rattle.std.specs.Option.{option_or}
use Rattle.std.proofs.lemmas.List.{ext_get_or, get_or-set_same, get_or-set_other, get_or-replicate, length-set, length-replicate}
use Rattle.std.proofs.lemmas.List.FromFn.{get_or-map-range_with_len, length-map-range_with_len}
use Rattle.driver.specs.Finish.{is_final_of}
use Rattle.driver.specs.FinalPrints.{Listed, first_listed, listed_as, listed_with}
use Rattle.driver.specs.Stages.{Final}

-- whether an entry is the one at an index
abbrev is_at : ℕ → Listed → Bool
is_at index l = nat_eq l.index index

differs : (x e : ℕ) → nat_eq x e ≡ false → (e ≡ x → ⊥)
differs x e h same = true≢false (sym (eq-eqb x e (sym same)) ∙ h)

onto : (s : Option Listed) (l : Listed) (r : Option Listed) → option_or (option_or s (Some l)) r ≡ option_or s (Some l)
onto None l r = refl
onto (Some x) l r = refl

step : (ss : List (Option Listed)) (l : Listed) (ls : List Listed) (e : ℕ) → e < length ss → (b : Bool) → nat_eq l.index e ≡ b
    → option_or (get_or (listed_with ss l) e None) (find (is_at e) ls) ≡ option_or (get_or ss e None) (find (is_at e) (l ∷ ls))
step ss l ls e low true h =
    let same : l.index ≡ e = eqb-true l.index e h in
    let read : get_or (listed_with ss l) e None ≡ option_or (get_or ss e None) (Some l) =
    (λ k. get_or (set ss (same k) (option_or (get_or ss (same k) None) (Some l))) e None) ∙ get_or-set_same ss e (option_or (get_or ss e None) (Some l)) None low in
    ap (λ s. option_or s (find (is_at e) ls)) read
    ∙ onto (get_or ss e None) l (find (is_at e) ls)
    ∙ sym (ap (λ b. option_or (get_or ss e None) (cond b (Some l) (find (is_at e) ls))) h)
step ss l ls e low false h =
    let read : get_or (listed_with ss l) e None ≡ get_or ss e None = get_or-set_other ss l.index e (option_or (get_or ss l.index None) (Some l)) None (differs l.index e h) in
    ap (λ s. option_or s (find (is_at e) ls)) read ∙ sym (ap (λ b. option_or (get_or ss e None) (cond b (Some l) (find (is_at e) ls))) h)

or_none : (s : Option Listed) → s ≡ option_or s None
or_none None = refl
or_none (Some x) = refl

long_with : (ss : List (Option Listed)) (l : Listed) → length (listed_with ss l) ≡ length ss
long_with ss l = length-set ss l.index (option_or (get_or ss l.index None) (Some l))

found : (ls : List Listed) (ss : List (Option Listed)) (e : ℕ) → e < length ss → get_or (fold listed_with ss ls) e None ≡ option_or (get_or ss e None) (find (is_at e) ls)
found [] ss e low = or_none (get_or ss e None)
found (l ∷ ls) ss e low =
    let long : length (listed_with ss l) ≡ length ss = long_with ss l in
    found ls (listed_with ss l) e (omega (arith, low, long)) ∙ step ss l ls e low (nat_eq l.index e) refl

pub long_listed : (ls : List Listed) (ss : List (Option Listed)) → length (fold listed_with ss ls) ≡ length ss
long_listed [] ss = refl
long_listed (l ∷ ls) ss = long_listed ls (listed_with ss l) ∙ long_with ss l

found_all : (n : ℕ) (ls : List Listed) → fold listed_with (replicate n None) ls ≡ map (λ e. find (is_at e) ls) (range_with_len 0 n)
found_all n ls =
    let first : List (Option Listed) = replicate n None in
    let first_long : length first ≡ n = length-replicate n None in
    let long : length (fold listed_with first ls) ≡ n = long_listed ls first ∙ first_long in
    let all_long : length (map (λ e. find (is_at e) ls) (range_with_len 0 n)) ≡ n = length-map-range_with_len (λ e. find (is_at e) ls) 0 n in
    ext_get_or None (fold listed_with first ls) (map (λ e. find (is_at e) ls) (range_with_len 0 n)) (long ∙ sym all_long)
    (λ e low.
    let within : e < n = omega (arith, low, long) in
    found ls first e (omega (arith, within, first_long))
    ∙ ap (λ s. option_or s (find (is_at e) ls)) (get_or-replicate n e None None within)
    ∙ sym (get_or-map-range_with_len (λ e. find (is_at e) ls) 0 n e e None within (omega arith)))

module _ {P : Type 0} where
  view_or : (b : Bool) (f : Final P) (r : Option (Final P)) → cond b (Some (listed_as f)) (option_map listed_as r) ≡ option_map listed_as (cond b (Some f) r)
  view_or true f r = refl
  view_or false f r = refl

  found_view : (fs : List (Final P)) (e : ℕ) → find (is_at e) (map listed_as fs) ≡ first_listed fs e
  found_view [] e = refl
  found_view (f ∷ fs) e = ap (λ r. cond (is_final_of e f) (Some (listed_as f)) r) (found_view fs e) ∙ view_or (is_final_of e f) f (find (is_final_of e) fs)

  each_view : (fs : List (Final P)) (es : List ℕ) → map (λ e. find (is_at e) (map listed_as fs)) es ≡ map (first_listed fs) es
  each_view fs [] = refl
  each_view fs (e ∷ es) = λ k. found_view fs e k ∷ each_view fs es k

  -- cites that list entries one after the other
  pub listed_all : (fs : List (Final P)) (n : ℕ) → fold listed_with (replicate n None) (map listed_as fs) ≡ map (first_listed fs) (range_with_len 0 n)
  listed_all fs n = found_all n (map listed_as fs) ∙ each_view fs (range_with_len 0 n)

pub none_view : {A B : Type 0} (f : Option A → Option B) → f None ≡ None → (n : ℕ) → map f (replicate n None) ≡ replicate n None
none_view f h zero = refl
none_view f h (suc n) = λ k. h k ∷ none_view f h n k
