-- The first of what is left at which a test passes, and the indices that were taken.
use Rattle.std.proofs.Common.{◌≡◌, ◌≢◌, ◌==◌, ◌||◌, ◌⊎◌, inl, inr, ℕ, suc, ◌+◌, ◌<◌, ◌≤◌, Bool, true, false, List, [], ◌∷◌, length, get_or, drop, refl, sym, ap, ◌∙◌, subst, Option, Some, None, rules, arith, Bor}
use Rattle.std.proofs.lemmas.List.{drop_more, drop_all}
use Rattle.std.proofs.lemmas.Bool.{ne_eqb}
use Rattle.std.proofs.lemmas.Bool.Decides.{eqb_tells}
use Rattle.std.proofs.Math.Bool.{or-true}
use Rattle.std.specs.Option.{option_map}
use Rattle.literature.specs.Holding.{take_first, following}
use Rattle.literature.specs.Left.{left_from, is_among, indices, taken_indices}
use Rattle.literature.specs.declared.holding.Taken.{Taken, out-Taken, the_lemmas}

-- the indices that were taken are the last one and those before
pub indices_are : (t : Taken) → indices t ≡ (out-Taken t).index ∷ taken_indices (out-Taken t).before
indices_are t = search (rules, the_lemmas)

-- an index that was found is the given one or a later one
abbrev pub StandsFrom : ℕ → Option ℕ → Type 0
StandsFrom i None = Unit {0}
StandsFrom i (Some index) = i ≤ index

pub stands_later : (i : ℕ) (found : Option ℕ) → StandsFrom (suc i) found → StandsFrom i found
stands_later i None h = tt
stands_later i (Some index) h = omega (arith, h)

is_same : (i : ℕ) → (i == i) ≡ true
is_same i = found (eqb_tells i i) where
  found : (((i == i) ≡ true) × (i ≡ i)) ⊎ (((i == i) ≡ false) × (i ≢ i)) → (i == i) ≡ true
  found (inl h) = h.0
  found (inr h) = absurd (h.1 refl)

is_other : (i index : ℕ) → i < index → (i == index) ≡ false
is_other i index less = ne_eqb i index (λ e. omega (arith, e, less))

is_other_before : (i index : ℕ) → index < i → (i == index) ≡ false
is_other_before i index less = ne_eqb i index (λ e. omega (arith, e, less))

module _ {X : Type 0} where
  -- without what is taken first, the others are those left once the index that was found is taken too; where no index was found, none
  -- passes
  abbrev pub Finds : (X → Bool) → List ℕ → ℕ → List X → Option ℕ → Type 0
  Finds test taken i xs found = option_map (λ p. p.1) (take_first test (left_from taken i xs)) ≡ option_map (λ index. left_from (index ∷ taken) i xs) found

  none_left : (i index : ℕ) (taken : List ℕ) (xs : List X) → index < i → left_from (index ∷ taken) i xs ≡ left_from taken i xs
  none_left i index taken [] less = refl
  none_left i index taken (x ∷ xs) less =
      let other = is_other_before i index less in
      let rest = none_left (suc i) index taken xs (omega (arith, less)) in
      rw (other, rest) refl

  -- a thing that was not taken and passes the test is found
  pub found_here : (test : X → Bool) (taken : List ℕ) (i : ℕ) (x : X) (xs : List X) → is_among i taken ≡ false → test x ≡ true → Finds test taken i (x ∷ xs) (Some i)
  found_here test taken i x xs free passes =
      let same = is_same i in
      rw (same, free, passes) (ap Some (sym (none_left (suc i) i taken xs (omega arith))))

  -- a thing that was taken is passed over
  pub passed_taken : (test : X → Bool) (taken : List ℕ) (i : ℕ) (x : X) (xs : List X) (found : Option ℕ) → is_among i taken ≡ true → Finds test taken (suc i) xs found → Finds test taken i (x ∷ xs) found
  passed_taken test taken i x xs None among h = rw among h
  passed_taken test taken i x xs (Some index) among h =
      let both : ((i == index) || is_among i taken) ≡ true = ap (λ b. (i == index) || b) among ∙ or-true (i == index) in
      rw (both, among) h

  left_after : (x : X) (o : Option (X × List X)) → option_map (λ p. p.1) (option_map (following x) o) ≡ option_map (λ ys. x ∷ ys) (option_map (λ p. p.1) o)
  left_after x None = refl
  left_after x (Some p) = refl

  -- a thing at which the test fails is passed over
  pub passed_failing : (test : X → Bool) (taken : List ℕ) (i : ℕ) (x : X) (xs : List X) (found : Option ℕ) → is_among i taken ≡ false → test x ≡ false → StandsFrom (suc i) found
      → Finds test taken (suc i) xs found → Finds test taken i (x ∷ xs) found
  passed_failing test taken i x xs None free fails from h = rw (free, fails) (left_after x _ ∙ ap (option_map (λ ys. x ∷ ys)) h)
  passed_failing test taken i x xs (Some index) free fails from h =
      let other = is_other i index from in
      rw (other, free, fails) (left_after x _ ∙ ap (option_map (λ ys. x ∷ ys)) h)

  pub found_at : (test : X → Bool) (taken : List ℕ) (i : ℕ) (xs : List X) (d : X) → i < length xs → is_among i taken ≡ false → test (get_or xs i d) ≡ true → Finds test taken i (drop i xs) (Some i)
  found_at test taken i xs d less free passes =
      subst (λ ys. Finds test taken i ys (Some i)) (sym (drop_more xs i d less)) (found_here test taken i (get_or xs i d) (drop (i + 1) xs) free passes)

  pub found_at_end : (test : X → Bool) (taken : List ℕ) (i : ℕ) (xs : List X) → length xs ≤ i → Finds test taken i (drop i xs) None
  found_at_end test taken i xs end = subst (λ ys. Finds test taken i ys None) (sym (drop_all i xs end)) refl

  pub passed_taken_at : (test : X → Bool) (taken : List ℕ) (i : ℕ) (xs : List X) (d : X) (found : Option ℕ) → i < length xs → is_among i taken ≡ true
      → Finds test taken (i + 1) (drop (i + 1) xs) found → Finds test taken i (drop i xs) found
  passed_taken_at test taken i xs d found less among h =
      subst (λ ys. Finds test taken i ys found) (sym (drop_more xs i d less)) (passed_taken test taken i (get_or xs i d) (drop (i + 1) xs) found among (subst (λ k. Finds test taken k (drop (i + 1) xs) found) (omega arith) h))

  pub passed_failing_at : (test : X → Bool) (taken : List ℕ) (i : ℕ) (xs : List X) (d : X) (found : Option ℕ) → i < length xs → is_among i taken ≡ false → test (get_or xs i d) ≡ false
      → StandsFrom (i + 1) found → Finds test taken (i + 1) (drop (i + 1) xs) found → Finds test taken i (drop i xs) found
  passed_failing_at test taken i xs d found less free fails from h =
      let next : i + 1 ≡ suc i = omega arith in
      subst (λ ys. Finds test taken i ys found) (sym (drop_more xs i d less)) (passed_failing test taken i (get_or xs i d) (drop (i + 1) xs) found free fails (subst (λ k. StandsFrom k found) next from) (subst (λ k. Finds test taken k (drop (i + 1) xs) found) next h))

-- one that was taken at another index may be passed over
pub still_among : (i : ℕ) (b : Bor Taken) (next : Option (Bor Taken)) (r : Bool) → next ≡ Some b → ((out-Taken b.now).index ≢ i) → is_among i (taken_indices next) ≡ r
    → is_among i (taken_indices (out-Taken b.now).before) ≡ r
still_among i b next r is other h =
    let fails : (i == (out-Taken b.now).index) ≡ false = ne_eqb i (out-Taken b.now).index (λ e. other (sym e)) in
    let whole : is_among i (taken_indices next) ≡ ((i == (out-Taken b.now).index) || is_among i (taken_indices (out-Taken b.now).before)) = ap (λ o. is_among i (taken_indices o)) is ∙ ap (is_among i) (indices_are b.now) in
    sym (ap (λ t. t || is_among i (taken_indices (out-Taken b.now).before)) fails) ∙ sym whole ∙ h
