-- A list whose elements are changed one by one.
use Rattle.std.proofs.Common.{◌≡◌, ℕ, ◌+◌, ◌<◌, ◌≤◌, List, [], ◌∷◌, ◌++◌, length, map, take, get_or, set, sym, ap, ◌∙◌, arith}
use Rattle.std.proofs.lemmas.List.{take_all, take_more, take_more_set, map-append, get_or-set_other}

module _ {X Y : Type 0} (view : X → Y) (f : Y → Y) where
  -- those before an index are changed
  abbrev pub AreChanged : List X → List X → ℕ → Type 0
  AreChanged old xs i = map view (take i xs) ≡ map f (map view (take i old))

  -- one more is changed
  pub changed_on : (old xs : List X) (i : ℕ) (d y : X) → i < length xs → length xs ≡ length old → get_or xs i d ≡ get_or old i d → view y ≡ f (view (get_or xs i d)) → AreChanged old xs i
      → AreChanged old (set xs i y) (i + 1)
  changed_on old xs i d y less long same is h =
      ap (map view) (take_more_set xs i y less)
      ∙ map-append view (take i xs) (y ∷ [])
      ∙ (λ k. h k ++ (is ∙ ap (λ x. f (view x)) same) k ∷ [])
      ∙ sym (map-append f (map view (take i old)) (view (get_or old i d) ∷ []))
      ∙ ap (map f) (sym (map-append view (take i old) (get_or old i d ∷ [])))
      ∙ ap (λ zs. map f (map view zs)) (sym (take_more old i d (omega (arith, less, long))))

  -- all are changed
  pub changed_all : (old xs : List X) (i : ℕ) → length xs ≤ i → length xs ≡ length old → AreChanged old xs i → map view xs ≡ map f (map view old)
  changed_all old xs i all long h =
      ap (map view) (sym (take_all i xs all))
      ∙ h
      ∙ ap (λ zs. map f (map view zs)) (take_all i old (omega (arith, all, long)))

-- those from an index on are as they were
abbrev pub IsUnvisited : {X : Type 0} → List X → List X → ℕ → Type 0
IsUnvisited {X} old xs i = (length xs ≡ length old) × ((k : ℕ) (d : X) → i ≤ k → get_or xs k d ≡ get_or old k d)

-- one more is visited
pub unvisited_on : {X : Type 0} (old xs : List X) (i : ℕ) (y : X) → ((k : ℕ) (d : X) → i ≤ k → get_or xs k d ≡ get_or old k d)
    → (k : ℕ) (d : X) → i + 1 ≤ k → get_or (set xs i y) k d ≡ get_or old k d
unvisited_on old xs i y h k d le = get_or-set_other xs i k y d (λ same. omega (arith, same, le)) ∙ h k d (omega (arith, le))
