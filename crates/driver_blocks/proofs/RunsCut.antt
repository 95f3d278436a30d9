-- Runs, the first of which is cut off.
use Rattle.std.proofs.Common.{◌≡◌, ℕ, suc, ◌+◌, ◌-◌, ◌<◌, Bool, true, false, List, [], ◌∷◌, ◌++◌, map, length, get_or, refl, sym, ap, ◌∙◌, arith}
use Rattle.std.specs.Prelude.{if◌then◌else◌}
use Rattle.std.specs.List.{IsChunkByPrefix}
use Rattle.std.proofs.lemmas.List.{length-append}
use Rattle.driver_blocks.specs.Runs.{added_to_runs, runs_of}

module _ {Y : Type 0} (follows : Y → Y → Bool) where
  -- runs begin with a run that begins with that member
  pub Begins : Y → List (List Y) → Type 0
  Begins y rs = (a : List Y) × (b : List (List Y)) × (rs ≡ (y ∷ a) ∷ b)

  begins-if : (t : Bool) (y z : Y) (zs : List Y) (rs : List (List Y)) → Begins y (if t then (y ∷ z ∷ zs) ∷ rs else (y ∷ []) ∷ (z ∷ zs) ∷ rs)
  unfolding Begins
  begins-if true y z zs rs = (z ∷ zs, rs, refl)
  begins-if false y z zs rs = ([], (z ∷ zs) ∷ rs, refl)

  begins-before : (y : Y) (rs : List (List Y)) → Begins y (added_to_runs follows y rs)
  unfolding Begins
  begins-before y [] = ([], [], refl)
  begins-before y ([] ∷ rs) = ([], rs, refl)
  begins-before y ((z ∷ zs) ∷ rs) = begins-if (follows y z) y z zs rs

  stops : (y z : Y) (rs : List (List Y)) → Begins z rs → follows y z ≡ false → added_to_runs follows y rs ≡ (y ∷ []) ∷ rs
  unfolding Begins
  stops y z rs (a, b, e) t = ap (added_to_runs follows y) e ∙ ap (λ s. if s then (y ∷ z ∷ a) ∷ b else (y ∷ []) ∷ (z ∷ a) ∷ b) t ∙ sym (ap (λ xs. (y ∷ []) ∷ xs) e)

  first_alone : (y : Y) (rest : List Y) → (0 < length rest → (d : Y) → follows y (get_or rest 0 d) ≡ false) → runs_of follows (y ∷ rest) ≡ (y ∷ []) ∷ runs_of follows rest
  first_alone y [] h = refl
  first_alone y (z ∷ rest) h = stops y z (runs_of follows (z ∷ rest)) (begins-before z (runs_of follows rest)) (h (omega arith) z)

  cut : (y : Y) (run rest : List Y)
      → ((k : ℕ) (d : Y) → k < length run → follows (get_or (y ∷ run ++ rest) k d) (get_or (run ++ rest) k d) ≡ true)
      → (0 < length rest → (d : Y) → follows (get_or (y ∷ run ++ rest) (length run) d) (get_or (run ++ rest) (length run) d) ≡ false)
      → runs_of follows (y ∷ run ++ rest) ≡ (y ∷ run) ∷ runs_of follows rest
  cut y [] rest inside after = first_alone y rest after
  cut y (z ∷ run) rest inside after =
      ap (added_to_runs follows y) (cut z run rest (λ k d less. inside (suc k) d (omega arith)) after)
      ∙ ap (λ s. if s then (y ∷ z ∷ run) ∷ runs_of follows rest else (y ∷ []) ∷ (z ∷ run) ∷ runs_of follows rest) (inside 0 y (omega arith))

  -- the first run, where it is as long as can be
  runs_cut : (xs run rest : List Y) → xs ≡ run ++ rest → 0 < length run → IsChunkByPrefix follows xs (length run) → runs_of follows xs ≡ run ∷ runs_of follows rest
  runs_cut xs [] rest e some h = absurd (omega (arith, some))
  runs_cut xs (y ∷ run) rest e some h =
      ap (runs_of follows) e
      ∙ cut y run rest
      (λ k d less.
      let next : k + 1 ≡ suc k = omega arith in
      sym (λ i. follows (get_or (e i) k d) (get_or (e i) (next i) d)) ∙ h.0 k d (omega (arith, less)))
      (λ more d.
      let last : suc (length run) - 1 ≡ length run = omega arith in
      sym (λ i. follows (get_or (e i) (last i) d) (get_or (e i) (suc (length run)) d)) ∙ h.1 (omega (arith, more, ap length e, length-append (y ∷ run) rest)) d)

module _ {X Y : Type 0} (f : X → Y) (follows : Y → Y → Bool) where
  mapped-if : (t : Bool) (y z : X) (zs : List X) (rs : List (List X))
      → (if t then (f y ∷ f z ∷ map f zs) ∷ map (map f) rs else (f y ∷ []) ∷ (f z ∷ map f zs) ∷ map (map f) rs) ≡ map (map f) (if t then (y ∷ z ∷ zs) ∷ rs else (y ∷ []) ∷ (z ∷ zs) ∷ rs)
  mapped-if true y z zs rs = refl
  mapped-if false y z zs rs = refl

  mapped-before : (y : X) (rs : List (List X)) → added_to_runs follows (f y) (map (map f) rs) ≡ map (map f) (added_to_runs (λ a b. follows (f a) (f b)) y rs)
  mapped-before y [] = refl
  mapped-before y ([] ∷ rs) = refl
  mapped-before y ((z ∷ zs) ∷ rs) = mapped-if (follows (f y) (f z)) y z zs rs

  runs_of-map : (xs : List X) → runs_of follows (map f xs) ≡ map (map f) (runs_of (λ a b. follows (f a) (f b)) xs)
  runs_of-map [] = refl
  runs_of-map (x ∷ xs) = ap (added_to_runs follows (f x)) (runs_of-map xs) ∙ mapped-before x (runs_of (λ a b. follows (f a) (f b)) xs)

  -- the same of the view of members
  pub mapped_cut : (xs run rest : List X) → xs ≡ run ++ rest → 0 < length run → IsChunkByPrefix (λ a b. follows (f a) (f b)) xs (length run) → runs_of follows (map f xs) ≡ map f run ∷ runs_of follows (map f rest)
  mapped_cut xs run rest e some h =
      runs_of-map xs
      ∙ ap (map (map f)) (runs_cut (λ a b. follows (f a) (f b)) xs run rest e some h)
      ∙ ap (λ rs. map f run ∷ rs) (sym (runs_of-map rest))
