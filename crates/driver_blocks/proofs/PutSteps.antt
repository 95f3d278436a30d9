-- The first group that takes a member.
use Rattle.std.specs.Global.{Global}
use Rattle.std.proofs.Common.{◌≡◌, ℕ, suc, ◌+◌, ◌<◌, Bool, true, false, List, [], ◌∷◌, ◌++◌, length, map, get_or, set, refl, sym, ap, subst, ◌∙◌, arith, Option, Some, None, Vec}
use Rattle.std.specs.Prelude.{if◌then◌else◌}
use Rattle.std.proofs.lemmas.List.{get_or-map, length-map, map-append, map-set}
use Rattle.driver_blocks.specs.Blocks.{is_of_block}
use Rattle.driver_blocks.specs.Views.{blocks_view, first_taking, gathered_view, put_in, takes}
use Rattle.driver_blocks.specs.declared.cite.Gathered.{Gathered}

-- A member is put in the group at an index, or, without one, in one of its own after all groups.
abbrev pub IsPut : {Y : Type 0} → (Y → Y → Bool) → Y → List (List Y) → Option ℕ → Type 0
IsPut same x bs None = put_in same x bs ≡ bs ++ (x ∷ []) ∷ []
IsPut same x bs (Some i) = (i < length bs) × (put_in same x bs ≡ set bs i (get_or bs i [] ++ x ∷ []))

module _ {Y : Type 0} (same : Y → Y → Bool) (x : Y) where
  put_at : (b : List Y) (bs : List (List Y)) (t : Bool) → takes same b x ≡ t → put_in same x (b ∷ bs) ≡ (if t then (b ++ x ∷ []) ∷ bs else b ∷ put_in same x bs)
  put_at b bs t e = ap (λ s. if s then (b ++ x ∷ []) ∷ bs else b ∷ put_in same x bs) e

  -- the same of groups of which the first has a number
  abbrev IsPutFrom : ℕ → List (List Y) → Option ℕ → Type 0
  IsPutFrom n bs None = put_in same x bs ≡ bs ++ (x ∷ []) ∷ []
  IsPutFrom n bs (Some i) = (k : ℕ) × (i ≡ n + k) × (k < length bs) × (put_in same x bs ≡ set bs k (get_or bs k [] ++ x ∷ []))

  put_here : (n : ℕ) (b : List Y) (bs : List (List Y)) → takes same b x ≡ true → IsPutFrom n (b ∷ bs) (Some n)
  put_here n b bs t = (0, omega arith, omega arith, put_at b bs true t)

  put_later : (n : ℕ) (b : List Y) (bs : List (List Y)) → takes same b x ≡ false → (r : Option ℕ) → IsPutFrom (n + 1) bs r → IsPutFrom n (b ∷ bs) r
  put_later n b bs t None h = put_at b bs false t ∙ ap (λ cs. b ∷ cs) h
  put_later n b bs t (Some i) (k, is, less, put) = (suc k, omega (arith, is), omega (arith, less), put_at b bs false t ∙ ap (λ cs. b ∷ cs) put)

  put_by : (n : ℕ) (b : List Y) (bs : List (List Y)) (t : Bool) → takes same b x ≡ t → IsPutFrom (n + 1) bs (first_taking same x (n + 1) bs)
      → IsPutFrom n (b ∷ bs) (if t then Some n else first_taking same x (n + 1) bs)
  put_by n b bs true t h = put_here n b bs t
  put_by n b bs false t h = put_later n b bs t (first_taking same x (n + 1) bs) h

  put_from : (n : ℕ) (bs : List (List Y)) → IsPutFrom n bs (first_taking same x n bs)
  put_from n [] = refl
  put_from n (b ∷ bs) = put_by n b bs (takes same b x) refl (put_from (n + 1) bs)

  from_first : (bs : List (List Y)) (r : Option ℕ) → IsPutFrom 0 bs r → IsPut same x bs r
  from_first bs None h = h
  from_first bs (Some i) (k, is, less, put) =
      let same_index : k ≡ i = omega (arith, is) in
      subst (λ j. (j < length bs) × (put_in same x bs ≡ set bs j (get_or bs j [] ++ x ∷ []))) same_index (less, put)

  -- a member is put in the first group that takes it
  pub put_first : (bs : List (List Y)) (r : Option ℕ) → r ≡ first_taking same x 0 bs → IsPut same x bs r
  put_first bs r is = subst (IsPut same x bs) (sym is) (from_first bs (first_taking same x 0 bs) (put_from 0 bs))

-- the block at an index
pub block_at : (bs : List (Vec Gathered Global)) (i : ℕ) (b : Vec Gathered Global) → i < length bs → b ≡ get_or bs i b → map gathered_view b.items ≡ get_or (blocks_view bs) i []
block_at bs i b less is = ap (λ (v : Vec Gathered Global). map gathered_view v.items) is ∙ sym (get_or-map (λ (v : Vec Gathered Global). map gathered_view v.items) bs i b [] less)

-- a cite is put in where the block at its index got it
pub put_pushed : (by_text : Bool) (bs : List (Vec Gathered Global)) (i : ℕ) (old new : Vec Gathered Global) (x : Gathered)
    → IsPut (is_of_block by_text) (gathered_view x) (blocks_view bs) (Some i) → old ≡ get_or bs i old → new.items ≡ old.items ++ x ∷ []
    → blocks_view (set bs i new) ≡ put_in (is_of_block by_text) (gathered_view x) (blocks_view bs)
put_pushed by_text bs i old new x (less, put) is e =
    let within : i < length bs = omega (arith, less, length-map bs (λ (v : Vec Gathered Global). map gathered_view v.items)) in
    map-set (λ (v : Vec Gathered Global). map gathered_view v.items) bs i new
    ∙ ap (λ b. set (blocks_view bs) i b) (ap (map gathered_view) e ∙ map-append gathered_view old.items (x ∷ []) ∙ ap (λ b. b ++ gathered_view x ∷ []) (block_at bs i old within is))
    ∙ sym put
