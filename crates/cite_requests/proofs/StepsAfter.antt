-- Steps over a list, after what other members gave.
use Rattle.std.proofs.Common.{◌≡◌, ◌<◌, ℕ, ◌+◌, List, [], ◌∷◌, ◌++◌, drop, get_or, length, map, Result, Ok, Err, refl, sym, ap, ◌∙◌, append_assoc}
use Rattle.std.proofs.lemmas.List.{append-nil, at_drop_more}
use Rattle.laws.specs.Results.{◌>>=◌}
use Rattle.cite_requests.specs.Steps.{all_ok, all_ok_after}

-- the member at an index is the first of what is left
pub at_item : {X Y : Type 0} (F : List X → Y) (xs : List X) (i : ℕ) (x : X) → i < length xs → x ≡ get_or xs i x → F (drop i xs) ≡ F (x ∷ drop (i + 1) xs)
at_item F xs i x lt is = at_drop_more F xs i x lt ∙ ap (λ y. F (y ∷ drop (i + 1) xs)) (sym is)

-- the same of members under the view, of a list that is another one
pub at_view : {X Y Z : Type 0} (view : X → Y) (F : List Y → Z) (own xs : List X) (i : ℕ) (x : X) → own ≡ xs → i < length own → x ≡ get_or own i x → F (map view (drop i xs)) ≡ F (view x ∷ map view (drop (i + 1) xs))
at_view view F own xs i x same lt is =
    ap (λ ys. F (map view (drop i ys))) (sym same) ∙ at_item (λ ys. F (map view ys)) own i x lt is ∙ ap (λ ys. F (view x ∷ map view (drop (i + 1) ys))) same

module _ {F X Y : Type 0} (step : X → Result Y F) where
  -- what is done, before what the others give
  abbrev pub before_rest : List Y → Result (List Y) F → Result (List Y) F
  before_rest done rest = rest >>= λ ys. Ok (done ++ ys)

  regroup : (done : List Y) (y : Y) (rest : Result (List Y) F) → before_rest (done ++ y ∷ []) rest ≡ before_rest done (rest >>= λ ys. Ok (y ∷ ys))
  regroup done y (Ok ys) = ap (λ zs. Ok zs) (append_assoc done (y ∷ []) ys)
  regroup done y (Err f) = refl

  by_step : (done : List Y) (xs : List X) → ((y : Y) → all_ok_after step (done ++ y ∷ []) xs ≡ before_rest (done ++ y ∷ []) (all_ok step xs)) → (r : Result Y F)
      → (r >>= λ y. all_ok_after step (done ++ y ∷ []) xs) ≡ before_rest done (r >>= λ y. all_ok step xs >>= λ ys. Ok (y ∷ ys))
  by_step done xs h (Ok y) = h y ∙ regroup done y (all_ok step xs)
  by_step done xs h (Err f) = refl

  pub after_is : (done : List Y) (xs : List X) → all_ok_after step done xs ≡ before_rest done (all_ok step xs)
  unfolding all_ok all_ok_after
  after_is done [] = ap (λ ys. Ok ys) (sym (append-nil done))
  after_is done (x ∷ xs) = by_step done xs (λ y. after_is (done ++ y ∷ []) xs) (step x)

  same_rest : (rest : Result (List Y) F) → before_rest [] rest ≡ rest
  same_rest (Ok ys) = refl
  same_rest (Err f) = refl

  -- after nothing
  pub begins : (xs : List X) → all_ok_after step [] xs ≡ all_ok step xs
  begins xs = after_is [] xs ∙ same_rest (all_ok step xs)

  -- one member more
  pub goes_on : (done : List Y) (x : X) (xs : List X) (y : Y) (all : Result (List Y) F) → all_ok_after step done (x ∷ xs) ≡ all → step x ≡ Ok y → all_ok_after step (done ++ y ∷ []) xs ≡ all
  unfolding all_ok_after
  goes_on done x xs y all so_far is = sym (ap (λ (r : Result Y F). r >>= λ z. all_ok_after step (done ++ z ∷ []) xs) is) ∙ so_far

  -- a member that is refused
  pub fails : (done : List Y) (x : X) (xs : List X) (f : F) (all : Result (List Y) F) → all_ok_after step done (x ∷ xs) ≡ all → step x ≡ Err f → all ≡ Err f
  unfolding all_ok_after
  fails done x xs f all so_far is = sym so_far ∙ ap (λ (r : Result Y F). r >>= λ z. all_ok_after step (done ++ z ∷ []) xs) is

  -- no member more
  pub ends : (done : List Y) (xs : List X) (all : Result (List Y) F) → all_ok_after step done xs ≡ all → xs ≡ [] → all ≡ Ok done
  unfolding all_ok_after
  ends done xs all so_far none = sym so_far ∙ ap (all_ok_after step done) none
