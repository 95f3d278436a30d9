-- Members once each, by two tests that agree.
use Rattle.std.proofs.Common.{◌≡◌, Bool, true, false, not, cond, All, List, [], ◌∷◌, filter, refl, ap, ◌∙◌}
use Rattle.std.proofs.lemmas.List.Elements.{All-nil, All-cons, All-head, All-tail, All-filter}
use Rattle.driver_requests.specs.CitedEntries.{once}

module _ {X : Type 0} (P : X → Type 0) where
  pub once_all : (same : X → X → Bool) (xs : List X) → All P xs → All P (once same xs)
  once_all same [] h = All-nil P
  once_all same (x ∷ xs) h =
      let rest = once_all same xs (All-tail P x xs h) in
      All-cons P x (filter (λ y. not (same x y)) (once same xs)) (All-head P x xs h) (All-filter (λ y. not (same x y)) P (once same xs) rest)

  tests_agree : (p q : X → Bool) → ((x : X) → P x → p x ≡ q x) → (xs : List X) → All P xs → filter p xs ≡ filter q xs
  tests_agree p q agree [] h = refl
  tests_agree p q agree (x ∷ xs) h =
      let rest = tests_agree p q agree xs (All-tail P x xs h) in
      λ i. cond (agree x (All-head P x xs h) i) (x ∷ rest i) (rest i)

  module _ (same other : X → X → Bool) (agree : (a b : X) → P a → P b → same a b ≡ other a b) where
    pub once_agrees : (xs : List X) → All P xs → once same xs ≡ once other xs
    once_agrees [] h = refl
    once_agrees (x ∷ xs) h =
        let first = All-head P x xs h in
        let rest = All-tail P x xs h in
        ap (λ (ys : List X). x ∷ filter (λ y. not (same x y)) ys) (once_agrees xs rest)
        ∙ ap (λ (ys : List X). x ∷ ys) (tests_agree (λ y. not (same x y)) (λ y. not (other x y)) (λ y is. ap not (agree x y first is)) (once other xs) (once_all other xs rest))
