-- Texts that begin with unequal numbers compare as these do.
use Rattle.std.proofs.Common.{◌≡◌, ℕ, zero, suc, ◌+◌, ◌*◌, ◌<◌, ◌≤◌, List, [], ◌∷◌, Ordering, Less, Equal, Greater, nat_cmp, refl, sym, ap, subst, ◌∙◌, arith}
use Rattle.std.specs.Prelude.{◌≢◌}
use Rattle.std.specs.Cmp.Lexicographic.{slice_cmp}
use Rattle.std.specs.Ordering.{MatchOrdering, ordering_then, ordering_reverse}
use Rattle.std.proofs.lemmas.Cmp.{ranked, nat_list_cmp_total}
use Rattle.biblatex.specs.Fronts.{front_of, AreBytes, IsFront}

-- the number that so many bytes write after those that wrote one before; bytes past the end count as zero
abbrev written : ℕ → ℕ → List ℕ → ℕ
written zero before text = before
written (suc n) before [] = written n (before * 256) []
written (suc n) before (b ∷ text) = written n (before * 256 + b) text

front_written : (text : List ℕ) → front_of text ≡ written 8 0 text
unfolding front_of
front_written [] = omega arith
front_written (a ∷ []) = omega arith
front_written (a ∷ b ∷ []) = omega arith
front_written (a ∷ b ∷ c ∷ []) = omega arith
front_written (a ∷ b ∷ c ∷ d ∷ []) = omega arith
front_written (a ∷ b ∷ c ∷ d ∷ e ∷ []) = omega arith
front_written (a ∷ b ∷ c ∷ d ∷ e ∷ f ∷ []) = omega arith
front_written (a ∷ b ∷ c ∷ d ∷ e ∷ f ∷ g ∷ []) = omega arith
front_written (a ∷ b ∷ c ∷ d ∷ e ∷ f ∷ g ∷ h ∷ rest) = omega arith

-- what is written after less is less
rises : (n a b : ℕ) (us vs : List ℕ) → AreBytes us → a < b → written n a us < written n b vs
rises zero a b us vs bytes low = low
rises (suc n) a b [] [] bytes low = rises n (a * 256) (b * 256) [] [] bytes (omega (arith, low))
rises (suc n) a b [] (v ∷ vs) bytes low = rises n (a * 256) (b * 256 + v) [] vs bytes (omega (arith, low))
rises (suc n) a b (u ∷ us) [] bytes low =
    let small : u < 256 = bytes 0 in
    rises n (a * 256 + u) (b * 256) us [] (λ k. bytes (suc k)) (omega (arith, low, small))
rises (suc n) a b (u ∷ us) (v ∷ vs) bytes low =
    let small : u < 256 = bytes 0 in
    rises n (a * 256 + u) (b * 256 + v) us vs (λ k. bytes (suc k)) (omega (arith, low, small))

-- nothing writes less than zeros
no_less : (n a b : ℕ) (us : List ℕ) → b ≤ a → written n b [] ≤ written n a us
no_less zero a b us low = low
no_less (suc n) a b [] low = no_less n (a * 256) (b * 256) [] (omega (arith, low))
no_less (suc n) a b (u ∷ us) low = no_less n (a * 256 + u) (b * 256) us (omega (arith, low))

-- a text that writes less is less
less_written : (n a : ℕ) (us vs : List ℕ) → AreBytes us → AreBytes vs → written n a us < written n a vs → slice_cmp nat_cmp us vs ≡ Less
less_written zero a us vs us_bytes vs_bytes less = absurd (omega (arith, less))
less_written (suc n) a [] [] us_bytes vs_bytes less = absurd (omega (arith, less))
less_written (suc n) a [] (v ∷ vs) us_bytes vs_bytes less = refl
less_written (suc n) a (u ∷ us) [] us_bytes vs_bytes less =
    let low : written n (a * 256) [] ≤ written n (a * 256 + u) us = no_less n (a * 256 + u) (a * 256) us (omega arith) in
    absurd (omega (arith, less, low))
less_written (suc n) a (u ∷ us) (v ∷ vs) us_bytes vs_bytes less =
    by (nat_cmp u v) refl (ranked u v (nat_cmp u v) refl) (less_written n (a * 256 + u) us vs (λ k. us_bytes (suc k)) (λ k. vs_bytes (suc k)))
  where
    by : (o : Ordering) → nat_cmp u v ≡ o → MatchOrdering o (u < v) (u ≡ v) (v < u) → (written n (a * 256 + u) us < written n (a * 256 + u) vs → slice_cmp nat_cmp us vs ≡ Less)
        → ordering_then (nat_cmp u v) (slice_cmp nat_cmp us vs) ≡ Less
    by Less is ranks more = ap (λ (o : Ordering). ordering_then o (slice_cmp nat_cmp us vs)) is
    by Equal is ranks more =
        let same : u ≡ v = ranks in
        ap (λ (o : Ordering). ordering_then o (slice_cmp nat_cmp us vs)) is
        ∙ more (subst (λ (w : ℕ). written n (a * 256 + u) us < written n (a * 256 + w) vs) (sym same) less)
    by Greater is ranks more =
        let over : v < u = ranks in
        let high : written n (a * 256 + v) vs < written n (a * 256 + u) us = rises n (a * 256 + v) (a * 256 + u) vs us (λ k. vs_bytes (suc k)) (omega (arith, over)) in
        absurd (omega (arith, less, high))

less_front : (xs ys : List ℕ) (m n : ℕ) → IsFront m xs → IsFront n ys → m < n → slice_cmp nat_cmp xs ys ≡ Less
less_front xs ys m n front other low =
    less_written 8 0 xs ys front.1 other.1
    (subst (λ (k : ℕ). k < written 8 0 ys) (front.0 ∙ front_written xs) (subst (λ (k : ℕ). m < k) (other.0 ∙ front_written ys) low))

-- unequal numbers decide how the texts compare
pub by_fronts : (xs ys : List ℕ) (m n : ℕ) → IsFront m xs → IsFront n ys → m ≢ n → nat_cmp m n ≡ slice_cmp nat_cmp xs ys
by_fronts xs ys m n front other apart = by (nat_cmp m n) refl (ranked m n (nat_cmp m n) refl)
  where
    by : (o : Ordering) → nat_cmp m n ≡ o → MatchOrdering o (m < n) (m ≡ n) (n < m) → nat_cmp m n ≡ slice_cmp nat_cmp xs ys
    by Less is ranks = is ∙ sym (less_front xs ys m n front other ranks)
    by Equal is ranks = absurd (apart ranks)
    by Greater is ranks = is ∙ (ap ordering_reverse (sym (less_front ys xs n m other front ranks)) ∙ sym (nat_list_cmp_total.antisymm xs ys))
