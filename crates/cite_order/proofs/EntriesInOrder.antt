-- Entries in the order of a bibliography are the works that they are, in that order.
use Rattle.std.proofs.Common.{◌≡◌, ℕ, ◌+◌, All, List, [], ◌∷◌, map, refl, sym, ap, subst, ◌∙◌}
use Rattle.std.specs.List.{enumerate_from}
use Rattle.std.proofs.lemmas.List.Elements.{All-nil, All-cons, All-head, All-tail}
use Rattle.std.proofs.lemmas.Simd.{map-map}
use Rattle.rendering_context.specs.Contexts.{StyleContext}
use Rattle.rendering_entries.specs.Answers.{Answers}
use Rattle.driver_order.specs.Order.{entries_in_order, entry_keys}
use Rattle.driver_order.specs.Ordered.{ordered_by}
use Rattle.rendering_sorting.specs.Keys.{key_cmp}
use Rattle.sorting.specs.Sorted.{sorted}
use Rattle.sorting.proofs.MappedSorts.{map-sorted}
use Rattle.sorting.proofs.Sorts.{sorted_all}

-- a numbered member under a map
abbrev with_number : {X Y : Type 0} → (X → Y) → ℕ × X → ℕ × Y
with_number f p = (p.0, f p.1)

numbered : {X Y : Type 0} (f : X → Y) (n : ℕ) (xs : List X) → map (with_number f) (enumerate_from n xs) ≡ enumerate_from n (map f xs)
numbered f n [] = refl
numbered f n (x ∷ xs) = ap (λ (ys : List _). (n, f x) ∷ ys) (numbered f (n + 1) xs)

pub entries_mapped : {X Y : Type 0} (f : X → Y) (x : StyleContext) (answers : Y → Answers) (es : List X)
    → map f (entries_in_order x (λ e. answers (f e)) es) ≡ entries_in_order x answers (map f es)
entries_mapped {X} {Y} f x answers es =
    let keys : ℕ × X → List _ = entry_keys x (λ e. answers (f e)) in
    let others : ℕ × Y → List _ = entry_keys x answers in
    let ordered : List (ℕ × X) = ordered_by keys (enumerate_from 0 es) in
    map-map f (λ (p : ℕ × X). p.1) ordered
    ∙ sym (map-map (λ (p : ℕ × Y). p.1) (with_number f) ordered)
    ∙ ap (map (λ (p : ℕ × Y). p.1))
    (map-sorted (with_number f) (λ p q. key_cmp (keys p) (keys q)) (λ p q. key_cmp (others p) (others q)) (λ p q. refl) (enumerate_from 0 es)
    ∙ ap (sorted (λ p q. key_cmp (others p) (others q))) (numbered f 0 es))

-- what holds of entries holds of them in order
module _ {X : Type 0} (P : X → Type 0) where
  numbered_all : (n : ℕ) (xs : List X) → All P xs → All (λ (p : ℕ × X). P p.1) (enumerate_from n xs)
  numbered_all n [] h = All-nil (λ (p : ℕ × X). P p.1)
  numbered_all n (x ∷ xs) h = All-cons (λ (p : ℕ × X). P p.1) (n, x) (enumerate_from (n + 1) xs) (All-head P x xs h) (numbered_all (n + 1) xs (All-tail P x xs h))

  unnumbered : (ps : List (ℕ × X)) → All (λ (p : ℕ × X). P p.1) ps → All P (map (λ p. p.1) ps)
  unnumbered [] h = All-nil P
  unnumbered (p ∷ ps) h = All-cons P p.1 (map (λ p. p.1) ps) (All-head (λ (q : ℕ × X). P q.1) p ps h) (unnumbered ps (All-tail (λ (q : ℕ × X). P q.1) p ps h))

  pub order_all : (x : StyleContext) (answers : X → Answers) (es : List X) → All P es → All P (entries_in_order x answers es)
  order_all x answers es h =
      unnumbered (ordered_by (entry_keys x answers) (enumerate_from 0 es))
      (sorted_all (λ (p : ℕ × X). P p.1) (λ p q. key_cmp (entry_keys x answers p) (entry_keys x answers q)) (enumerate_from 0 es) (numbered_all 0 es h))
