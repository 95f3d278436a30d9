-- Words of a list, each where it comes first, one word after the other.
use Rattle.std.proofs.Common.{◌≡◌, ℕ, ◌+◌, ◌<◌, Bool, true, false, cond, not, ◌||◌, List, [], ◌∷◌, ◌++◌, length, take, get_or, true≢false, refl, sym, ap, ◌∙◌, append-nil}
use Rattle.std.proofs.lemmas.List.{take_more, map-append}
use Rattle.std.proofs.lemmas.List.Elements.{filter-append}
use Rattle.std.proofs.lemmas.Slice.Eq.{bytes_eq-Decides}
use Rattle.std.specs.Borrow.{Bor}
use Rattle.std.specs.List.{filter}
use Rattle.std.specs.Str.{bytes_eq}
use Rattle.laws.specs.Borrowed.{borrowed}
use Rattle.csl_nodes.specs.Words.{is_one_of, with_word, each_once}

-- one word more after words of which some are left out
more_filtered : (p : List ℕ → Bool) (a b : Bool) (w : List ℕ) (os : List (List ℕ)) → p w ≡ not a → filter p (cond b os (os ++ w ∷ [])) ≡ cond (a || b) (filter p os) (filter p os ++ w ∷ [])
more_filtered p true true w os e = refl
more_filtered p false true w os e = refl
more_filtered p true false w os e = filter-append p os (w ∷ []) ∙ (ap (λ (t : Bool). filter p os ++ cond t (w ∷ []) []) e ∙ append-nil (filter p os))
more_filtered p false false w os e = filter-append p os (w ∷ []) ∙ ap (λ (t : Bool). filter p os ++ cond t (w ∷ []) []) e

first_kept : (c : Bool) (x w : List ℕ) (os : List (List ℕ)) → x ∷ cond c os (os ++ w ∷ []) ≡ cond c (x ∷ os) ((x ∷ os) ++ w ∷ [])
first_kept true x w os = refl
first_kept false x w os = refl

-- one word more
once_more : (xs : List (List ℕ)) (w : List ℕ) → each_once (xs ++ w ∷ []) ≡ cond (is_one_of xs w) (each_once xs) (each_once xs ++ w ∷ [])
once_more [] w = refl
once_more (x ∷ xs) w =
    let p : List ℕ → Bool = λ (v : List ℕ). not (bytes_eq x v) in
    ap (λ (os : List (List ℕ)). x ∷ filter p os) (once_more xs w)
    ∙ (ap (λ (os : List (List ℕ)). x ∷ os) (more_filtered p (bytes_eq x w) (is_one_of xs w) w (each_once xs) refl) ∙ first_kept (bytes_eq x w || is_one_of xs w) x w (filter p (each_once xs)))

-- a word that is not left out is one of the others where it was one of all
first_filtered : (q b : Bool) (x w : List ℕ) (os fs : List (List ℕ)) → (bytes_eq x w ≡ true → q ≡ true) → is_one_of fs w ≡ is_one_of os w → is_one_of (cond q (x ∷ fs) fs) w ≡ (bytes_eq x w || is_one_of os w)
first_filtered true b x w os fs kept same = ap (λ (c : Bool). bytes_eq x w || c) same
first_filtered false b x w os fs kept same = by_test (bytes_eq x w) kept
  where
    by_test : (c : Bool) → (c ≡ true → false ≡ true) → is_one_of fs w ≡ (c || is_one_of os w)
    by_test true never = absurd (true≢false (sym (never refl)))
    by_test false never = same

one_of_filtered : (p : List ℕ → Bool) (w : List ℕ) (os : List (List ℕ)) → p w ≡ true → is_one_of (filter p os) w ≡ is_one_of os w
one_of_filtered p w [] is = refl
one_of_filtered p w (o ∷ os) is = first_filtered (p o) true o w os (filter p os) (λ e. ap p ((bytes_eq-Decides o w).0 e) ∙ is) (one_of_filtered p w os is)

first_once : (b : Bool) (x w : List ℕ) (xs : List (List ℕ)) → bytes_eq x w ≡ b → is_one_of (each_once xs) w ≡ is_one_of xs w
    → (b || is_one_of (filter (λ (v : List ℕ). not (bytes_eq x v)) (each_once xs)) w) ≡ (b || is_one_of xs w)
first_once true x w xs is same = refl
first_once false x w xs is same = one_of_filtered (λ (v : List ℕ). not (bytes_eq x v)) w (each_once xs) (ap not is) ∙ same

-- the same words are there
pub one_of_once : (xs : List (List ℕ)) (w : List ℕ) → is_one_of (each_once xs) w ≡ is_one_of xs w
one_of_once [] w = refl
one_of_once (x ∷ xs) w = first_once (bytes_eq x w) x w xs refl (one_of_once xs w)

-- borrowed words, one more
borrowed_more : (xs : List (Bor (List ℕ))) (i : ℕ) (d : Bor (List ℕ)) → i < length xs → borrowed (take (i + 1) xs) ≡ borrowed (take i xs) ++ (get_or xs i d).now ∷ []
borrowed_more xs i d less = ap borrowed (take_more xs i d less) ∙ map-append (λ (b : Bor (List ℕ)). b.now) (take i xs) (get_or xs i d ∷ [])

-- what a step of a loop over words keeps
pub once_step : (xs : List (Bor (List ℕ))) (i : ℕ) (d : Bor (List ℕ)) (old new : List (List ℕ)) → i < length xs → old ≡ each_once (borrowed (take i xs)) → new ≡ with_word old (get_or xs i d).now
    → new ≡ each_once (borrowed (take (i + 1) xs))
once_step xs i d old new less so_far added =
    let before : List (List ℕ) = borrowed (take i xs) in
    let w : List ℕ = (get_or xs i d).now in
    let once : List (List ℕ) = each_once before in
    added
    ∙ (ap (λ (ws : List (List ℕ)). with_word ws w) so_far
    ∙ (ap (λ (b : Bool). cond b once (once ++ w ∷ [])) (one_of_once before w) ∙ sym (ap each_once (borrowed_more xs i d less) ∙ once_more before w)))
