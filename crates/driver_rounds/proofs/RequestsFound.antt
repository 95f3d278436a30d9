-- Cites and requests that are found by their indices, and lists that are cut after the cites of a request.
use Rattle.std.proofs.Common.{arith, ◌≡◌, ℕ, zero, suc, ◌+◌, ◌<◌, not-suc-le-zero, List, [], ◌∷◌, ◌++◌, All, length, map, drop, take, take_at, drop_at, get_or, slice_get, unwrap_or, option_map, refl, sym, ap, ◌∙◌, Some, Vec}
use Rattle.std.proofs.lemmas.List.{drop-map, drop_more, length-map, map-append, take-map}
use Rattle.std.proofs.lemmas.List.Elements.{All-same}
use Rattle.std.proofs.lemmas.Option.{slice_get-map, slice_get_read}
use Rattle.rendering_entries.specs.Answers.{Answers}
use Rattle.rendering_context.specs.Contexts.{StyleContext}
use Rattle.driver_requests.specs.Views.{context_of}
use Rattle.driver_requests.specs.declared.item.CitationItem.{CitationItem}
use Rattle.driver_requests.specs.declared.request.CitationRequest.{CitationRequest}
use Rattle.driver_rounds.specs.Rounding.{AreWithin}
use Rattle.driver_rounds.specs.Views.{numbered_view, numbered_cites_view, all_numbered_cites_view}
use Rattle.driver_rounds.specs.declared.cite.NumberedCite.{NumberedCite}

-- a list whose first part is viewed, cut after that
pub cut_view : {A B C : Type 0} (f : A → B) (g : C → B) (n : ℕ) (xs : List A) (ys zs : List C) → length ys ≡ n → map f xs ≡ map g (ys ++ zs) → (map f (take n xs) ≡ map g ys) × (map f (drop n xs) ≡ map g zs)
cut_view f g n xs ys zs long e =
    let split : map f xs ≡ map g ys ++ map g zs = e ∙ map-append g ys zs in
    let size : length (map g ys) ≡ n = length-map ys g ∙ long in
    (sym (take-map f n xs) ∙ ap (take n) split ∙ take_at (map g ys) (map g zs) n size, sym (drop-map f n xs) ∙ ap (drop n) split ∙ drop_at (map g ys) (map g zs) n size)

pub cut_plain : {B C : Type 0} (g : C → B) (n : ℕ) (xs : List B) (ys zs : List C) → length ys ≡ n → xs ≡ map g (ys ++ zs) → (take n xs ≡ map g ys) × (drop n xs ≡ map g zs)
cut_plain g n xs ys zs long e =
    let split : xs ≡ map g ys ++ map g zs = e ∙ map-append g ys zs in
    let size : length (map g ys) ≡ n = length-map ys g ∙ long in
    (ap (take n) split ∙ take_at (map g ys) (map g zs) n size, ap (drop n) split ∙ drop_at (map g ys) (map g zs) n size)

-- one value is the other where there is one
pub some_one : {A : Type 0} (a b : A) → Some a ≡ Some b → a ≡ b
some_one a b e = ap (λ o. unwrap_or o a) e

-- an element of a list that is viewed
pub element_view : {A B C : Type 0} (f : A → B) (g : C → B) (xs : List A) (ys : List C) (n : ℕ) (x : A) (y : C) → map f xs ≡ map g ys → slice_get xs n ≡ Some x → slice_get ys n ≡ Some y → f x ≡ g y
element_view f g xs ys n x y e h i =
    some_one (f x) (g y) (ap (option_map f) (sym h) ∙ sym (slice_get-map f xs n) ∙ ap (λ zs. slice_get zs n) e ∙ slice_get-map g ys n ∙ ap (option_map g) i)

pub element_plain : {B C : Type 0} (g : C → B) (xs : List B) (ys : List C) (n : ℕ) (x : B) (y : C) → xs ≡ map g ys → slice_get xs n ≡ Some x → slice_get ys n ≡ Some y → x ≡ g y
element_plain g xs ys n x y e h i = some_one x (g y) (sym h ∙ ap (λ zs. slice_get zs n) e ∙ slice_get-map g ys n ∙ ap (option_map g) i)

pub element_at : {A : Type 0} (xs : List A) (n : ℕ) (x : A) → n < length xs → x ≡ get_or xs n x → slice_get xs n ≡ Some x
element_at xs n x less is = slice_get_read xs (length xs) n x refl less is

module _ {T P : Type 0} (answers : T → Answers) where
  pub run_long : (x : StyleContext) (is : List (CitationItem T P)) (ks : List NumberedCite) → length ks ≡ length is → length (numbered_cites_view answers x is ks) ≡ length is
  run_long x [] ks e = refl
  run_long x (i ∷ is) [] e = e
  run_long x (i ∷ is) (k ∷ ks) e = let f : length ks ≡ length is = omega (arith, e) in ap suc (run_long x is ks f)

  -- the cite of an item
  pub run_at : (x : StyleContext) (is : List (CitationItem T P)) (ks : List NumberedCite) (n : ℕ) (i : CitationItem T P) (k : NumberedCite) → n < length is → n < length ks → i ≡ get_or is n i → k ≡ get_or ks n k
      → slice_get (numbered_cites_view answers x is ks) n ≡ Some (numbered_view answers x i k)
  run_at x [] ks n i k a b e f = absurd (not-suc-le-zero a)
  run_at x (j ∷ js) [] n i k a b e f = absurd (not-suc-le-zero b)
  run_at x (j ∷ js) (l ∷ ls) zero i k a b e f = λ z. Some (numbered_view answers x (sym e z) (sym f z))
  run_at x (j ∷ js) (l ∷ ls) (suc n) i k a b e f =
      let c : n < length js = omega (arith, a) in
      let d : n < length ls = omega (arith, b) in
      run_at x js ls n i k c d e f

  pub runs_step : {A : Type 0} (requests : List (CitationRequest T P)) (vs : List (Vec NumberedCite A)) (n : ℕ) (r : CitationRequest T P) (v : Vec NumberedCite A) (ks : List NumberedCite) → n < length requests → n < length vs → r ≡ get_or requests n r → v ≡ get_or vs n v → ks ≡ v.items
      → all_numbered_cites_view answers (drop n requests) (drop n vs) ≡ numbered_cites_view answers (context_of r) r.items.items ks ∷ all_numbered_cites_view answers (drop (n + 1) requests) (drop (n + 1) vs)
  runs_step requests vs n r v ks less below is also e =
      let rest = all_numbered_cites_view answers (drop (n + 1) requests) (drop (n + 1) vs) in
      (λ j. all_numbered_cites_view answers (drop_more requests n r less j) (drop_more vs n v below j))
      ∙ (λ j. numbered_cites_view answers (context_of (sym is j)) (sym is j).items.items (sym also j).items ∷ rest)
      ∙ ap (λ ls. numbered_cites_view answers (context_of r) r.items.items ls ∷ rest) (sym e)

-- the cites of a request are of low entries
pub run_low : {A : Type 0} (count : ℕ) (vs : List (Vec NumberedCite A)) (n : ℕ) (v : Vec NumberedCite A) (ks : List NumberedCite) → AreWithin count vs → n < length vs → v ≡ get_or vs n v → ks ≡ v.items → All (λ (k : NumberedCite). k.entry < count) ks
run_low count vs n v ks h less is e = All-same (λ (k : NumberedCite). k.entry < count) ks (get_or vs n v).items (e ∙ ap (λ w. w.items) is) (h n v less)
