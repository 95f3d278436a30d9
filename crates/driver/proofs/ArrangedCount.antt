-- All cites that are gathered are arranged, each as often as it was gathered.
use Rattle.std.proofs.Common.{arith, ◌≡◌, ℕ, ◌+◌, ◌<◌, Bool, true, false, cond, ◌&&◌, ◌||◌, List, [], ◌∷◌, ◌++◌, append_assoc, append-nil, length, map, refl, sym, ap, ◌∙◌, Option, Some, None}
use Rattle.std.specs.Prelude.{count_by, sum_by}
use Rattle.std.specs.List.{flat_map, list_any, zip}
use Rattle.std.proofs.lemmas.List.Sums.{sum_by-append, sum_by-cons, sum_by_push}
use Rattle.rendering_style.specs.Styles.{Citation}
use Rattle.rendering_taxonomy.specs.declared.style.Collapse.{Collapse}
use Rattle.rendering_taxonomy.specs.declared.style.Collapse.TheVariants as collapses
use Rattle.driver_requests.specs.Suffixes.{Suffix}
use Rattle.driver_blocks.specs.Blocks.{Gathered, blocks, gathered, gathers, inside_delimiter, is_of_block}
use Rattle.driver_blocks.specs.Collapsing.{after_run, arranged, block_by, collapsed, continues, delimiter_after_collapsed, has_later, is_next_number, is_numbered, last_suffix, later, later_cites, numbers_collapsed, suffixes_collapsed, uncollapsed, uncollapsed_block, with_previous_test, year_block}
use Rattle.driver_blocks.specs.Runs.{Arranged, added_to_runs, collapsed_run, is_long, last_after_dash, runs_of}
use Rattle.driver_blocks.specs.Views.{put_in, takes}
use Rattle.driver_blocks.proofs.GatheredSteps.{block-last}
use Rattle.driver_rounds.specs.FirstPrints.{flattened}

-- what lists come to that are made of others
count_each : {A B C : Type 0} (v : B → ℕ) (w : C → ℕ) (g : A → List B) (h : A → List C) → ((a : A) → sum_by v (g a) ≡ sum_by w (h a)) → (xs : List A) → sum_by v (flat_map g xs) ≡ sum_by w (flat_map h xs)
count_each v w g h e [] = refl
count_each v w g h e (x ∷ xs) = sum_by-append v (g x) (flat_map g xs) ∙ (λ k. e x k + count_each v w g h e xs k) ∙ sym (sum_by-append w (h x) (flat_map h xs))

-- lists with a test of the one before them
tested_each : {A : Type 0} (test : List A → Bool) (b : Bool) (xss : List (List A)) → flat_map (λ (p : Bool × List A). p.1) (zip (b ∷ map test xss) xss) ≡ flattened xss
tested_each test b [] = refl
tested_each test b (xs ∷ xss) = ap (λ ys. xs ++ ys) (tested_each test (test xs) xss)

count_tested : {A B : Type 0} (v : B → ℕ) (w : A → ℕ) (test : List A → Bool) (g : Bool × List A → List B) → ((p : Bool × List A) → sum_by v (g p) ≡ sum_by w p.1) → (xss : List (List A)) → sum_by v (flat_map g (with_previous_test test xss)) ≡ sum_by w (flattened xss)
count_tested v w test g e xss = count_each v w g (λ p. p.1) e (with_previous_test test xss) ∙ ap (sum_by w) (tested_each test false xss)

added_all : {A : Type 0} (follows : A → A → Bool) (y : A) (runs : List (List A)) → flattened (added_to_runs follows y runs) ≡ y ∷ flattened runs
added_all follows y [] = refl
added_all follows y ([] ∷ runs) = refl
added_all follows y ((z ∷ zs) ∷ runs) = by_value (follows y z)
  where
    by_value : (b : Bool) → flattened (cond b ((y ∷ z ∷ zs) ∷ runs) ((y ∷ []) ∷ (z ∷ zs) ∷ runs)) ≡ y ∷ flattened ((z ∷ zs) ∷ runs)
    by_value true = refl
    by_value false = refl

-- runs, one after the other, are the members that they are runs of
pub runs_all : {A : Type 0} (follows : A → A → Bool) (ys : List A) → flattened (runs_of follows ys) ≡ ys
runs_all follows [] = refl
runs_all follows (y ∷ ys) = added_all follows y (runs_of follows ys) ∙ ap (λ zs. y ∷ zs) (runs_all follows ys)

count_either : {A : Type 0} (w : A → ℕ) (b : Bool) (xs ys : List A) (n : ℕ) → sum_by w xs ≡ n → sum_by w ys ≡ n → sum_by w (cond b xs ys) ≡ n
count_either w true xs ys n e f = e
count_either w false xs ys n e f = f

put_either : {X : Type 0} (w : X → ℕ) (x : X) (b : List X) (bs put : List (List X)) (t : Bool) → sum_by w (flattened put) ≡ sum_by w (flattened bs) + w x → sum_by w (flattened (cond t ((b ++ x ∷ []) ∷ bs) (b ∷ put))) ≡ sum_by w (flattened (b ∷ bs)) + w x
put_either w x b bs put true h =
    let e : sum_by w (flattened ((b ++ x ∷ []) ∷ bs)) ≡ sum_by w (b ++ x ∷ []) + sum_by w (flattened bs) = sum_by-append w (b ++ x ∷ []) (flattened bs) in
    let f : sum_by w (flattened (b ∷ bs)) ≡ sum_by w b + sum_by w (flattened bs) = sum_by-append w b (flattened bs) in
    omega (arith, e, f, sum_by_push w b x)
put_either w x b bs put false h =
    let e : sum_by w (flattened (b ∷ put)) ≡ sum_by w b + sum_by w (flattened put) = sum_by-append w b (flattened put) in
    let f : sum_by w (flattened (b ∷ bs)) ≡ sum_by w b + sum_by w (flattened bs) = sum_by-append w b (flattened bs) in
    omega (arith, e, f, h)

-- what a list comes to that is the same member by member
count_cons : {A B : Type 0} (v : A → ℕ) (w : B → ℕ) (a : A) (b : B) (xs : List A) (ys : List B) → v a ≡ w b → sum_by v xs ≡ sum_by w ys → sum_by v (a ∷ xs) ≡ sum_by w (b ∷ ys)
count_cons v w a b xs ys e f = sum_by-cons v a xs ∙ (λ k. e k + f k) ∙ sym (sum_by-cons w b ys)

count_map : {A B : Type 0} (v : B → ℕ) (w : A → ℕ) (f : A → B) → ((a : A) → v (f a) ≡ w a) → (xs : List A) → sum_by v (map f xs) ≡ sum_by w xs
count_map v w f e [] = refl
count_map v w f e (x ∷ xs) = count_cons v w (f x) x (map f xs) xs (e x) (count_map v w f e xs)

module _ {X : Type 0} (c : Citation) (w : Gathered X → ℕ) where
  -- a cite counts as it did when it was gathered
  abbrev weight : Arranged X → ℕ
  weight a = w a.cite

  count_dash : (xs : List (Arranged X)) → sum_by weight (last_after_dash xs) ≡ sum_by weight xs
  count_dash [] = refl
  count_dash (a ∷ []) = refl
  count_dash (a ∷ b ∷ others) = count_cons weight weight (record a { is_shown = false }) a (last_after_dash (b ∷ others)) (b ∷ others) refl (count_dash (b ∷ others))

  count_run : (xs : List (Arranged X)) → sum_by weight (collapsed_run xs) ≡ sum_by weight xs
  count_run [] = refl
  count_run (a ∷ others) =
      count_either weight (is_long (a ∷ others)) (a ∷ last_after_dash others) (a ∷ others) (sum_by weight (a ∷ others)) (count_cons weight weight a a (last_after_dash others) others refl (count_dash others)) refl

  count_after : (p : Bool × List (Arranged X)) → sum_by weight (after_run c p) ≡ sum_by weight p.1
  count_after (is_after, []) = refl
  count_after (is_after, a ∷ others) =
      let moved = record a { delimiter = delimiter_after_collapsed c } in
      count_either weight (is_after && is_numbered a) (moved ∷ others) (a ∷ others) (sum_by weight (a ∷ others)) (count_cons weight weight moved a others others refl refl) refl

  count_numbers : (xs : List (Arranged X)) → sum_by weight (numbers_collapsed c xs) ≡ sum_by weight xs
  count_numbers xs =
      count_tested weight weight is_long (λ r. collapsed_run (after_run c r)) (λ r. count_run (after_run c r) ∙ count_after r) (runs_of (is_next_number c.locators_end_runs) xs) ∙ ap (sum_by weight) (runs_all (is_next_number c.locators_end_runs) xs)

  count_suffixes : (xs : List (Arranged X)) → sum_by weight (suffixes_collapsed xs) ≡ sum_by weight xs
  count_suffixes xs = count_each weight weight collapsed_run (λ ys. ys) count_run (runs_of continues xs) ∙ ap (sum_by weight) (runs_all continues xs)

  count_block : (xs : List (Gathered X)) → sum_by weight (uncollapsed_block c xs) ≡ sum_by w xs
  count_block [] = refl
  count_block (x ∷ xs) =
      count_cons weight w (uncollapsed c.layout.delimiter x) x (map (uncollapsed (inside_delimiter c)) xs) xs refl (count_map weight w (uncollapsed (inside_delimiter c)) (λ y. refl) xs)

  count_later : (none : Bool) (mode : Collapse) (last : Option Suffix) (xs : List (Gathered X)) → sum_by weight (later_cites c none mode last xs) ≡ sum_by w xs
  count_later none mode last [] = refl
  count_later none mode last (x ∷ xs) =
      let others = later_cites c none mode (last_suffix last x) xs in
      count_cons weight w (later c none mode last x) x others xs refl (count_later none mode (last_suffix last x) xs)

  count_years : (none : Bool) (mode : Collapse) (p : Bool × List (Gathered X)) → sum_by weight (year_block c none mode p) ≡ sum_by w p.1
  count_years none mode (is_after, []) = refl
  count_years none mode (is_after, x ∷ xs) =
      let others = later_cites c none mode (last_suffix None x) xs in
      count_cons weight w (uncollapsed (cond is_after (delimiter_after_collapsed c) c.layout.delimiter) x) x others xs refl (count_later none mode (last_suffix None x) xs)

  count_mode : (none : Bool) (mode : Collapse) (p : Bool × List (Gathered X)) → sum_by weight (block_by c none mode p) ≡ sum_by w p.1
  count_mode none collapses.CitationNumber p = count_years none collapses.CitationNumber p
  count_mode none collapses.Year p = count_years none collapses.Year p
  count_mode none collapses.YearSuffix p = count_years none collapses.YearSuffix p
  count_mode none collapses.YearSuffixRanged p = count_suffixes (year_block c none collapses.YearSuffixRanged p) ∙ count_years none collapses.YearSuffixRanged p

  count_uncollapsed : (bs : List (List (Gathered X))) → sum_by weight (flat_map (uncollapsed_block c) bs) ≡ sum_by w (flattened bs)
  count_uncollapsed bs = count_each weight w (uncollapsed_block c) (λ ys. ys) count_block bs

  count_collapsed : (mode : Option Collapse) (bs : List (List (Gathered X))) → sum_by weight (collapsed c mode bs) ≡ sum_by w (flattened bs)
  count_collapsed None bs = count_uncollapsed bs
  count_collapsed (Some collapses.CitationNumber) bs = count_numbers (flat_map (uncollapsed_block c) bs) ∙ count_uncollapsed bs
  count_collapsed (Some collapses.Year) bs = count_tested weight w has_later (block_by c c.repeats_no_years collapses.Year) (count_mode c.repeats_no_years collapses.Year) bs
  count_collapsed (Some collapses.YearSuffix) bs = count_tested weight w has_later (block_by c c.repeats_no_years collapses.YearSuffix) (count_mode c.repeats_no_years collapses.YearSuffix) bs
  count_collapsed (Some collapses.YearSuffixRanged) bs = count_tested weight w has_later (block_by c c.repeats_no_years collapses.YearSuffixRanged) (count_mode c.repeats_no_years collapses.YearSuffixRanged) bs

  -- whether two cites are of one block
  abbrev same : Gathered X → Gathered X → Bool
  same = is_of_block c.gathers_by_text

  count_put : (x : Gathered X) (bs : List (List (Gathered X))) → sum_by w (flattened (put_in same x bs)) ≡ sum_by w (flattened bs) + w x
  count_put x [] = refl
  count_put x (b ∷ bs) = put_either w x b bs (put_in same x bs) (takes same b x) (count_put x bs)

  count_more : (xs ys : List (Gathered X)) → sum_by w (flattened (gathered same (xs ++ ys))) ≡ sum_by w (flattened (gathered same xs)) + sum_by w ys
  count_more xs [] =
      let e : sum_by w (flattened (gathered same (xs ++ []))) ≡ sum_by w (flattened (gathered same xs)) = ap (λ zs. sum_by w (flattened (gathered same zs))) (append-nil xs) in
      omega (arith, e)
  count_more xs (y ∷ ys) =
      let all : sum_by w (flattened (gathered same (xs ++ y ∷ ys))) ≡ sum_by w (flattened (gathered same ((xs ++ y ∷ []) ++ ys))) =
      ap (λ zs. sum_by w (flattened (gathered same zs))) (sym (append_assoc xs (y ∷ []) ys)) in
      let one : sum_by w (flattened (gathered same (xs ++ y ∷ []))) ≡ sum_by w (flattened (gathered same xs)) + w y =
      ap (λ bs. sum_by w (flattened bs)) (block-last c.gathers_by_text xs y) ∙ count_put y (gathered same xs) in
      omega (arith, all, one, count_more (xs ++ y ∷ []) ys, sum_by-cons w y ys)

  count_alone : (xs : List (Gathered X)) → sum_by w (flattened (map (λ x. x ∷ []) xs)) ≡ sum_by w xs
  count_alone [] = refl
  count_alone (x ∷ xs) = count_cons w w x x (flattened (map (λ y. y ∷ []) xs)) xs refl (count_alone xs)

  count_blocks : (b : Bool) (xs : List (Gathered X)) → sum_by w (flattened (cond b (gathered same xs) (map (λ x. x ∷ []) xs))) ≡ sum_by w xs
  count_blocks true xs = let e : sum_by w (flattened (gathered same xs)) ≡ 0 + sum_by w xs = count_more [] xs in omega (arith, e)
  count_blocks false xs = count_alone xs

  -- arranged cites come to what they came to when they were gathered
  pub arranged_sum : (some_purpose : Bool) (xs : List (Gathered X)) → sum_by weight (arranged c some_purpose xs) ≡ sum_by w xs
  arranged_sum some_purpose xs = count_collapsed (cond some_purpose None c.collapse) (blocks c xs) ∙ count_blocks (gathers c) xs

count_ones : {A : Type 0} (xs : List A) → sum_by (λ x. 1) xs ≡ length xs
count_ones [] = refl
count_ones (x ∷ xs) = let e : sum_by (λ y. 1) (x ∷ xs) ≡ 1 + sum_by (λ y. 1) xs = sum_by-cons (λ y. 1) x xs in omega (arith, e, count_ones xs)

-- as many cites are arranged as are gathered
pub arranged_count : {X : Type 0} (c : Citation) (some_purpose : Bool) (xs : List (Gathered X)) → length (arranged c some_purpose xs) ≡ length xs
arranged_count c some_purpose xs = sym (count_ones (arranged c some_purpose xs)) ∙ arranged_sum c (λ x. 1) some_purpose xs ∙ count_ones xs

some_counted : {A : Type 0} (p : A → Bool) (xs : List A) → list_any p xs ≡ true → 0 < count_by p xs
some_counted p [] h = absurd cc
some_counted p (x ∷ xs) h = by_value (p x) refl (some_counted p xs)
  where
    by_value : (b : Bool) → p x ≡ b → (list_any p xs ≡ true → 0 < count_by p xs) → 0 < count_by p (x ∷ xs)
    by_value true e others = let n : count_by p (x ∷ xs) ≡ 1 + count_by p xs = sum_by-cons (λ y. cond (p y) 1 0) x xs ∙ ap (λ b. cond b 1 0 + count_by p xs) e in omega (arith, n)
    by_value false e others =
        let n : count_by p (x ∷ xs) ≡ 0 + count_by p xs = sum_by-cons (λ y. cond (p y) 1 0) x xs ∙ ap (λ b. cond b 1 0 + count_by p xs) e in
        let some : 0 < count_by p xs = others (sym (ap (λ b. b || list_any p xs) e) ∙ h) in
        omega (arith, n, some)

counted_some : {A : Type 0} (p : A → Bool) (xs : List A) → 0 < count_by p xs → list_any p xs ≡ true
counted_some p [] h = absurd (omega (arith, h))
counted_some p (x ∷ xs) h = by_value (p x) refl (counted_some p xs)
  where
    by_value : (b : Bool) → p x ≡ b → (0 < count_by p xs → list_any p xs ≡ true) → (p x || list_any p xs) ≡ true
    by_value true e others = ap (λ b. b || list_any p xs) e
    by_value false e others =
        let n : count_by p (x ∷ xs) ≡ 0 + count_by p xs = sum_by-cons (λ y. cond (p y) 1 0) x xs ∙ ap (λ b. cond b 1 0 + count_by p xs) e in
        let some : 0 < count_by p xs = omega (arith, n, h) in
        ap (λ b. b || list_any p xs) e ∙ others some

both_ways : (b c : Bool) → (b ≡ true → c ≡ true) → (c ≡ true → b ≡ true) → b ≡ c
both_ways true c f g = sym (f refl)
both_ways false true f g = g refl
both_ways false false f g = refl

-- a test that some cite passes where they are gathered, some cite passes where they are arranged
pub arranged_any : {X : Type 0} (c : Citation) (some_purpose : Bool) (p : Gathered X → Bool) (xs : List (Gathered X)) → list_any (λ (a : Arranged X). p a.cite) (arranged c some_purpose xs) ≡ list_any p xs
arranged_any {X} c some_purpose p xs =
    let q : Arranged X → Bool = λ a. p a.cite in
    let ys = arranged c some_purpose xs in
    let same : count_by q ys ≡ count_by p xs = arranged_sum c (λ x. cond (p x) 1 0) some_purpose xs in
    both_ways (list_any q ys) (list_any p xs) (λ h. counted_some p xs (omega (arith, same, some_counted q ys h))) (λ h. counted_some q ys (omega (arith, same, some_counted p xs h)))
