-- Blocks that are found by the keys of their names.
use Rattle.std.proofs.Common.{◌≡◌, ℕ, suc, ◌+◌, ◌<◌, ◌≤◌, Bool, true, false, true≢false, cond, List, [], ◌∷◌, ◌++◌, All, length, get_or, refl, sym, ap, ◌∙◌, arith, append-nil, Option, Some, None}
use Rattle.std.specs.Prelude.{find, if◌then◌else◌, slice_get}
use Rattle.std.specs.Cmp.{decided}
use Rattle.std.specs.Option.{option_map, option_map_or}
use Rattle.std.specs.Str.{bytes_eq}
use Rattle.std.proofs.lemmas.List.Elements.{All-cons, All-nil}
use Rattle.std.proofs.lemmas.Slice.Eq.{bytes_eq-Decides}
use Rattle.rendering_tree.specs.Trees.{Element}
use Rattle.rendering_tree.proofs.SameDecided.{elements_are_one}
use Rattle.driver_blocks.specs.Blocks.{Gathered, are_alike_names, are_same_names, is_of_block, names_text}
use Rattle.driver_blocks.specs.Indexed.{has_key, key_of_names, indices_of}
use Rattle.driver_blocks.specs.Key.{names_key}
use Rattle.driver_blocks.specs.Views.{first_taking, put_in, takes}

-- the names of two cites of one block have one key
same_key : (by_text : Bool) (m o : Option Element) (q : List ℕ)
    → (if by_text then are_alike_names m o else are_same_names m o) ≡ true → option_map (names_key by_text) o ≡ Some q → option_map_or (bytes_eq q) (option_map (names_key by_text) m) false ≡ true
same_key false None o q h is = absurd (true≢false (sym h))
same_key false (Some e) None q h is = absurd (true≢false (sym h))
same_key false (Some e) (Some f) q h is =
    let own : names_key false f ≡ q = cc in
    (bytes_eq-Decides q (names_key false e)).1 (sym own ∙ ap (names_key false) (sym ((elements_are_one e f).0 h)))
same_key true None o q h is = absurd (true≢false (sym h))
same_key true (Some e) None q h is = absurd (true≢false (sym h))
same_key true (Some e) (Some f) q h is =
    let own : names_text f ≡ q = cc in
    (bytes_eq-Decides q (names_text e)).1 (sym own ∙ sym ((bytes_eq-Decides (names_text e) (names_text f)).0 h))

-- where cites are gathered by the text, names with the key of others print the same
alike_by_key : (m o : Option Element) (q : List ℕ) → option_map names_text o ≡ Some q → option_map_or (bytes_eq q) (option_map names_text m) false ≡ are_alike_names m o
alike_by_key None o q is = refl
alike_by_key (Some e) None q is = absurd cc
alike_by_key (Some e) (Some f) q is =
    let own : q ≡ names_text f = cc in
    ap (λ t. bytes_eq t (names_text e)) own ∙ (decided bytes_eq bytes_eq-Decides).symm (names_text f) (names_text e)

no_names : (by_text : Bool) (m o : Option Element) → option_map (names_key by_text) o ≡ None → (if by_text then are_alike_names m o else are_same_names m o) ≡ false
no_names false None None is = refl
no_names false None (Some f) is = refl
no_names false (Some e) None is = refl
no_names false (Some e) (Some f) is = cc
no_names true None None is = refl
no_names true None (Some f) is = refl
no_names true (Some e) None is = refl
no_names true (Some e) (Some f) is = cc

module _ {X : Type 0} (by_text : Bool) (x : Gathered X) where
  -- the names of a block that takes a cite have the key of its names
  takes_named : (q : List ℕ) → key_of_names by_text x ≡ Some q → (b : List (Gathered X)) → takes (is_of_block by_text) b x ≡ true → has_key by_text q b ≡ true
  takes_named q is [] h = absurd (true≢false (sym h))
  takes_named q is (y ∷ ys) h = same_key by_text y.names x.names q h is

  takes_none : key_of_names by_text x ≡ None → (b : List (Gathered X)) → takes (is_of_block by_text) b x ≡ false
  takes_none is [] = refl
  takes_none is (y ∷ ys) = no_names by_text y.names x.names is

  -- a cite without names is put after all blocks
  pub put_nameless : (bs : List (List (Gathered X))) → key_of_names by_text x ≡ None → put_in (is_of_block by_text) x bs ≡ bs ++ (x ∷ []) ∷ []
  put_nameless [] is = refl
  put_nameless (b ∷ bs) is = (λ k. cond (takes_none is b k) ((b ++ x ∷ []) ∷ bs) (b ∷ put_nameless bs is k))

  found_by : (test : ℕ → Bool) (n : ℕ) (indices : List ℕ) (first : Option ℕ) (p t : Bool) → (t ≡ true → p ≡ true) → test n ≡ t → find test indices ≡ first
      → find test (cond p (n ∷ indices) indices) ≡ cond t (Some n) first
  found_by test n indices first true t sound here rest = λ k. cond (here k) (Some n) (rest k)
  found_by test n indices first false true sound here rest = absurd (true≢false (sym (sound refl)))
  found_by test n indices first false false sound here rest = rest

  found_from : (q : List ℕ) → key_of_names by_text x ≡ Some q → (all : List (List (Gathered X))) (n : ℕ) (bs : List (List (Gathered X))) → ((k : ℕ) → get_or all (n + k) [] ≡ get_or bs k [])
      → find (λ p. takes (is_of_block by_text) (get_or all p []) x) (indices_of by_text q n bs) ≡ first_taking (is_of_block by_text) x n bs
  found_from q is all n [] at = refl
  found_from q is all n (b ∷ bs) at =
      let first : n + 0 ≡ n = omega arith in
      let here : get_or all n [] ≡ b = ap (λ j. get_or all j []) (sym first) ∙ at 0 in
      found_by (λ p. takes (is_of_block by_text) (get_or all p []) x) n (indices_of by_text q (n + 1) bs) (first_taking (is_of_block by_text) x (n + 1) bs) (has_key by_text q b) (takes (is_of_block by_text) b x)
      (takes_named q is b) (ap (λ c. takes (is_of_block by_text) c x) here)
      (found_from q is all (n + 1) bs (λ k. let next : n + 1 + k ≡ n + suc k = omega arith in ap (λ j. get_or all j []) next ∙ at (suc k)))

  -- the first block that takes a cite is among those whose names have the same key
  pub found : (q : List ℕ) → key_of_names by_text x ≡ Some q → (bs : List (List (Gathered X))) → find (λ p. takes (is_of_block by_text) (get_or bs p []) x) (indices_of by_text q 0 bs) ≡ first_taking (is_of_block by_text) x 0 bs
  found q is bs = found_from q is bs 0 bs (λ k. let same : 0 + k ≡ k = omega arith in ap (λ j. get_or bs j []) same)

  joined : (q : List ℕ) (b : List (Gathered X)) → takes (is_of_block by_text) b x ≡ true → has_key by_text q (b ++ x ∷ []) ≡ has_key by_text q b
  joined q [] h = absurd (true≢false (sym h))
  joined q (y ∷ ys) h = refl

  put_same : (q : List ℕ) (i n : ℕ) (b : List (Gathered X)) (bs : List (List (Gathered X))) (t : Bool) → takes (is_of_block by_text) b x ≡ t
      → (first_taking (is_of_block by_text) x (n + 1) bs ≡ Some i → indices_of by_text q (n + 1) (put_in (is_of_block by_text) x bs) ≡ indices_of by_text q (n + 1) bs)
      → cond t (Some n) (first_taking (is_of_block by_text) x (n + 1) bs) ≡ Some i
      → indices_of by_text q n (cond t ((b ++ x ∷ []) ∷ bs) (b ∷ put_in (is_of_block by_text) x bs)) ≡ indices_of by_text q n (b ∷ bs)
  put_same q i n b bs true h on is = ap (λ p. cond p (n ∷ indices_of by_text q (n + 1) bs) (indices_of by_text q (n + 1) bs)) (joined q b h)
  put_same q i n b bs false h on is = ap (λ ps. cond (has_key by_text q b) (n ∷ ps) ps) (on is)

  -- the names of a block that takes a cite keep their key
  pub indices_same : (q : List ℕ) (i n : ℕ) (bs : List (List (Gathered X))) → first_taking (is_of_block by_text) x n bs ≡ Some i → indices_of by_text q n (put_in (is_of_block by_text) x bs) ≡ indices_of by_text q n bs
  indices_same q i n [] is = cc
  indices_same q i n (b ∷ bs) is = put_same q i n b bs (takes (is_of_block by_text) b x) refl (indices_same q i (n + 1) bs) is

  onto_more : (p : Bool) (n : ℕ) (ps more : List ℕ) → cond p (n ∷ ps ++ more) (ps ++ more) ≡ cond p (n ∷ ps) ps ++ more
  onto_more true n ps more = refl
  onto_more false n ps more = refl

  indices_last : (q : List ℕ) (n : ℕ) (bs : List (List (Gathered X))) → indices_of by_text q n (bs ++ (x ∷ []) ∷ []) ≡ indices_of by_text q n bs ++ cond (has_key by_text q (x ∷ [])) ((n + length bs) ∷ []) []
  indices_last q n [] = let first : n ≡ n + 0 = omega arith in ap (λ j. cond (has_key by_text q (x ∷ [])) (j ∷ []) []) first
  indices_last q n (b ∷ bs) =
      let next : n + 1 + length bs ≡ n + suc (length bs) = omega arith in
      ap (λ ps. cond (has_key by_text q b) (n ∷ ps) ps) (indices_last q (n + 1) bs ∙ ap (λ j. indices_of by_text q (n + 1) bs ++ cond (has_key by_text q (x ∷ [])) (j ∷ []) []) next)
      ∙ onto_more (has_key by_text q b) n (indices_of by_text q (n + 1) bs) (cond (has_key by_text q (x ∷ [])) ((n + suc (length bs)) ∷ []) [])

  -- the indices of blocks after a new one whose names have a key
  pub indices_new : (q t : List ℕ) (n : ℕ) (bs : List (List (Gathered X))) → key_of_names by_text x ≡ Some t → n ≡ length bs
      → indices_of by_text q 0 (bs ++ (x ∷ []) ∷ []) ≡ indices_of by_text q 0 bs ++ cond (bytes_eq q t) (n ∷ []) []
  indices_new q t n bs is last =
      let index : 0 + length bs ≡ n = omega (arith, last) in
      indices_last q 0 bs ∙ (λ k. indices_of by_text q 0 bs ++ cond (option_map_or (bytes_eq q) (is k) false) (index k ∷ []) [])

  -- the same after one without names
  pub indices_nameless : (q : List ℕ) (bs : List (List (Gathered X))) → key_of_names by_text x ≡ None → indices_of by_text q 0 (bs ++ (x ∷ []) ∷ []) ≡ indices_of by_text q 0 bs
  indices_nameless q bs is =
      indices_last q 0 bs ∙ (λ k. indices_of by_text q 0 bs ++ cond (option_map_or (bytes_eq q) (is k) false) ((0 + length bs) ∷ []) []) ∙ append-nil (indices_of by_text q 0 bs)

first_by : (n : ℕ) (others : List ℕ) (first : Option ℕ) (s t : Bool) → s ≡ t → slice_get others 0 ≡ first → slice_get (cond s (n ∷ others) others) 0 ≡ cond t (Some n) first
first_by n others first s true e f = ap (λ r. slice_get (cond r (n ∷ others) others) 0) e
first_by n others first s false e f = ap (λ r. slice_get (cond r (n ∷ others) others) 0) e ∙ f

module _ {X : Type 0} (x : Gathered X) (q : List ℕ) (is : key_of_names true x ≡ Some q) where
  -- where cites are gathered by the text, each block under the key of a cite takes it
  takes_by_key : (b : List (Gathered X)) → has_key true q b ≡ takes (is_of_block true) b x
  takes_by_key [] = refl
  takes_by_key (y ∷ ys) = alike_by_key y.names x.names q is

  first_from : (n : ℕ) (bs : List (List (Gathered X))) → slice_get (indices_of true q n bs) 0 ≡ first_taking (is_of_block true) x n bs
  first_from n [] = refl
  first_from n (b ∷ bs) = first_by n (indices_of true q (n + 1) bs) (first_taking (is_of_block true) x (n + 1) bs) (has_key true q b) (takes (is_of_block true) b x) (takes_by_key b) (first_from (n + 1) bs)

-- there the first block that takes a cite is the first one under its key
pub found_by_text : {X : Type 0} (by_text : Bool) (x : Gathered X) (q : List ℕ) → by_text ≡ true → key_of_names by_text x ≡ Some q → (bs : List (List (Gathered X)))
    → slice_get (indices_of by_text q 0 bs) 0 ≡ first_taking (is_of_block by_text) x 0 bs
found_by_text true x q e is bs = first_from x q is 0 bs
found_by_text false x q e is bs = absurd (true≢false (sym e))

within_by : (m n : ℕ) (ps : List ℕ) (p : Bool) → n < m → All (λ j. j < m) ps → All (λ j. j < m) (cond p (n ∷ ps) ps)
within_by m n ps true less h = All-cons (λ j. j < m) n ps less h
within_by m n ps false less h = h

within : {X : Type 0} (by_text : Bool) (q : List ℕ) (n m : ℕ) (bs : List (List (Gathered X))) → n + length bs ≤ m → All (λ p. p < m) (indices_of by_text q n bs)
within by_text q n m [] le = All-nil (λ p. p < m)
within {X} by_text q n m (b ∷ bs) le =
    let less : n < m = omega (arith, le) in
    let on : n + 1 + length bs ≤ m = omega (arith, le) in
    within_by m n (indices_of by_text q (n + 1) bs) (has_key by_text q b) less (within by_text q (n + 1) m bs on)

-- the indices of blocks are below their number
pub indices_within : {X : Type 0} (by_text : Bool) (q : List ℕ) (bs : List (List (Gathered X))) (m : ℕ) → length bs ≡ m → All (λ p. p < m) (indices_of by_text q 0 bs)
indices_within by_text q bs m is = let all : 0 + length bs ≤ m = omega (arith, is) in within by_text q 0 m bs all
