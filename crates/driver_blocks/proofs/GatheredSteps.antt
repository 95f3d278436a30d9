-- Cites gathered one by one.
use Rattle.std.proofs.Common.{◌≡◌, ℕ, suc, ◌+◌, Bool, true, false, true≢false, ◌||◌, List, [], ◌∷◌, ◌++◌, append_assoc, append-nil, length, map, get_or, ◌<◌, filter, take, drop, flat_map, refl, sym, ap, ◌∙◌, arith, Option, Some, None}
use Rattle.std.specs.Prelude.{if◌then◌else◌}
use Rattle.std.specs.Cmp.{IsEquivalence, IsPartialEquivalence, decided, on_equiv}
use Rattle.std.specs.List.{list_any, enumerate_from}
use Rattle.std.specs.Str.{bytes_eq}
use Rattle.std.proofs.lemmas.List.{map_more}
use Rattle.std.proofs.lemmas.List.Elements.{filter-append}
use Rattle.std.proofs.lemmas.Slice.Eq.{bytes_eq-Decides}
use Rattle.rendering_tree.specs.Same.{is_element}
use Rattle.rendering_tree.specs.Trees.{Element}
use Rattle.rendering_tree.proofs.SameDecided.{elements_are_one}
use Rattle.driver_blocks.specs.Blocks as blocks
use Rattle.driver_blocks.specs.Blocks.{gathered, gathered_at, is_of_block, are_alike_names, are_same_names, names_text}
use Rattle.driver_blocks.specs.Views.{gathered_view, put_in}
use Rattle.driver_blocks.specs.declared.cite.Gathered.{Gathered}

module _ {Y : Type 0} (same : Y → Y → Bool) where
  -- the group of a member where none that came earlier is the same
  abbrev pub group_of : List Y → Y → List Y → List (List Y)
  group_of earlier y ys = if list_any (same y) earlier then [] else (y ∷ filter (same y) ys) ∷ []

  -- members gathered, where others came before them
  abbrev pub after_earlier : List Y → List Y → List (List Y)
  after_earlier earlier [] = []
  after_earlier earlier (y ∷ ys) = group_of earlier y ys ++ after_earlier (earlier ++ y ∷ []) ys

  take_leading : (xs ys : List Y) → take (length xs) (xs ++ ys) ≡ xs
  take_leading [] ys = refl
  take_leading (x ∷ xs) ys = ap (λ zs. x ∷ zs) (take_leading xs ys)

  drop_leading : (xs ys : List Y) (y : Y) → drop (length xs + 1) (xs ++ y ∷ ys) ≡ ys
  drop_leading [] ys y = refl
  drop_leading (x ∷ xs) ys y = let e : suc (length xs) + 1 ≡ suc (length xs + 1) = omega arith in rw e (drop_leading xs ys y)

  long_more : (xs : List Y) (y : Y) → length (xs ++ y ∷ []) ≡ length xs + 1
  long_more [] y = refl
  long_more (x ∷ xs) y = let e : length (xs ++ y ∷ []) ≡ length xs + 1 = long_more xs y in omega (arith, e)

  by_index : (earlier ys : List Y) → flat_map (gathered_at same (earlier ++ ys)) (enumerate_from (length earlier) ys) ≡ after_earlier earlier ys
  by_index earlier [] = refl
  by_index earlier (y ∷ ys) =
      let here : gathered_at same (earlier ++ y ∷ ys) (length earlier, y) ≡ group_of earlier y ys =
      (λ k. if list_any (same y) (take_leading earlier (y ∷ ys) k) then [] else (y ∷ filter (same y) (drop_leading earlier ys y k)) ∷ []) in
      let all : earlier ++ y ∷ ys ≡ (earlier ++ y ∷ []) ++ ys = sym (append_assoc earlier (y ∷ []) ys) in
      (λ k. here k ++ flat_map (gathered_at same (all k)) (enumerate_from (sym (long_more earlier y) k) ys))
      ∙ ap (λ bs. group_of earlier y ys ++ bs) (by_index (earlier ++ y ∷ []) ys)

  -- members gathered are those where none came before
  pub gathered_as : (ys : List Y) → gathered same ys ≡ after_earlier [] ys
  gathered_as ys = by_index [] ys

  any-append : (p : Y → Bool) (xs ys : List Y) → list_any p (xs ++ ys) ≡ (list_any p xs || list_any p ys)
  any-append p [] ys = refl
  any-append p (x ∷ xs) ys = ap (λ b. p x || b) (any-append p xs ys) ∙ or-assoc (p x) (list_any p xs) (list_any p ys)
    where
      or-assoc : (a b c : Bool) → (a || (b || c)) ≡ ((a || b) || c)
      or-assoc true b c = refl
      or-assoc false b c = refl

  any-last : (p : Y → Bool) (xs : List Y) (y : Y) → list_any p (xs ++ y ∷ []) ≡ (list_any p xs || p y)
  any-last p xs y = any-append p xs (y ∷ []) ∙ ap (λ b. list_any p xs || b) (or-false (p y))
    where
      or-false : (a : Bool) → (a || false) ≡ a
      or-false true = refl
      or-false false = refl

  module _ (symmetric : (a b : Y) → same a b ≡ same b a) (transitive : (a b c : Y) → same a b ≡ true → same b c ≡ true → same a c ≡ true) (x : Y) where
    apart_by : (earlier : List Y) (s y : Y) → (list_any (same y) earlier ≡ true → list_any (same x) earlier ≡ false → same y x ≡ false) → (b c d : Bool) → same y x ≡ b → same y s ≡ c → same x s ≡ d
        → (same y s || list_any (same y) earlier) ≡ true → (same x s || list_any (same x) earlier) ≡ false → same y x ≡ false
    apart_by earlier s y on false c d e f i h g = e
    apart_by earlier s y on true c true e f i h g = absurd (true≢false (sym (ap (λ t. t || list_any (same x) earlier) i) ∙ g))
    apart_by earlier s y on true true false e f i h g = absurd (true≢false (sym (transitive x y s (symmetric x y ∙ e) f) ∙ i))
    apart_by earlier s y on true false false e f i h g = on (sym (ap (λ t. t || list_any (same y) earlier) f) ∙ h) (sym (ap (λ t. t || list_any (same x) earlier) i) ∙ g)

    -- nothing is the same as what is the same as another one
    apart_from : (earlier : List Y) (y : Y) → list_any (same y) earlier ≡ true → list_any (same x) earlier ≡ false → same y x ≡ false
    apart_from [] y h g = absurd (true≢false (sym h))
    apart_from (s ∷ earlier) y h g = apart_by earlier s y (apart_from earlier y) (same y x) (same y s) (same x s) refl refl refl h g

    earlier_by : (earlier : List Y) (s y : Y) → (list_any (same x) earlier ≡ true → list_any (same y) earlier ≡ false → same y x ≡ false) → (b c d : Bool) → same y x ≡ b → same x s ≡ c → same y s ≡ d
        → (same x s || list_any (same x) earlier) ≡ true → (same y s || list_any (same y) earlier) ≡ false → same y x ≡ false
    earlier_by earlier s y on false c d e f i h g = e
    earlier_by earlier s y on true c true e f i h g = absurd (true≢false (sym (ap (λ t. t || list_any (same y) earlier) i) ∙ g))
    earlier_by earlier s y on true true false e f i h g = absurd (true≢false (sym (transitive y x s e f) ∙ i))
    earlier_by earlier s y on true false false e f i h g = on (sym (ap (λ t. t || list_any (same x) earlier) f) ∙ h) (sym (ap (λ t. t || list_any (same y) earlier) i) ∙ g)

    apart_earlier : (earlier : List Y) (y : Y) → list_any (same x) earlier ≡ true → list_any (same y) earlier ≡ false → same y x ≡ false
    apart_earlier [] y h g = absurd (true≢false (sym h))
    apart_earlier (s ∷ earlier) y h g = earlier_by earlier s y (apart_earlier earlier y) (same y x) (same x s) (same y s) refl refl refl h g

    one_more : (y : Y) (ys : List Y) (b : Bool) → same y x ≡ b → filter (same y) (ys ++ x ∷ []) ≡ filter (same y) ys ++ (if b then x ∷ [] else [])
    one_more y ys b e = filter-append (same y) ys (x ∷ []) ∙ ap (λ zs. filter (same y) ys ++ zs) (one_of b e)
      where
        one_of : (c : Bool) → same y x ≡ c → filter (same y) (x ∷ []) ≡ (if c then x ∷ [] else [])
        one_of true f = ap (λ c. if c then x ∷ [] else []) f
        one_of false f = ap (λ c. if c then x ∷ [] else []) f

    earlier_more : (earlier : List Y) (y : Y) (b c : Bool) → list_any (same x) earlier ≡ b → same x y ≡ c → list_any (same x) (earlier ++ y ∷ []) ≡ (b || c)
    earlier_more earlier y b c e f = any-last (same x) earlier y ∙ (λ k. e k || f k)

    same_group : (earlier ys : List Y) (y : Y) → list_any (same x) earlier ≡ true → (b : Bool) → list_any (same y) earlier ≡ b → group_of earlier y (ys ++ x ∷ []) ≡ group_of earlier y ys
    same_group earlier ys y h true e = ap (λ b. if b then [] else (y ∷ filter (same y) (ys ++ x ∷ [])) ∷ []) e ∙ sym (ap (λ b. if b then [] else (y ∷ filter (same y) ys) ∷ []) e)
    same_group earlier ys y h false e = ap (λ zs. if list_any (same y) earlier then [] else (y ∷ zs) ∷ []) (one_more y ys false (apart_earlier earlier y h e) ∙ append-nil (filter (same y) ys))

    -- where one that is the same was met, a further member is in no group
    unchanged : (earlier ys : List Y) → list_any (same x) earlier ≡ true → after_earlier earlier (ys ++ x ∷ []) ≡ after_earlier earlier ys
    unchanged earlier [] h = ap (λ b. (if b then [] else (x ∷ []) ∷ []) ++ []) h
    unchanged earlier (y ∷ ys) h =
        (λ k. same_group earlier ys y h (list_any (same y) earlier) refl k ++ unchanged (earlier ++ y ∷ []) ys (earlier_more earlier y true (same x y) h refl) k)

    module _ (earlier ys : List Y) (y : Y) (none : list_any (same x) earlier ≡ false) (on : list_any (same x) (earlier ++ y ∷ []) ≡ false → after_earlier (earlier ++ y ∷ []) (ys ++ x ∷ []) ≡ put_in same x (after_earlier (earlier ++ y ∷ []) ys)) where
      apart_on : same y x ≡ false → after_earlier (earlier ++ y ∷ []) (ys ++ x ∷ []) ≡ put_in same x (after_earlier (earlier ++ y ∷ []) ys)
      apart_on f = on (earlier_more earlier y false false none (symmetric x y ∙ f))

      joined_on : same y x ≡ true → after_earlier (earlier ++ y ∷ []) (ys ++ x ∷ []) ≡ after_earlier (earlier ++ y ∷ []) ys
      joined_on f = unchanged (earlier ++ y ∷ []) ys (any-last (same x) earlier y ∙ (λ j. none j || (symmetric x y ∙ f) j))

      with_group : (b : Bool) → list_any (same y) earlier ≡ b
          → after_earlier earlier (y ∷ ys ++ x ∷ []) ≡ (if b then [] else (y ∷ filter (same y) (ys ++ x ∷ [])) ∷ []) ++ after_earlier (earlier ++ y ∷ []) (ys ++ x ∷ [])
      with_group b e = ap (λ t. (if t then [] else (y ∷ filter (same y) (ys ++ x ∷ [])) ∷ []) ++ after_earlier (earlier ++ y ∷ []) (ys ++ x ∷ [])) e

      put_with : (b : Bool) → list_any (same y) earlier ≡ b
          → put_in same x ((if b then [] else (y ∷ filter (same y) ys) ∷ []) ++ after_earlier (earlier ++ y ∷ []) ys) ≡ put_in same x (after_earlier earlier (y ∷ ys))
      put_with b e = sym (ap (λ t. put_in same x ((if t then [] else (y ∷ filter (same y) ys) ∷ []) ++ after_earlier (earlier ++ y ∷ []) ys)) e)

      put_first : (c : Bool) → same y x ≡ c
          → (if c then ((y ∷ filter (same y) ys) ++ x ∷ []) ∷ after_earlier (earlier ++ y ∷ []) ys else (y ∷ filter (same y) ys) ∷ put_in same x (after_earlier (earlier ++ y ∷ []) ys))
          ≡ put_in same x ((y ∷ filter (same y) ys) ∷ after_earlier (earlier ++ y ∷ []) ys)
      put_first c f =
          sym (ap (λ t. if t then ((y ∷ filter (same y) ys) ++ x ∷ []) ∷ after_earlier (earlier ++ y ∷ []) ys else (y ∷ filter (same y) ys) ∷ put_in same x (after_earlier (earlier ++ y ∷ []) ys)) f)

      put_by : (b c : Bool) → list_any (same y) earlier ≡ b → same y x ≡ c → after_earlier earlier (y ∷ ys ++ x ∷ []) ≡ put_in same x (after_earlier earlier (y ∷ ys))
      put_by true c e f = with_group true e ∙ apart_on (apart_from earlier y e none) ∙ put_with true e
      put_by false true e f = with_group false e ∙ (λ k. (y ∷ one_more y ys true f k) ∷ joined_on f k) ∙ put_first true f ∙ put_with false e
      put_by false false e f = with_group false e ∙ (λ k. (y ∷ (one_more y ys false f ∙ append-nil (filter (same y) ys)) k) ∷ apart_on f k) ∙ put_first false f ∙ put_with false e

    -- where none was met, it is in the group that takes it
    put_last : (earlier ys : List Y) → list_any (same x) earlier ≡ false → after_earlier earlier (ys ++ x ∷ []) ≡ put_in same x (after_earlier earlier ys)
    put_last earlier [] h = ap (λ b. (if b then [] else (x ∷ []) ∷ []) ++ []) h
    put_last earlier (y ∷ ys) h = put_by earlier ys y h (put_last (earlier ++ y ∷ []) ys) (list_any (same y) earlier) (same y x) refl refl

    -- a further member is put in
    pub gathered-last : (ys : List Y) → gathered same (ys ++ x ∷ []) ≡ put_in same x (gathered same ys)
    gathered-last ys = gathered_as (ys ++ x ∷ []) ∙ put_last [] ys refl ∙ ap (put_in same x) (sym (gathered_as ys))

-- elements that are the same, and those that print the same text
same_elements : IsEquivalence is_element
same_elements = decided is_element elements_are_one

alike_elements : IsEquivalence (λ e f. bytes_eq (names_text e) (names_text f))
alike_elements = on_equiv names_text (decided bytes_eq bytes_eq-Decides)

same-symmetric : (a b : Option Element) → are_same_names a b ≡ are_same_names b a
same-symmetric None None = refl
same-symmetric None (Some f) = refl
same-symmetric (Some e) None = refl
same-symmetric (Some e) (Some f) = same_elements.symm e f

same-transitive : (a b c : Option Element) → are_same_names a b ≡ true → are_same_names b c ≡ true → are_same_names a c ≡ true
same-transitive None b c g h = absurd (true≢false (sym g))
same-transitive (Some d) None c g h = absurd (true≢false (sym g))
same-transitive (Some d) (Some e) None g h = absurd (true≢false (sym h))
same-transitive (Some d) (Some e) (Some f) g h = same_elements.congr d e f g ∙ h

alike-symmetric : (a b : Option Element) → are_alike_names a b ≡ are_alike_names b a
alike-symmetric None None = refl
alike-symmetric None (Some f) = refl
alike-symmetric (Some e) None = refl
alike-symmetric (Some e) (Some f) = alike_elements.symm e f

alike-transitive : (a b c : Option Element) → are_alike_names a b ≡ true → are_alike_names b c ≡ true → are_alike_names a c ≡ true
alike-transitive None b c g h = absurd (true≢false (sym g))
alike-transitive (Some d) None c g h = absurd (true≢false (sym g))
alike-transitive (Some d) (Some e) None g h = absurd (true≢false (sym h))
alike-transitive (Some d) (Some e) (Some f) g h = alike_elements.congr d e f g ∙ h

-- cites of one block are so either way, and one after the other
pub one_block : {X : Type 0} (by_text : Bool) → IsPartialEquivalence (is_of_block {X = X} by_text)
one_block false = record { symm = λ x y. same-symmetric x.names y.names; trans = λ x y z. same-transitive x.names y.names z.names }
one_block true = record { symm = λ x y. alike-symmetric x.names y.names; trans = λ x y z. alike-transitive x.names y.names z.names }

-- a further cite is put in the block of its names
pub block-last : {X : Type 0} (by_text : Bool) (xs : List (blocks.Gathered X)) (x : blocks.Gathered X)
    → gathered (is_of_block by_text) (xs ++ x ∷ []) ≡ put_in (is_of_block by_text) x (gathered (is_of_block by_text) xs)
block-last by_text xs x = gathered-last (is_of_block by_text) (one_block by_text).symm (one_block by_text).trans x xs

-- one more cite
pub gathered_more : (by_text : Bool) (cites : List Gathered) (i : ℕ) (x : Gathered) (now new : List (List (blocks.Gathered ℕ)))
    → i < length cites → x ≡ get_or cites i x → now ≡ gathered (is_of_block by_text) (map gathered_view (take i cites))
    → new ≡ put_in (is_of_block by_text) (gathered_view x) now → new ≡ gathered (is_of_block by_text) (map gathered_view (take (i + 1) cites))
gathered_more by_text cites i x now new less is h e =
    e
    ∙ ap (put_in (is_of_block by_text) (gathered_view x)) h
    ∙ sym (block-last by_text (map gathered_view (take i cites)) (gathered_view x))
    ∙ ap (λ y. gathered (is_of_block by_text) (map gathered_view (take i cites) ++ gathered_view y ∷ [])) is
    ∙ ap (gathered (is_of_block by_text)) (sym (map_more gathered_view cites i x less))
