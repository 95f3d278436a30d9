-- The laws of parts, classes and blocks.
use Rattle.std.proofs.Common.{◌≡◌, ℕ, ◌+◌, Bool, true, false, true≢false, cond, not, ◌&&◌, List, [], ◌∷◌, ◌++◌, length, map, take, drop, filter, flat_map, nat_eq, None, refl, sym, ap, ◌∙◌}
use Rattle.std.specs.Cmp.{IsEquivalence, IsPartialEquivalence, partial_equiv_from_equiv}
use Rattle.std.specs.Cmp.Lexicographic.{on_texts_equal}
use Rattle.std.specs.List.{enumerate_from, list_any}
use Rattle.std.proofs.lemmas.Bool.{and_from, and_parts, eqb-true, not_from_true, or_from, or_left, or_parts, or_right}
use Rattle.std.proofs.lemmas.Cmp.{nat_eq_equiv}
use Rattle.std.proofs.lemmas.List.Elements.{filter_agree}
use Rattle.rendering_context.specs.Cites.{allows_suffix}
use Rattle.rendering_style.specs.Styles.{Citation}
use Rattle.driver_names.specs.Prints.{Printed, only_repeats, prints_date}
use Rattle.driver_disambiguation.specs.Classes.{is_alike, is_mixed, parts}
use Rattle.driver_disambiguation.specs.Gathered.{given_to_classes}
use Rattle.driver_disambiguation.proofs.Classing.{more_than_one}
use Rattle.driver_disambiguation.proofs.Lists.{any-map}
use Rattle.driver_blocks.specs.Blocks.{Gathered, blocks, gathered, gathered_at, gathers, is_of_block}
use Rattle.driver_blocks.specs.Collapsing.{collapsed}
use Rattle.driver_blocks.proofs.GatheredSteps.{one_block}
use Rattle.driver_partitions.specs.Parts.{go_together}
use Rattle.driver_partitions.specs.Classes.{are_of_one_block, are_of_two_entries}
use Rattle.driver_partitions.specs.Laws.{BlocksAreParts, CitationsHaveBlocks, ClassesAreParts, GatheredAreThoseOfOne, IndicesAreInOnePart, PartsAreThoseOfTwo, RoundsGiveToClasses}
use Rattle.driver_partitions.proofs.Parted.{apart}
use Rattle.driver_partitions.proofs.Found.{gathered_found, parts_found, the_parts}

pub parts_of_two : (X : Type 0) → PartsAreThoseOfTwo X
parts_of_two X = λ alike xs ps e. the_parts alike xs (partial_equiv_from_equiv e) 1 (parts alike xs) (parts_found alike xs e.refl) ps

pub gathered_of_one : (X : Type 0) → GatheredAreThoseOfOne X
gathered_of_one X = λ same xs ps per. the_parts same xs per 0 (gathered same xs) (gathered_found same xs) ps

pub in_one_part : (X : Type 0) → IndicesAreInOnePart X
in_one_part X = λ alike xs n parts are. apart (go_together alike xs) (length xs) n parts are

-- printing one text is an equivalence
alike_texts : IsEquivalence is_alike
alike_texts = on_texts_equal (λ (s : Printed). s.text)

-- whether some cite is of another entry
abbrev differs : ℕ → List Printed → Bool
differs entry ss = list_any (λ s. not (nat_eq entry s.entry)) ss

is_true : (b : Bool) → not b ≡ false → b ≡ true
is_true true e = refl
is_true false e = absurd (true≢false e)

none_differs : (entry : ℕ) (all ss : List Printed) → differs entry all ≡ false → differs entry ss ≡ false → list_any (λ s. differs s.entry all) ss ≡ false
none_differs entry all [] none h = refl
none_differs entry all (s ∷ ss) none h =
    let h_parts = or_parts (not (nat_eq entry s.entry)) (differs entry ss) h in
    let e : entry ≡ s.entry = eqb-true entry s.entry (is_true (nat_eq entry s.entry) h_parts.0) in
    or_from (differs s.entry all) (list_any (λ t. differs t.entry all) ss) (ap (λ m. differs m all) (sym e) ∙ none) (none_differs entry all ss none h_parts.1)

-- cites are of more than one entry where some two of them are of different ones
mixed_are_two : (ss : List Printed) → is_mixed ss ≡ are_of_two_entries ss
mixed_are_two [] = refl
mixed_are_two (s ∷ ss) =
    more_than_one s.entry (map (λ (t : Printed). t.entry) ss)
    ∙ sym (any-map (λ (t : Printed). t.entry) (λ e. not (nat_eq s.entry e)) ss)
    ∙ by_first (differs s.entry ss) refl
  where
    by_first : (b : Bool) → differs s.entry ss ≡ b → differs s.entry ss ≡ are_of_two_entries (s ∷ ss)
    by_first true e =
        e ∙ sym (or_left (differs s.entry (s ∷ ss)) (list_any (λ t. differs t.entry (s ∷ ss)) ss) (or_right (not (nat_eq s.entry s.entry)) (differs s.entry ss) e))
    by_first false e =
        let all = or_from (not (nat_eq s.entry s.entry)) (differs s.entry ss) (not_from_true (nat_eq s.entry s.entry) (nat_eq_equiv.refl s.entry)) e in
        e ∙ sym (none_differs s.entry (s ∷ ss) (s ∷ ss) all all)

pub classes_law : ClassesAreParts
classes_law = λ ss cs.
    let xs = filter (λ (s : Printed). allows_suffix s.state && not (only_repeats s)) ss in
    let agree = filter_agree is_mixed are_of_two_entries mixed_are_two (parts is_alike xs) in (
      λ is. (parts is_alike xs, (parts_of_two Printed is_alike xs (parts is_alike xs) alike_texts).0 refl, is ∙ agree),
      λ are. are.2 ∙ ap (filter are_of_two_entries) ((parts_of_two Printed is_alike xs are.0 alike_texts).1 are.1) ∙ sym agree,
    )

module _ {X : Type 0} where
  one_block_of : (c : Citation) → IsPartialEquivalence (are_of_one_block {X = X} c)
  one_block_of c = record { symm = λ x y. ap (λ b. gathers c && b) ((one_block c.gathers_by_text).symm x y); trans = trans }
    where
      trans : (x y z : Gathered X) → are_of_one_block c x y ≡ true → are_of_one_block c y z ≡ true → are_of_one_block c x z ≡ true
      trans x y z p q =
          let same = is_of_block c.gathers_by_text in
          let a = and_parts (gathers c) (same x y) p in
          let b = and_parts (gathers c) (same y z) q in
          and_from (gathers c) (same x z) a.0 ((one_block c.gathers_by_text).trans x y z a.1 b.1)

  none_same : (xs : List (Gathered X)) → list_any (λ x. false) xs ≡ false
  none_same [] = refl
  none_same (x ∷ xs) = none_same xs

  none_left : (xs : List (Gathered X)) → filter (λ x. false) xs ≡ []
  none_left [] = refl
  none_left (x ∷ xs) = none_left xs

  alone : (all : List (Gathered X)) (n : ℕ) (xs : List (Gathered X)) → flat_map (gathered_at (λ x y. false) all) (enumerate_from n xs) ≡ map (λ x. x ∷ []) xs
  alone all n [] = refl
  alone all n (x ∷ xs) =
      (λ t. cond (none_same (take n all) t) [] ((x ∷ none_left (drop (n + 1) all) t) ∷ []) ++ flat_map (gathered_at (λ x y. false) all) (enumerate_from (n + 1) xs))
      ∙ ap (λ bs. (x ∷ []) ∷ bs) (alone all (n + 1) xs)

  -- where nothing is gathered each cite goes by itself
  blocks_gathered : (c : Citation) (xs : List (Gathered X)) → blocks c xs ≡ gathered (are_of_one_block c) xs
  blocks_gathered c xs = by_style (gathers c)
    where
      by_style : (b : Bool) → cond b (gathered (is_of_block c.gathers_by_text) xs) (map (λ x. x ∷ []) xs) ≡ gathered (λ x y. b && is_of_block c.gathers_by_text x y) xs
      by_style true = refl
      by_style false = sym (alone xs 0 xs)

pub blocks_law : (X : Type 0) → BlocksAreParts X
blocks_law X = λ c xs bs.
    let law = gathered_of_one (Gathered X) (are_of_one_block c) xs bs (one_block_of c) in
    (λ is. law.0 (is ∙ blocks_gathered c xs), λ are. law.1 are ∙ sym (blocks_gathered c xs))

pub rounds_law : RoundsGiveToClasses
rounds_law = λ adds_names round ss cs are. ap (given_to_classes adds_names (list_any prints_date ss) round) (sym ((classes_law ss cs).1 are))

pub citations_law : (X : Type 0) → CitationsHaveBlocks X
citations_law X = λ c some_purpose xs bs are. ap (collapsed c (cond some_purpose None c.collapse)) (sym ((blocks_law X c xs bs).1 are))
