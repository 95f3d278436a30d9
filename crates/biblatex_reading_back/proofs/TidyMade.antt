-- What tidying gives is a tidy text; so a text that it leaves as it is, is one.
use Rattle.std.proofs.Common.{◌≡◌, ℕ, Bool, true, false, true≢false, not, ◌&&◌, ◌||◌, ◌==◌, List, [], ◌∷◌, map, refl, sym, subst}
use Rattle.std.specs.Prelude.{if◌then◌else◌}
use Rattle.laws.specs.Characters.{space}
use Rattle.biblatex_tex.specs.Character.{is_blank}
use Rattle.biblatex_content.specs.Styled.{Member, Letter, Math}
use Rattle.biblatex_content.specs.Tidy.{spaced, is_space, squeezed, without_last_space, tidied, is_blank_member, is_kept, is_tidy_from}
use Rattle.biblatex_content.proofs.Tests.{first_of_two, second_of_two}
use Rattle.biblatex_content.proofs.TidyTexts.{no_space}
use Rattle.biblatex_writing.specs.SettledContent.{is_tidy_styled}

both : (a b : Bool) → a ≡ true → b ≡ true → (a && b) ≡ true
both true b one other = other
both false b one other = absurd (true≢false (sym one))

-- each member is kept after what stands before it
abbrev all_kept : Bool → List Member → Bool
all_kept a [] = true
all_kept a (m ∷ ms) = is_kept a m && all_kept (is_space m) ms

-- what is no space, once blanks have become spaces, is kept everywhere
other_kept : (a : Bool) (m : Member) → is_space (spaced m) ≡ false → is_kept a (spaced m) ≡ true
other_kept a (Letter kind c) is = by_test (is_blank c) refl is
  where
    by_test : (b : Bool) → is_blank c ≡ b → is_space (if b then Letter kind space else Letter kind c) ≡ false → is_kept a (if b then Letter kind space else Letter kind c) ≡ true
    by_test true e is = absurd (true≢false is)
    by_test false e is = kept (is_blank c) e
      where
        kept : (b : Bool) → b ≡ false → (not b || ((c == space) && not a)) ≡ true
        kept false e = refl
        kept true e = absurd (true≢false e)
other_kept a (Math text) is = refl

space_kept : (m : Member) → is_space m ≡ true → is_kept false m ≡ true
space_kept m is = kept (is_blank_member m) (is_space m) is
  where
    kept : (b s : Bool) → s ≡ true → (not b || (s && not false)) ≡ true
    kept false s is = refl
    kept true true is = refl
    kept true false is = absurd (true≢false (sym is))

squeezed_kept : (a : Bool) (ms : List Member) → all_kept a (squeezed a (map spaced ms)) ≡ true
squeezed_kept a [] = refl
squeezed_kept a (m ∷ ms) = by_space a (is_space (spaced m)) refl (squeezed_kept true ms) (squeezed_kept false ms)
  where
    after : (s : Bool) → is_space (spaced m) ≡ s → all_kept s (squeezed s (map spaced ms)) ≡ true → all_kept (is_space (spaced m)) (squeezed s (map spaced ms)) ≡ true
    after s is rest = subst (λ (t : Bool). all_kept t (squeezed s (map spaced ms)) ≡ true) (sym is) rest

    by_space : (a s : Bool) → is_space (spaced m) ≡ s → all_kept true (squeezed true (map spaced ms)) ≡ true → all_kept false (squeezed false (map spaced ms)) ≡ true
        → all_kept a (if s then (if a then squeezed true (map spaced ms) else spaced m ∷ squeezed true (map spaced ms)) else spaced m ∷ squeezed false (map spaced ms)) ≡ true
    by_space true true is spaces others = spaces
    by_space false true is spaces others =
        both (is_kept false (spaced m)) (all_kept (is_space (spaced m)) (squeezed true (map spaced ms))) (space_kept (spaced m) is) (after true is spaces)
    by_space a false is spaces others =
        both (is_kept a (spaced m)) (all_kept (is_space (spaced m)) (squeezed false (map spaced ms))) (other_kept a m is) (after false is others)

not_false : (a : Bool) → a ≡ false → not a ≡ true
not_false false e = refl
not_false true e = absurd (true≢false e)

last_made : (a : Bool) (m : Member) (ms : List Member) → all_kept a (m ∷ ms) ≡ true → is_tidy_from a (without_last_space (m ∷ ms)) ≡ true
last_made a m [] kept = by_space (is_space m) refl (first_of_two (is_kept a m) true kept)
  where
    by_space : (s : Bool) → is_space m ≡ s → is_kept a m ≡ true → is_tidy_from a (if s then [] else m ∷ []) ≡ true
    by_space true is kept = not_false a (no_space a m kept is)
    by_space false is kept = both (is_kept a m) (not (is_space m)) kept (not_false (is_space m) is)
last_made a m (n ∷ ms) kept =
    both (is_kept a m) (is_tidy_from (is_space m) (without_last_space (n ∷ ms)))
    (first_of_two (is_kept a m) (all_kept (is_space m) (n ∷ ms)) kept)
    (last_made (is_space m) n ms (second_of_two (is_kept a m) (all_kept (is_space m) (n ∷ ms)) kept))

pub tidied_tidy : (ms : List Member) → is_tidy_styled (tidied ms) ≡ true
tidied_tidy ms = made (squeezed true (map spaced ms)) (squeezed_kept true ms)
  where
    styled : (ns : List Member) → is_tidy_from true ns ≡ true → is_tidy_styled ns ≡ true
    styled [] tidy = refl
    styled (n ∷ ns) tidy = tidy

    made : (ns : List Member) → all_kept true ns ≡ true → is_tidy_styled (without_last_space ns) ≡ true
    made [] kept = refl
    made (n ∷ ns) kept = styled (without_last_space (n ∷ ns)) (last_made true n ns kept)

pub same_tidy : (ms : List Member) → tidied ms ≡ ms → is_tidy_styled ms ≡ true
same_tidy ms same = subst (λ (ns : List Member). is_tidy_styled ns ≡ true) same (tidied_tidy ms)
