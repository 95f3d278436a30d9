-- What is still to be written of members after a text that tidying leaves as it is.
use Rattle.std.proofs.Common.{◌≡◌, ℕ, Bool, true, false, not, ◌&&◌, ◌||◌, eqb, List, [], ◌∷◌, ◌++◌, map, length, ◌<◌, refl, sym, ap, ◌∙◌, subst, append_assoc, arith}
use Rattle.laws.specs.Characters as character
use Rattle.laws.specs.Text.{is_filled}
use Rattle.std.proofs.lemmas.Bool.{eqb-true}
use Rattle.std.proofs.lemmas.List.{map-append, length-append}
use Rattle.biblatex_text.specs.Raw.{At}
use Rattle.biblatex_tex.specs.Character.{is_blank}
use Rattle.biblatex_content.specs.declared.chunk.Kind.{Kind}
use Rattle.biblatex_content.specs.declared.tidy.Gap.{Gap}
use Rattle.biblatex_content.specs.declared.tidy.Gap.TheVariants.{Start, Nothing, Space}
use Rattle.biblatex_content.specs.Styled.{Member, Letter, letters}
use Rattle.biblatex_content.specs.Tidy.{spaced, squeezed, without_last_space, stays, is_tidy, owed, tidied_after}
use Rattle.biblatex_content.specs.Spans.{all_at, spaced_at, squeezed_at, without_last_space_at, owed_at, tidied_after_at}
use Rattle.biblatex_content.proofs.Tests.{first_of_two, second_of_two, both, not_true, blank_stays, other_stays, space_blank}

-- what stays after a space stays after another character
stays_too : (blank is_space : Bool) → not (blank && (true || not is_space)) ≡ true → not (blank && (false || not is_space)) ≡ true
stays_too true is_space e = absurd cc
stays_too false is_space e = refl

tidy_too : (cs : List ℕ) → is_tidy true cs ≡ true → is_tidy false cs ≡ true
tidy_too [] e = absurd cc
tidy_too (c ∷ cs) e = both (stays false c) _ (stays_too (is_blank c) (eqb c character.space) (first_of_two (stays true c) _ e)) (second_of_two (stays true c) _ e)

-- squeezing leaves tidy characters at the start as they are, of members with spans
squeezed_at-prefix : (kind : Kind) (start end : ℕ) (after_space : Bool) (cs : List ℕ) (ms : List (At Member)) → is_tidy after_space cs ≡ true
    → squeezed_at after_space (map spaced_at (all_at start end (letters kind cs) ++ ms)) ≡ all_at start end (letters kind cs) ++ squeezed_at false (map spaced_at ms)
squeezed_at-prefix kind start end after_space [] ms e =
    let same = not_true after_space e in
    rw same refl
squeezed_at-prefix kind start end after_space (c ∷ cs) ms e = by_test (eqb c character.space) refl (squeezed_at-prefix kind start end (eqb c character.space) cs ms (second_of_two (stays after_space c) _ e))
  where
    rest : List (At Member)
    rest = all_at start end (letters kind cs) ++ ms

    tail : List (At Member)
    tail = all_at start end (letters kind cs) ++ squeezed_at false (map spaced_at ms)

    letter : ℕ → At Member
    letter d = record { v = Letter kind d; start = start; end = end }

    here : (b : Bool) → eqb c character.space ≡ b → not (is_blank c && (after_space || not b)) ≡ true
    here b is = subst (λ (x : Bool). not (is_blank c && (after_space || not x)) ≡ true) is (first_of_two (stays after_space c) _ e)

    by_test : (b : Bool) → eqb c character.space ≡ b → squeezed_at (eqb c character.space) (map spaced_at rest) ≡ tail → squeezed_at after_space (map spaced_at (letter c ∷ rest)) ≡ letter c ∷ tail
    by_test true is more =
        let blank = space_blank c is in
        let none = blank_stays (is_blank c) after_space (here true is) blank in
        let then : squeezed_at true (map spaced_at rest) ≡ tail = subst (λ (x : Bool). squeezed_at x (map spaced_at rest) ≡ tail) is more in
        rw (blank, none, then) (ap (λ (d : ℕ). letter d ∷ tail) (sym (eqb-true c character.space is)))
    by_test false is more =
        let other = other_stays (is_blank c) after_space (here false is) in
        let then : squeezed_at false (map spaced_at rest) ≡ tail = subst (λ (x : Bool). squeezed_at x (map spaced_at rest) ≡ tail) is more in
        let same : spaced_at (letter c) ≡ letter c = rw other refl in
        let kept : squeezed_at after_space (letter c ∷ map spaced_at rest) ≡ letter c ∷ squeezed_at false (map spaced_at rest) = rw is refl in
        ap (λ (m : At Member). squeezed_at after_space (m ∷ map spaced_at rest)) same ∙ (kept ∙ ap (λ (x : List (At Member)). letter c ∷ x) then)

last_at-prefix : (kind : Kind) (start end : ℕ) (after_space : Bool) (cs : List ℕ) (ms : List (At Member)) → is_tidy after_space cs ≡ true
    → without_last_space_at (all_at start end (letters kind cs) ++ ms) ≡ all_at start end (letters kind cs) ++ without_last_space_at ms
last_at-prefix kind start end after_space [] ms e = refl
last_at-prefix kind start end after_space (c ∷ []) [] e =
    let other = not_true (eqb c character.space) (second_of_two (stays after_space c) _ e) in
    rw other refl
last_at-prefix kind start end after_space (c ∷ []) (m ∷ ms) e = refl
last_at-prefix kind start end after_space (c ∷ d ∷ cs) ms e =
    ap (λ (x : List (At Member)). record { v = Letter kind c; start = start; end = end } ∷ x) (last_at-prefix kind start end (eqb c character.space) (d ∷ cs) ms (second_of_two (stays after_space c) _ e))

prefix_at : (kind : Kind) (start end : ℕ) (after_space : Bool) (cs : List ℕ) (ms : List (At Member)) → is_tidy after_space cs ≡ true
    → without_last_space_at (squeezed_at after_space (map spaced_at (all_at start end (letters kind cs) ++ ms))) ≡ all_at start end (letters kind cs) ++ without_last_space_at (squeezed_at false (map spaced_at ms))
prefix_at kind start end after_space cs ms e =
    ap without_last_space_at (squeezed_at-prefix kind start end after_space cs ms e) ∙ last_at-prefix kind start end after_space cs (squeezed_at false (map spaced_at ms)) e

pub prefix_comes_at : (gap : Gap) (s e : ℕ) (kind : Kind) (start end : ℕ) (cs : List ℕ) (ms : List (At Member)) → is_tidy true cs ≡ true
    → owed_at s e gap ++ (all_at start end (letters kind cs) ++ tidied_after_at s e Nothing ms) ≡ tidied_after_at s e gap (all_at start end (letters kind cs) ++ ms)
prefix_comes_at Start s e kind start end cs ms tidy = sym (prefix_at kind start end true cs ms tidy)
prefix_comes_at Nothing s e kind start end cs ms tidy = sym (prefix_at kind start end false cs ms (tidy_too cs tidy))
prefix_comes_at (Space other) s e kind start end [] ms tidy = absurd cc
prefix_comes_at (Space other) s e kind start end (c ∷ cs) ms tidy =
    let space : At Member = record { v = Letter other character.space; start = s; end = e } in
    let rest : List (At Member) = squeezed_at false (map spaced_at ms) in
    sym (ap (λ (x : List (At Member)). without_last_space_at (space ∷ x)) (squeezed_at-prefix kind start end true (c ∷ cs) ms tidy)
    ∙ ap (λ (x : List (At Member)). space ∷ x) (last_at-prefix kind start end true (c ∷ cs) rest tidy))

-- the same of members without spans
squeezed-prefix : (kind : Kind) (after_space : Bool) (cs : List ℕ) (ms : List Member) → is_tidy after_space cs ≡ true
    → squeezed after_space (map spaced (letters kind cs ++ ms)) ≡ letters kind cs ++ squeezed false (map spaced ms)
squeezed-prefix kind after_space [] ms e =
    let same = not_true after_space e in
    rw same refl
squeezed-prefix kind after_space (c ∷ cs) ms e = by_test (eqb c character.space) refl (squeezed-prefix kind (eqb c character.space) cs ms (second_of_two (stays after_space c) _ e))
  where
    rest : List Member
    rest = letters kind cs ++ ms

    tail : List Member
    tail = letters kind cs ++ squeezed false (map spaced ms)

    here : (b : Bool) → eqb c character.space ≡ b → not (is_blank c && (after_space || not b)) ≡ true
    here b is = subst (λ (x : Bool). not (is_blank c && (after_space || not x)) ≡ true) is (first_of_two (stays after_space c) _ e)

    by_test : (b : Bool) → eqb c character.space ≡ b → squeezed (eqb c character.space) (map spaced rest) ≡ tail → squeezed after_space (map spaced (Letter kind c ∷ rest)) ≡ Letter kind c ∷ tail
    by_test true is more =
        let blank = space_blank c is in
        let none = blank_stays (is_blank c) after_space (here true is) blank in
        let then : squeezed true (map spaced rest) ≡ tail = subst (λ (x : Bool). squeezed x (map spaced rest) ≡ tail) is more in
        rw (blank, none, then) (ap (λ (d : ℕ). Letter kind d ∷ tail) (sym (eqb-true c character.space is)))
    by_test false is more =
        let other = other_stays (is_blank c) after_space (here false is) in
        let then : squeezed false (map spaced rest) ≡ tail = subst (λ (x : Bool). squeezed x (map spaced rest) ≡ tail) is more in
        let same : spaced (Letter kind c) ≡ Letter kind c = rw other refl in
        let kept : squeezed after_space (Letter kind c ∷ map spaced rest) ≡ Letter kind c ∷ squeezed false (map spaced rest) = rw is refl in
        ap (λ (m : Member). squeezed after_space (m ∷ map spaced rest)) same ∙ (kept ∙ ap (λ (x : List Member). Letter kind c ∷ x) then)

last-prefix : (kind : Kind) (after_space : Bool) (cs : List ℕ) (ms : List Member) → is_tidy after_space cs ≡ true
    → without_last_space (letters kind cs ++ ms) ≡ letters kind cs ++ without_last_space ms
last-prefix kind after_space [] ms e = refl
last-prefix kind after_space (c ∷ []) [] e =
    let other = not_true (eqb c character.space) (second_of_two (stays after_space c) _ e) in
    rw other refl
last-prefix kind after_space (c ∷ []) (m ∷ ms) e = refl
last-prefix kind after_space (c ∷ d ∷ cs) ms e = ap (λ (x : List Member). Letter kind c ∷ x) (last-prefix kind (eqb c character.space) (d ∷ cs) ms (second_of_two (stays after_space c) _ e))

prefix_of : (kind : Kind) (after_space : Bool) (cs : List ℕ) (ms : List Member) → is_tidy after_space cs ≡ true
    → without_last_space (squeezed after_space (map spaced (letters kind cs ++ ms))) ≡ letters kind cs ++ without_last_space (squeezed false (map spaced ms))
prefix_of kind after_space cs ms e = ap without_last_space (squeezed-prefix kind after_space cs ms e) ∙ last-prefix kind after_space cs (squeezed false (map spaced ms)) e

pub prefix_comes : (gap : Gap) (kind : Kind) (cs : List ℕ) (ms : List Member) → is_tidy true cs ≡ true
    → owed gap ++ (letters kind cs ++ tidied_after Nothing ms) ≡ tidied_after gap (letters kind cs ++ ms)
prefix_comes Start kind cs ms tidy = sym (prefix_of kind true cs ms tidy)
prefix_comes Nothing kind cs ms tidy = sym (prefix_of kind false cs ms (tidy_too cs tidy))
prefix_comes (Space other) kind [] ms tidy = absurd cc
prefix_comes (Space other) kind (c ∷ cs) ms tidy =
    sym (ap (λ (x : List Member). without_last_space (Letter other character.space ∷ x)) (squeezed-prefix kind true (c ∷ cs) ms tidy)
    ∙ ap (λ (x : List Member). Letter other character.space ∷ x) (last-prefix kind true (c ∷ cs) (squeezed false (map spaced ms)) tidy))

-- the letters of a text are those of its two parts
pub letters_parted : (kind : Kind) (cs ds : List ℕ) (ms : List Member) → letters kind (cs ++ ds) ++ ms ≡ letters kind cs ++ (letters kind ds ++ ms)
letters_parted kind cs ds ms = ap (λ (x : List Member). x ++ ms) (map-append (Letter kind) cs ds) ∙ append_assoc (letters kind cs) (letters kind ds) ms

pub letters_parted_at : (kind : Kind) (start end : ℕ) (cs ds : List ℕ) (ms : List (At Member))
    → all_at start end (letters kind (cs ++ ds)) ++ ms ≡ all_at start end (letters kind cs) ++ (all_at start end (letters kind ds) ++ ms)
letters_parted_at kind start end cs ds ms =
    ap (λ (x : List (At Member)). x ++ ms) (ap (all_at start end) (map-append (Letter kind) cs ds) ∙ map-append (λ (m : Member). record { v = m; start = start; end = end }) (letters kind cs) (letters kind ds))
    ∙ append_assoc (all_at start end (letters kind cs)) (all_at start end (letters kind ds)) ms

pub text_put : (done gap text rest : List Member) → ((done ++ gap) ++ text) ++ rest ≡ done ++ (gap ++ (text ++ rest))
text_put done gap text rest = append_assoc (done ++ gap) text rest ∙ append_assoc done gap (text ++ rest)

pub shorter : (whole prefix rest : List ℕ) → is_filled prefix ≡ true → whole ≡ prefix ++ rest → length rest < length whole
shorter whole [] rest filled parts = absurd cc
shorter whole (c ∷ prefix) rest filled parts = omega (arith, ap length parts, length-append prefix rest)
