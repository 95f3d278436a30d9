-- A tidy text stays as it is.
use Rattle.std.proofs.Common.{◌≡◌, Bool, true, false, not, List, [], ◌∷◌, map, refl, ap, ◌∙◌}
use Rattle.std.specs.Prelude.{if◌then◌else◌}
use Rattle.biblatex_content.specs.Styled.{Member}
use Rattle.biblatex_content.specs.Tidy.{spaced, is_space, squeezed, without_last_space, tidied, is_kept, is_tidy_from}
use Rattle.biblatex_content.proofs.Tests.{first_of_two, second_of_two, not_true}
use Rattle.biblatex_content.proofs.TidyTexts.{spaced_kept, no_space}
use Rattle.biblatex_writing.specs.SettledContent.{is_tidy_styled}

squeezed_tidy : (a : Bool) (ms : List Member) → is_tidy_from a ms ≡ true → squeezed a (map spaced ms) ≡ ms
squeezed_tidy a [] tidy = refl
squeezed_tidy a (m ∷ ms) tidy =
    let kept = first_of_two (is_kept a m) (is_tidy_from (is_space m) ms) tidy in
    let more = second_of_two (is_kept a m) (is_tidy_from (is_space m) ms) tidy in
    ap (λ (x : Member). squeezed a (x ∷ map spaced ms)) (spaced_kept a m kept) ∙ by_space (is_space m) refl kept (squeezed_tidy (is_space m) ms more)
  where
    by_space : (s : Bool) → is_space m ≡ s → is_kept a m ≡ true → squeezed s (map spaced ms) ≡ ms
        → (if s then (if a then squeezed true (map spaced ms) else m ∷ squeezed true (map spaced ms)) else m ∷ squeezed false (map spaced ms)) ≡ m ∷ ms
    by_space true is kept more =
        ap (λ (t : Bool). if t then squeezed true (map spaced ms) else m ∷ squeezed true (map spaced ms)) (no_space a m kept is) ∙ ap (λ (x : List Member). m ∷ x) more
    by_space false is kept more = ap (λ (x : List Member). m ∷ x) more

last_tidy : (a : Bool) (ms : List Member) → is_tidy_from a ms ≡ true → without_last_space ms ≡ ms
last_tidy a [] tidy = refl
last_tidy a (m ∷ []) tidy =
    let last = not_true (is_space m) (second_of_two (is_kept a m) (not (is_space m)) tidy) in
    ap (λ (t : Bool). if t then [] else m ∷ []) last
last_tidy a (m ∷ n ∷ ms) tidy = ap (λ (x : List Member). m ∷ x) (last_tidy (is_space m) (n ∷ ms) (second_of_two (is_kept a m) (is_tidy_from (is_space m) (n ∷ ms)) tidy))

pub tidied_same : (ms : List Member) → is_tidy_styled ms ≡ true → tidied ms ≡ ms
tidied_same [] tidy = refl
tidied_same (m ∷ ms) tidy = ap without_last_space (squeezed_tidy true (m ∷ ms) tidy) ∙ last_tidy true (m ∷ ms) tidy
