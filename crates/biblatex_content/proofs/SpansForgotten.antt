-- Members with spans and without them.
use Rattle.std.proofs.Common.{◌≡◌, ℕ, Bool, true, false, cond, List, [], ◌∷◌, ◌++◌, map, refl, sym, ap, ◌∙◌}
use Rattle.std.proofs.lemmas.List.{map-append}
use Rattle.biblatex_text.specs.Raw.{At}
use Rattle.biblatex_text.specs.declared.spanned.Spanned.{Spanned}
use Rattle.biblatex_content.specs.declared.chunk.Chunk.{Chunk}
use Rattle.biblatex_content.specs.declared.contents.Contents.{Contents}
use Rattle.biblatex_content.specs.Styled.{Member}
use Rattle.biblatex_content.specs.Tidy.{spaced, is_space, squeezed, without_last_space, tidied}
use Rattle.biblatex_content.specs.Spans.{all_at, without_spans, spanned, spanned_in, placed, spanned_so_far, spaced_at, squeezed_at, without_last_space_at, tidied_at}
use Rattle.biblatex_content.specs.Views.{members, styled, so_far}

-- members that were given a span are the same without it
at_forgotten : (start end : ℕ) (ms : List Member) → without_spans (all_at start end ms) ≡ ms
at_forgotten start end [] = refl
at_forgotten start end (m ∷ ms) = ap (λ (x : List Member). m ∷ x) (at_forgotten start end ms)

-- the members of chunks, without their spans, are the styled text
pub spans_forgotten : (cs : List (Spanned Chunk)) → without_spans (spanned cs) ≡ styled cs
spans_forgotten [] = refl
spans_forgotten (c ∷ cs) =
    map-append (λ (m : At Member). m.v) (spanned_in c) (spanned cs)
    ∙ rw (at_forgotten c.span.start c.span.end (members c.v), spans_forgotten cs) refl

pub so_far_forgotten : (c : Contents) → without_spans (spanned_so_far c) ≡ so_far c
so_far_forgotten c = spans_forgotten c.chunks.items

squeezed_forgotten : (after_space : Bool) (ms : List (At Member)) → without_spans (squeezed_at after_space (map spaced_at ms)) ≡ squeezed after_space (map spaced (without_spans ms))
squeezed_forgotten after_space [] = refl
squeezed_forgotten after_space (m ∷ ms) = by_tests (is_space (spaced m.v)) after_space (squeezed_forgotten true ms) (squeezed_forgotten false ms)
  where
    by_tests : (is after : Bool) → without_spans (squeezed_at true (map spaced_at ms)) ≡ squeezed true (map spaced (without_spans ms))
        → without_spans (squeezed_at false (map spaced_at ms)) ≡ squeezed false (map spaced (without_spans ms))
        → without_spans (cond is (cond after (squeezed_at true (map spaced_at ms)) (spaced_at m ∷ squeezed_at true (map spaced_at ms))) (spaced_at m ∷ squeezed_at false (map spaced_at ms)))
        ≡ cond is (cond after (squeezed true (map spaced (without_spans ms))) (spaced m.v ∷ squeezed true (map spaced (without_spans ms)))) (spaced m.v ∷ squeezed false (map spaced (without_spans ms)))
    by_tests true true more other = more
    by_tests true false more other = ap (λ (x : List Member). spaced m.v ∷ x) more
    by_tests false after more other = ap (λ (x : List Member). spaced m.v ∷ x) other

last_forgotten : (ms : List (At Member)) → without_spans (without_last_space_at ms) ≡ without_last_space (without_spans ms)
last_forgotten [] = refl
last_forgotten (m ∷ []) = by_test (is_space m.v)
  where
    by_test : (is : Bool) → without_spans (cond is [] (m ∷ [])) ≡ cond is [] (m.v ∷ [])
    by_test true = refl
    by_test false = refl
last_forgotten (m ∷ n ∷ ms) = ap (λ (x : List Member). m.v ∷ x) (last_forgotten (n ∷ ms))

-- what is tidied with its spans is tidied as it is without them
pub tidied_forgotten : (ms : List (At Member)) → without_spans (tidied_at ms) ≡ tidied (without_spans ms)
tidied_forgotten ms = last_forgotten (squeezed_at true (map spaced_at ms)) ∙ ap without_last_space (squeezed_forgotten true ms)

-- members of two lists with one span are those of each
pub at_append : (start end : ℕ) (ms ns : List Member) → all_at start end (ms ++ ns) ≡ all_at start end ms ++ all_at start end ns
at_append start end ms ns = map-append (λ (m : Member). record { v = m; start = start; end = end }) ms ns

-- chunks that are placed spell what they spelled
pub placed_styled : (start end : ℕ) (cs : List (Spanned Chunk)) → styled (map (placed start end) cs) ≡ styled cs
placed_styled start end [] = refl
placed_styled start end (c ∷ cs) = ap (λ (x : List Member). members c.v ++ x) (placed_styled start end cs)

-- their members have the span where they are placed
pub placed_spanned : (start end : ℕ) (cs : List (Spanned Chunk)) → spanned (map (placed start end) cs) ≡ all_at start end (styled cs)
placed_spanned start end [] = refl
placed_spanned start end (c ∷ cs) =
    ap (λ (x : List (At Member)). all_at start end (members c.v) ++ x) (placed_spanned start end cs) ∙ sym (at_append start end (members c.v) (styled cs))
