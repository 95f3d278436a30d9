-- Chunks that are tidy, of which no two neighbours are text of one kind, stay as they are.
use Rattle.std.proofs.Common.{◌≡◌, ℕ, Bool, true, false, true≢false, not, ◌&&◌, ◌||◌, ◌==◌, List, [], ◌∷◌, ◌++◌, map, Option, Some, None, refl, sym, ap, ◌∙◌}
use Rattle.std.specs.Prelude.{if◌then◌else◌}
use Rattle.std.proofs.lemmas.Bool.{eqb-true}
use Rattle.std.specs.Str.{chars}
use Rattle.laws.specs.Characters.{space}
use Rattle.laws.specs.Text.{characters, is_filled}
use Rattle.biblatex_text.specs.Raw.{At}
use Rattle.biblatex_text.specs.declared.spanned.Spanned.{Spanned}
use Rattle.biblatex_tex.specs.Character.{is_blank}
use Rattle.biblatex_content.specs.declared.chunk.Kind.{Kind}
use Rattle.biblatex_content.specs.declared.chunk.Kind.TheVariants.{Normal, Verbatim}
use Rattle.biblatex_content.specs.declared.chunk.Chunk.{Chunk}
use Rattle.biblatex_content.specs.declared.chunk.Chunk.TheVariants as chunks
use Rattle.biblatex_content.specs.Styled.{Member, Letter, Math, letters}
use Rattle.biblatex_content.specs.Parted.{is_full, kind_of, is_apart, first_kind, are_parted}
use Rattle.biblatex_content.specs.Tidy.{spaced, is_space, tidied, stays, spaced_after, is_kept, is_tidy_from, is_tidy_after}
use Rattle.biblatex_content.specs.Spans.{all_at, without_spans, spanned, spaced_at, squeezed_at, without_last_space_at, tidied_at, goes_on, before, member_spans, chunk_spans, AreDone}
use Rattle.biblatex_content.specs.Views.{members, styled}
use Rattle.biblatex_content.proofs.SpansForgotten.{spans_forgotten, tidied_forgotten}
use Rattle.biblatex_content.proofs.SpansReached.{text_before}
use Rattle.biblatex_content.proofs.Tests.{first_of_two, second_of_two, not_true, space_blank}

-- a member that is kept stays as it is
pub spaced_kept : (a : Bool) (m : Member) → is_kept a m ≡ true → spaced m ≡ m
spaced_kept a (Letter kind c) kept = by_tests (is_blank c) (c == space) refl kept
  where
    by_tests : (b s : Bool) → (c == space) ≡ s → (not b || (s && not a)) ≡ true → (if b then Letter kind space else Letter kind c) ≡ Letter kind c
    by_tests false s e k = refl
    by_tests true true e k = ap (λ (x : ℕ). Letter kind x) (sym (eqb-true c space e))
    by_tests true false e k = absurd (true≢false (sym k))
spaced_kept a (Math text) kept = refl

-- after a space, or at the start, no space is kept
pub no_space : (a : Bool) (m : Member) → is_kept a m ≡ true → is_space m ≡ true → a ≡ false
no_space a (Letter kind c) kept is = by_tests a (is_blank c) (c == space) (space_blank c is) is kept
  where
    by_tests : (t b s : Bool) → b ≡ true → s ≡ true → (not b || (s && not t)) ≡ true → t ≡ false
    by_tests false b s p q k = refl
    by_tests true false s p q k = absurd (true≢false (sym p))
    by_tests true true false p q k = absurd (true≢false (sym q))
    by_tests true true true p q k = absurd (true≢false (sym k))
no_space a (Math text) kept is = absurd (true≢false (sym is))

-- two ways to say that a character is kept
kept_alike : (blank is_space after_space : Bool) → not (blank && (after_space || not is_space)) ≡ (not blank || (is_space && not after_space))
kept_alike false s a = refl
kept_alike true true true = refl
kept_alike true true false = refl
kept_alike true false true = refl
kept_alike true false false = refl

-- characters before other members
pub tidy_letters : (kind : Kind) (a : Bool) (cs : List ℕ) (ms : List Member) → is_tidy_from a (letters kind cs ++ ms) ≡ is_tidy_after (spaced_after a cs) ms
tidy_letters kind a [] ms = refl
tidy_letters kind a (c ∷ cs) ms =
    ap (λ (b : Bool). b && is_tidy_from (c == space) (letters kind cs ++ ms)) (sym (kept_alike (is_blank c) (c == space) a))
    ∙ by_test (stays a c) (tidy_letters kind (c == space) cs ms)
  where
    by_test : (b : Bool) → is_tidy_from (c == space) (letters kind cs ++ ms) ≡ is_tidy_after (spaced_after (c == space) cs) ms
        → (b && is_tidy_from (c == space) (letters kind cs ++ ms)) ≡ is_tidy_after (if b then spaced_after (c == space) cs else None) ms
    by_test true more = more
    by_test false more = refl

-- the same, of the characters of bytes
pub letters_after : (kind : Kind) (a : Bool) (r : Option Bool) {bytes text : List ℕ} → bytes ≡ text → r ≡ spaced_after a (chars bytes)
    → (ms : List Member) → is_tidy_from a (letters kind (chars text) ++ ms) ≡ is_tidy_after r ms
letters_after kind a r {bytes} {text} is e ms =
    tidy_letters kind a (chars text) ms ∙ ap (λ (x : Option Bool). is_tidy_after x ms) (sym (e ∙ ap (λ (x : List ℕ). spaced_after a (chars x)) is))

-- Members with spans that are tidy without them stay as they are.
squeezed_tidy : (a : Bool) (ms : List (At Member)) → is_tidy_from a (without_spans ms) ≡ true → squeezed_at a (map spaced_at ms) ≡ ms
squeezed_tidy a [] tidy = refl
squeezed_tidy a (m ∷ ms) tidy =
    let kept = first_of_two (is_kept a m.v) (is_tidy_from (is_space m.v) (without_spans ms)) tidy in
    let more = second_of_two (is_kept a m.v) (is_tidy_from (is_space m.v) (without_spans ms)) tidy in
    ap (λ (x : Member). squeezed_at a (record { v = x; start = m.start; end = m.end } ∷ map spaced_at ms)) (spaced_kept a m.v kept)
    ∙ by_space (is_space m.v) refl kept (squeezed_tidy (is_space m.v) ms more)
  where
    by_space : (s : Bool) → is_space m.v ≡ s → is_kept a m.v ≡ true → squeezed_at s (map spaced_at ms) ≡ ms
        → (if s then (if a then squeezed_at true (map spaced_at ms) else m ∷ squeezed_at true (map spaced_at ms)) else m ∷ squeezed_at false (map spaced_at ms)) ≡ m ∷ ms
    by_space true is kept more =
        ap (λ (t : Bool). if t then squeezed_at true (map spaced_at ms) else m ∷ squeezed_at true (map spaced_at ms)) (no_space a m.v kept is) ∙ ap (λ (x : List (At Member)). m ∷ x) more
    by_space false is kept more = ap (λ (x : List (At Member)). m ∷ x) more

last_tidy : (a : Bool) (ms : List (At Member)) → is_tidy_from a (without_spans ms) ≡ true → without_last_space_at ms ≡ ms
last_tidy a [] tidy = refl
last_tidy a (m ∷ []) tidy =
    let last = not_true (is_space m.v) (second_of_two (is_kept a m.v) (not (is_space m.v)) tidy) in
    ap (λ (t : Bool). if t then [] else m ∷ []) last
last_tidy a (m ∷ n ∷ ms) tidy =
    ap (λ (x : List (At Member)). m ∷ x) (last_tidy (is_space m.v) (n ∷ ms) (second_of_two (is_kept a m.v) (is_tidy_from (is_space m.v) (without_spans (n ∷ ms))) tidy))

tidied_same : (ms : List (At Member)) → is_tidy_from true (without_spans ms) ≡ true → tidied_at ms ≡ ms
tidied_same ms tidy = ap without_last_space_at (squeezed_tidy true ms tidy) ∙ last_tidy true ms tidy

-- a character is of no chunk with those of chunks after it that are apart from it
goes_apart : (kind : Kind) (c : ℕ) (cs : List (Spanned Chunk)) → is_apart (Some kind) (first_kind cs) ≡ true → are_parted cs ≡ true → goes_on (Letter kind c) (spanned cs) ≡ false
goes_apart kind c [] apart parted = refl
goes_apart kind c (d ∷ cs) apart parted =
    by_chunk d.v d.span.start d.span.end apart
    (first_of_two (is_full d.v) (is_apart (kind_of d.v) (first_kind cs)) (first_of_two (is_full d.v && is_apart (kind_of d.v) (first_kind cs)) (are_parted cs) parted))
  where
    by_text : (k : Kind) (ds : List ℕ) (start end : ℕ) → is_apart (Some kind) (Some k) ≡ true → is_filled ds ≡ true → goes_on (Letter kind c) (all_at start end (letters k ds) ++ spanned cs) ≡ false
    by_text k [] start end apart full = absurd cc
    by_text k (e ∷ ds) start end apart full = ap not apart

    by_chunk : (chunk : Chunk) (start end : ℕ) → is_apart (Some kind) (kind_of chunk) ≡ true → is_full chunk ≡ true → goes_on (Letter kind c) (all_at start end (members chunk) ++ spanned cs) ≡ false
    by_chunk (chunks.Normal s) start end apart full = by_text Normal (characters s) start end apart full
    by_chunk (chunks.Verbatim s) start end apart full = by_text Verbatim (characters s) start end apart full
    by_chunk (chunks.Math s) start end apart full = ap not apart

-- a formula is a chunk alone
math_alone : (text : List ℕ) (ms : List (At Member)) → goes_on (Math text) ms ≡ false
math_alone text [] = refl
math_alone text (m ∷ ms) = refl

-- chunks that are parted stand where those of their members do
spans_parted : (cs : List (Spanned Chunk)) → are_parted cs ≡ true → chunk_spans cs ≡ member_spans (spanned cs)
spans_parted [] parted = refl
spans_parted (c ∷ cs) parted =
    let here = first_of_two (is_full c.v && is_apart (kind_of c.v) (first_kind cs)) (are_parted cs) parted in
    let more = second_of_two (is_full c.v && is_apart (kind_of c.v) (first_kind cs)) (are_parted cs) parted in
    let full = first_of_two (is_full c.v) (is_apart (kind_of c.v) (first_kind cs)) here in
    let apart = second_of_two (is_full c.v) (is_apart (kind_of c.v) (first_kind cs)) here in
    ap (λ (ps : List (ℕ × ℕ)). (c.span.start, c.span.end) ∷ ps) (spans_parted cs more) ∙ sym (by_chunk c.v c.span.start c.span.end more full apart)
  where
    by_text : (k : Kind) (ds : List ℕ) (start end : ℕ) → are_parted cs ≡ true → is_filled ds ≡ true → is_apart (Some k) (first_kind cs) ≡ true
        → member_spans (all_at start end (letters k ds) ++ spanned cs) ≡ (start, end) ∷ member_spans (spanned cs)
    by_text k [] start end more full apart = absurd cc
    by_text k (d ∷ ds) start end more full apart = text_before k start end d ds (spanned cs) (goes_apart k d cs apart more)

    by_chunk : (chunk : Chunk) (start end : ℕ) → are_parted cs ≡ true → is_full chunk ≡ true → is_apart (kind_of chunk) (first_kind cs) ≡ true
        → member_spans (all_at start end (members chunk) ++ spanned cs) ≡ (start, end) ∷ member_spans (spanned cs)
    by_chunk (chunks.Normal s) start end more full apart = by_text Normal (characters s) start end more full apart
    by_chunk (chunks.Verbatim s) start end more full apart = by_text Verbatim (characters s) start end more full apart
    by_chunk (chunks.Math s) start end more full apart =
        let m : At Member = record { v = Math (characters s); start = start; end = end } in
        ap (λ (goes : Bool). before goes m (member_spans (spanned cs))) (math_alone (characters s) (spanned cs))

-- such chunks that are tidy stay as they are
pub done : (cs : List (Spanned Chunk)) → are_parted cs ≡ true → is_tidy_from true (styled cs) ≡ true → AreDone cs
done cs parted tidy =
    let same : tidied_at (spanned cs) ≡ spanned cs = tidied_same (spanned cs) (ap (is_tidy_from true) (spans_forgotten cs) ∙ tidy) in
    record {
      styled = sym (spans_forgotten cs) ∙ (ap without_spans (sym same) ∙ (tidied_forgotten (spanned cs) ∙ ap tidied (spans_forgotten cs)));
      spans = spans_parted cs parted ∙ ap member_spans (sym same);
      parted = parted;
    }
