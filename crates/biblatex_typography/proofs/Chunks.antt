-- Contents, chunk by chunk, where chunks are joined.
use Rattle.std.proofs.Common.{◌≡◌, ◌&&◌, ◌||◌, ℕ, Bool, true, false, List, [], ◌∷◌, ◌++◌, Some, refl, sym, ap, ◌∙◌}
use Rattle.std.specs.List.{flat_map, list_any}
use Rattle.std.proofs.lemmas.Bool.{and_parts}
use Rattle.std.proofs.lemmas.List.Folds.{list_any-append}
use Rattle.laws.specs.Text.{characters, is_filled}
use Rattle.biblatex_text.specs.declared.spanned.Spanned.{Spanned}
use Rattle.biblatex_content.specs.declared.chunk.Kind.{Kind}
use Rattle.biblatex_content.specs.declared.chunk.Kind.TheVariants.{Normal, Verbatim}
use Rattle.biblatex_content.specs.declared.chunk.Chunk.{Chunk}
use Rattle.biblatex_content.specs.declared.chunk.Chunk.TheVariants as chunks
use Rattle.biblatex_content.specs.Parted.{are_parted, first_kind, is_apart, is_full, kind_of}
use Rattle.biblatex_content.specs.Styled.{Member, Letter, Math, letters}
use Rattle.biblatex_content.specs.Views.{members, styled}
use Rattle.biblatex_typography.specs.Typography.{are_pair, typographic, typographic_text}
use Rattle.biblatex_typography.specs.Changes.{chunk_is_marked, is_marked}
use Rattle.biblatex_typography.proofs.Pairs.{letters_before, one_first, pairs_with, text_members}

-- each chunk as it is printed
abbrev pub printed_each : List (Spanned Chunk) → List Member
printed_each cs = flat_map (λ c. typographic (members c.v)) cs

-- a text of another kind begins with no letter that is a pair with one
other_text : (k j : Kind) (cs : List ℕ) (rest : List Member) → ((c d : ℕ) → are_pair (Letter k c) (Letter j d) ≡ false) → is_filled cs ≡ true
    → (c : ℕ) → pairs_with (Letter k c) (letters j cs ++ rest) ≡ false
other_text k j [] rest other full c = absurd cc
other_text k j (d ∷ cs) rest other full c = other c d

other_chunk : (k : Kind) (v : Chunk) (rest : List Member) → is_apart (Some k) (kind_of v) ≡ true → is_full v ≡ true → (c : ℕ) → pairs_with (Letter k c) (members v ++ rest) ≡ false
other_chunk Normal (chunks.Normal s) rest apart full c = absurd cc
other_chunk Normal (chunks.Verbatim s) rest apart full c = other_text Normal Verbatim (characters s) rest (λ a b. refl) full c
other_chunk Normal (chunks.Math s) rest apart full c = refl
other_chunk Verbatim (chunks.Normal s) rest apart full c = other_text Verbatim Normal (characters s) rest (λ a b. refl) full c
other_chunk Verbatim (chunks.Verbatim s) rest apart full c = absurd cc
other_chunk Verbatim (chunks.Math s) rest apart full c = refl

after_letters : (k : Kind) (ds : List (Spanned Chunk)) → is_apart (Some k) (first_kind ds) ≡ true → are_parted ds ≡ true → (c : ℕ) → pairs_with (Letter k c) (styled ds) ≡ false
after_letters k [] apart parted c = refl
after_letters k (d ∷ ds) apart parted c =
    let here = and_parts (is_full d.v && is_apart (kind_of d.v) (first_kind ds)) (are_parted ds) parted in
    other_chunk k d.v (styled ds) apart (and_parts (is_full d.v) (is_apart (kind_of d.v) (first_kind ds)) here.0).0 c

after_math : (cs : List ℕ) (ms : List Member) → pairs_with (Math cs) ms ≡ false
after_math cs [] = refl
after_math cs (m ∷ ms) = refl

text_first : (k : Kind) (cs : List ℕ) (ds : List (Spanned Chunk)) → is_apart (Some k) (first_kind ds) ≡ true → are_parted ds ≡ true
    → typographic (letters k cs ++ styled ds) ≡ typographic (letters k cs) ++ typographic (styled ds)
text_first k cs ds apart parted =
    letters_before k cs (styled ds) (after_letters k ds apart parted)
    ∙ ap (λ (ms : List Member). ms ++ typographic (styled ds)) (text_members k cs (typographic_text cs) refl)

chunk_first : (v : Chunk) (ds : List (Spanned Chunk)) → is_apart (kind_of v) (first_kind ds) ≡ true → are_parted ds ≡ true
    → typographic (members v ++ styled ds) ≡ typographic (members v) ++ typographic (styled ds)
chunk_first (chunks.Normal s) ds apart parted = text_first Normal (characters s) ds apart parted
chunk_first (chunks.Verbatim s) ds apart parted = text_first Verbatim (characters s) ds apart parted
chunk_first (chunks.Math s) ds apart parted = one_first (Math (characters s)) (styled ds) (after_math (characters s) (styled ds))

pub chunk_by_chunk : (cs : List (Spanned Chunk)) → are_parted cs ≡ true → printed_each cs ≡ typographic (styled cs)
chunk_by_chunk [] parted = refl
chunk_by_chunk (c ∷ cs) parted =
    let here = and_parts (is_full c.v && is_apart (kind_of c.v) (first_kind cs)) (are_parted cs) parted in
    let apart = (and_parts (is_full c.v) (is_apart (kind_of c.v) (first_kind cs)) here.0).1 in
    ap (λ (ms : List Member). typographic (members c.v) ++ ms) (chunk_by_chunk cs here.1) ∙ sym (chunk_first c.v cs apart here.1)

-- chunks have a mark where one of them has
pub marked_chunks : (cs : List (Spanned Chunk)) → list_any chunk_is_marked cs ≡ list_any is_marked (styled cs)
marked_chunks [] = refl
marked_chunks (c ∷ cs) =
    ap (λ (b : Bool). list_any is_marked (members c.v) || b) (marked_chunks cs) ∙ sym (list_any-append is_marked (members c.v) (styled cs))
