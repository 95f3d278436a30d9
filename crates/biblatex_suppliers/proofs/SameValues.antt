-- Chunks that `==` finds the same are the same value.
use Rattle.std.proofs.Common.{◌≡◌, ℕ, Bool, true, List, [], ◌∷◌, ◌++◌, ◌==◌, ◌&&◌, eqb-true, refl, ap}
use Rattle.std.specs.Cmp.Lexicographic.{pointwise}
use Rattle.std.proofs.lemmas.Bool.{and_parts, false≢true}
use Rattle.laws.specs.Text.{is_filled}
use Rattle.laws.proofs.Equality.{Shows-strings}
use Rattle.biblatex_text.specs.declared.spanned.Spanned.{Spanned}
use Rattle.biblatex_text.specs.contracts.spanned.SpannedPartialEq.TheImpl as spanned
use Rattle.biblatex_content.specs.declared.chunk.Chunk.{Chunk}
use Rattle.biblatex_content.specs.declared.chunk.Chunk.TheVariants as chunks
use Rattle.biblatex_content.specs.declared.chunk.Kind.TheVariants.{Normal, Verbatim}
use Rattle.biblatex_content.specs.contracts.chunk.Chunk.{the_row}
use Rattle.biblatex_content.specs.contracts.chunk.ChunkPartialEq.TheImpl as chunk
use Rattle.biblatex_content.specs.Parted.{is_full, kind_of}
use Rattle.biblatex_content.specs.Spans.{chunk_spans}
use Rattle.biblatex_content.specs.Styled.{Math, letters}
use Rattle.biblatex_content.specs.Views.{members, styled}
use Rattle.biblatex_content.proofs.PartedShapes.{kinds, fullness, parted_alike}
use Rattle.biblatex_fields.specs.Value.{field_value_view}

-- what `==` compares of two chunks that stand somewhere
abbrev same_chunk : Spanned Chunk → Spanned Chunk → Bool
same_chunk = (spanned.ghosts the_row chunk.ghosts chunk.dict).eq

-- two chunks spell the same, are of one kind, and both give something or neither does
abbrev AreOne : Chunk → Chunk → Type 0
AreOne a b = (members a ≡ members b) × ((kind_of a ≡ kind_of b) × (is_full a ≡ is_full b))

one_chunk : (a b : Chunk) → chunk.ghosts.eq a b ≡ true → AreOne a b
one_chunk (chunks.Normal s) (chunks.Normal t) so = let e = (Shows-strings s t).0 so in (ap (letters Normal) e, (refl, ap is_filled e))
one_chunk (chunks.Verbatim s) (chunks.Verbatim t) so = let e = (Shows-strings s t).0 so in (ap (letters Verbatim) e, (refl, ap is_filled e))
one_chunk (chunks.Math s) (chunks.Math t) so = let e = (Shows-strings s t).0 so in (ap (λ (cs : List ℕ). Math cs ∷ []) e, (refl, refl))
one_chunk (chunks.Normal s) (chunks.Verbatim t) so = absurd (false≢true so)
one_chunk (chunks.Normal s) (chunks.Math t) so = absurd (false≢true so)
one_chunk (chunks.Verbatim s) (chunks.Normal t) so = absurd (false≢true so)
one_chunk (chunks.Verbatim s) (chunks.Math t) so = absurd (false≢true so)
one_chunk (chunks.Math s) (chunks.Normal t) so = absurd (false≢true so)
one_chunk (chunks.Math s) (chunks.Verbatim t) so = absurd (false≢true so)

record AreAlike (cs ds : List (Spanned Chunk)) : Type 0 where
  spelled : styled cs ≡ styled ds
  placed : chunk_spans cs ≡ chunk_spans ds
  of_kinds : kinds cs ≡ kinds ds
  full : fullness cs ≡ fullness ds

alike : (cs ds : List (Spanned Chunk)) → pointwise same_chunk cs ds ≡ true → AreAlike cs ds
alike [] [] so = record { spelled = refl; placed = refl; of_kinds = refl; full = refl }
alike [] (d ∷ ds) so = absurd (false≢true so)
alike (c ∷ cs) [] so = absurd (false≢true so)
alike (c ∷ cs) (d ∷ ds) so =
    let both = and_parts (same_chunk c d) (pointwise same_chunk cs ds) so in
    let here = and_parts (chunk.ghosts.eq c.v d.v) ((c.span.start == d.span.start) && (c.span.end == d.span.end)) both.0 in
    let place = and_parts (c.span.start == d.span.start) (c.span.end == d.span.end) here.1 in
    let one = one_chunk c.v d.v here.0 in
    let from = eqb-true c.span.start d.span.start place.0 in
    let to = eqb-true c.span.end d.span.end place.1 in
    let more = alike cs ds both.1 in
    record {
      spelled = λ i. one.0 i ++ more.spelled i;
      placed = λ i. (from i, to i) ∷ more.placed i;
      of_kinds = λ i. one.1.0 i ∷ more.of_kinds i;
      full = λ i. one.1.1 i ∷ more.full i;
    }

pub same_chunks : (cs ds : List (Spanned Chunk)) → pointwise same_chunk cs ds ≡ true → field_value_view cs ≡ field_value_view ds
same_chunks cs ds so =
    let a = alike cs ds so in
    let parted = parted_alike cs ds a.of_kinds a.full in
    λ i. record { text = a.spelled i; spans = a.placed i; is_joined = parted i }
