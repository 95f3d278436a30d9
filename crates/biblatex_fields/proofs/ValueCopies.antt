-- Copies of chunks are the same value.
use Rattle.std.proofs.Common.{◌≡◌, ℕ, List, [], ◌∷◌, map, refl, sym, ap, ◌∙◌}
use Rattle.std.specs.declared.ops.Range.{Range}
use Rattle.biblatex_text.specs.declared.spanned.Spanned.{Spanned}
use Rattle.biblatex_content.specs.declared.chunk.Chunk.{Chunk}
use Rattle.biblatex_content.specs.Parted.{are_parted}
use Rattle.biblatex_content.specs.Spans.{chunk_spans}
use Rattle.biblatex_content.specs.Views.{spans, styled}
use Rattle.biblatex_fields.specs.Value.{field_value_view}

abbrev index_of : Range ℕ → ℕ × ℕ
index_of r = (r.start, r.end)

spans_as_offsets : (cs : List (Spanned Chunk)) → chunk_spans cs ≡ map index_of (spans cs)
spans_as_offsets [] = refl
spans_as_offsets (c ∷ cs) = ap (λ (ps : List (ℕ × ℕ)). (c.span.start, c.span.end) ∷ ps) (spans_as_offsets cs)

pub same_value : (cs ds : List (Spanned Chunk)) → styled cs ≡ styled ds → spans cs ≡ spans ds → are_parted cs ≡ are_parted ds → field_value_view cs ≡ field_value_view ds
same_value cs ds text there parted =
    let stand : chunk_spans cs ≡ chunk_spans ds = spans_as_offsets cs ∙ (ap (map index_of) there ∙ sym (spans_as_offsets ds)) in
    λ i. record { text = text i; spans = stand i; is_joined = parted i }
