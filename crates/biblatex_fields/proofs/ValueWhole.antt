-- The value of a field once all of its pieces are read.
use Rattle.std.proofs.Common.{◌≡◌, ℕ, true, List, Ok, Err, refl, ap}
use Rattle.biblatex_text.specs.Raw.{At, Piece}
use Rattle.biblatex_text.specs.declared.spanned.Spanned.{Spanned}
use Rattle.biblatex_content.specs.declared.chunk.Chunk.{Chunk}
use Rattle.biblatex_content.specs.declared.contents.Contents.{Contents}
use Rattle.biblatex_content.specs.Parted.{are_parted}
use Rattle.biblatex_content.specs.Spans.{spanned_so_far, tidied_at, chunk_spans, member_spans}
use Rattle.biblatex_content.specs.Tidy.{tidied}
use Rattle.biblatex_content.specs.Views.{so_far, styled}
use Rattle.biblatex_content.proofs.SpansForgotten.{so_far_forgotten}
use Rattle.biblatex_fields.specs.Abbreviations.{Glossary}
use Rattle.biblatex_fields.specs.Refusals.{Refusal}
use Rattle.biblatex_fields.specs.Value.{Value, field_value_view, value_from, members_of, value_in}

-- chunks that spell the members, each with its span, and that are joined
view_from : (c : Contents) (cs : List (Spanned Chunk)) → styled cs ≡ tidied (so_far c) → chunk_spans cs ≡ member_spans (tidied_at (spanned_so_far c)) → are_parted cs ≡ true → value_from (spanned_so_far c) ≡ field_value_view cs
view_from c cs text there parted = rw (text, there, parted, so_far_forgotten c) refl

pub value_given : (g : Glossary) (name : List ℕ) (ps : List (At Piece)) (c : Contents) (cs : List (Spanned Chunk)) → members_of g name ps ≡ Ok (spanned_so_far c)
    → styled cs ≡ tidied (so_far c) → chunk_spans cs ≡ member_spans (tidied_at (spanned_so_far c)) → are_parted cs ≡ true → value_in g name ps ≡ Ok (field_value_view cs)
unfolding value_in
value_given g name ps c cs h text there parted = rw h (ap (λ (v : Value). Ok v) (view_from c cs text there parted))

pub value_refused : (g : Glossary) (name : List ℕ) (ps : List (At Piece)) (f : Refusal) → members_of g name ps ≡ Err f → value_in g name ps ≡ Err f
unfolding value_in
value_refused g name ps f h = rw h refl
