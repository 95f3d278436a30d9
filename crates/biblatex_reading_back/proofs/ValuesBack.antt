-- The values of fields that were written are read back.
use Rattle.std.proofs.Common.{◌≡◌, ℕ, Bool, true, false, List, [], ◌∷◌, Result, Ok, Err, refl, ap, ◌∙◌}
use Rattle.laws.specs.Results.{◌>>=◌}
use Rattle.laws.specs.Text.{lowered}
use Rattle.biblatex_text.specs.Raw.{At, Piece, normal, Field}
use Rattle.biblatex_content.specs.declared.chunk.Kind.TheVariants.{Verbatim}
use Rattle.biblatex_content.specs.Styled.{Member, letters}
use Rattle.biblatex_content.specs.Spans.{all_at, without_spans}
use Rattle.biblatex_content.specs.Tidy.{tidied}
use Rattle.biblatex_content.specs.Verbatim.{verbatim_text, is_verbatim_name}
use Rattle.biblatex_content.specs.Writing.{written_content}
use Rattle.biblatex_fields.specs.Abbreviations.{Glossary}
use Rattle.biblatex_fields.specs.Refusals.{Refusal}
use Rattle.biblatex_fields.specs.Value.{Value, text_read, read, members_of, value_from, value_in, value_of, spanned}
use Rattle.biblatex_writing.specs.SettledContent.{is_settled_content}
use Rattle.biblatex_reading_back.proofs.ContentBack.{ordinary_back}
use Rattle.biblatex_reading_back.proofs.VerbatimBack.{verbatim_back}

-- The value of a raw field has this text.
pub record HasText (g : Glossary) (f : Field) (ms : List Member) : Type 0 where
  pub value : Value
  pub read : value_of g f ≡ Ok value
  pub text : value.text ≡ ms

spans_off : (start end : ℕ) (ms : List Member) → without_spans (all_at start end ms) ≡ ms
spans_off start end [] = refl
spans_off start end (m ∷ ms) = ap (λ (x : List Member). m ∷ x) (spans_off start end ms)

nothing_more : (r : Result (List (At Member)) Refusal) → (r >>= λ ms. Ok ms) ≡ r
nothing_more (Ok ms) = refl
nothing_more (Err e) = refl

-- one piece, which is a text
piece_read : (g : Glossary) (name : List ℕ) (start end : ℕ) (t : List ℕ)
    → members_of g name (record { v = normal t; start = start; end = end } ∷ []) ≡ text_read (is_verbatim_name (lowered name)) start end t []
unfolding read
piece_read g name start end t = nothing_more (text_read (is_verbatim_name (lowered name)) start end t [])

-- what a text gives that was written of a settled content
content_read : (is_verbatim : Bool) (start end : ℕ) (ms : List Member) → is_settled_content is_verbatim ms ≡ true
    → (read : List Member) × (text_read is_verbatim start end (written_content is_verbatim ms) [] ≡ Ok (all_at start end read)) × (tidied read ≡ ms)
content_read true start end ms settled = (letters Verbatim (verbatim_text (written_content true ms)), refl, verbatim_back ms settled)
content_read false start end ms settled =
    let both = ordinary_back ms settled in
    (ms, ap (λ r. spanned start end (r >>= λ xs. Ok (all_at start end xs))) both.0, both.1)

pub value_back : (g : Glossary) (f : Field) (piece : At Piece) (is_verbatim : Bool) (ms : List Member) → f.value.v ≡ piece ∷ [] → piece.v ≡ normal (written_content is_verbatim ms)
    → is_verbatim_name (lowered f.name.v) ≡ is_verbatim → is_settled_content is_verbatim ms ≡ true → HasText g f ms
unfolding value_in
value_back g f piece is_verbatim ms alone spells kind settled =
    let t = written_content is_verbatim ms in
    let content = content_read is_verbatim piece.start piece.end ms settled in
    let one : members_of g f.name.v f.value.v ≡ Ok (all_at piece.start piece.end content.0) =
    ap (members_of g f.name.v) (alone ∙ λ i. record { v = spells i; start = piece.start; end = piece.end } ∷ [])
    ∙ (piece_read g f.name.v piece.start piece.end t
    ∙ (ap (λ (b : Bool). text_read b piece.start piece.end t []) kind ∙ content.1)) in
    record {
      value = value_from (all_at piece.start piece.end content.0);
      read = ap (λ (r : Result (List (At Member)) Refusal). r >>= λ xs. Ok (value_from xs)) one;
      text = ap tidied (spans_off piece.start piece.end content.0) ∙ content.2;
    }
