-- The value of a field: what its pieces give, one after the other, with abbreviations opened, or the first fault. What a piece
-- of a definition gives has its span in the definition.
use Rattle.std.specs.Prelude.{◌≡◌, ℕ, zero, suc, Bool, true, false, List, [], ◌∷◌, ◌++◌, length, Result, Ok, Err}
use Rattle.laws.specs.Results.{◌>>=◌}
use Rattle.laws.specs.Text.{lowered}
use Rattle.biblatex_text.specs.Raw.{At, Piece, Field}
use Rattle.biblatex_text.specs.declared.spanned.Spanned.{Spanned}
use Rattle.biblatex_content.specs.declared.chunk.Chunk.{Chunk}
use Rattle.biblatex_content.specs.declared.chunk.Kind.TheVariants.{Verbatim}
use Rattle.biblatex_content.specs.Styled.{Member, letters}
use Rattle.biblatex_content.specs.Verbatim.{verbatim_text, is_verbatim_name}
use Rattle.biblatex_content.specs.Ordinary.{ordinary}
use Rattle.biblatex_content.specs.Tidy.{tidied}
use Rattle.biblatex_content.specs.Parted.{are_parted}
use Rattle.biblatex_content.specs.Spans.{all_at, without_spans, after_at, tidied_at, chunk_spans, member_spans}
use Rattle.biblatex_content.specs.Views.{styled}
use Rattle.biblatex_fields.specs.Abbreviations.{malformed, Glossary, Sense, spelled, defined, sense}
use Rattle.biblatex_fields.specs.Refusals.{Refusal}

-- The view of the chunks of a value: the styled text that they spell, where each of them stands, and whether they are joined, so
-- that no text is empty and no two neighbours are text of one kind.
pub record Value : Type 0 where
  pub text : List Member
  pub spans : List (ℕ × ℕ)
  pub is_joined : Bool

abbrev pub field_value_view : List (Spanned Chunk) → Value
field_value_view cs = record { text = styled cs; spans = chunk_spans cs; is_joined = are_parted cs }

-- What is read after what was read before.
abbrev pub Reading : Type 0
Reading = List (At Member) → Result (List (At Member)) Refusal

-- what was read, or a malformed command, by the piece that it stands in
abbrev pub spanned : {F : Type 0} → ℕ → ℕ → Result (List (At Member)) F → Result (List (At Member)) Refusal
spanned start end (Ok ms) = Ok ms
spanned start end (Err f) = Err (malformed start end)

-- a text, in a verbatim field or an ordinary one
abbrev pub text_read : Bool → ℕ → ℕ → List ℕ → Reading
text_read true start end cs done = Ok (done ++ all_at start end (letters Verbatim (verbatim_text cs)))
text_read false start end cs done = spanned start end (after_at start end done (ordinary cs))

-- pieces in order, up to the first fault
abbrev pub in_order : {X : Type 0} → (X → Reading) → List X → Reading
in_order read [] done = Ok done
in_order read (p ∷ ps) done = read p done >>= λ ms. in_order read ps ms

-- a piece by what it stands for: its text, or the pieces of the definition as `inner` reads them
abbrev pub by_sense : (At Piece → Reading) → Bool → ℕ → ℕ → Sense → Reading
by_sense inner is_verbatim start end (spelled cs) done = text_read is_verbatim start end cs done
by_sense inner is_verbatim start end (defined ps) done = in_order inner ps done

-- Reading a piece, where `inner` reads the pieces that it stands for.
abbrev pub reading : Glossary → Bool → (At Piece → Reading) → At Piece → Reading
reading g is_verbatim inner p done = sense g p >>= λ s. by_sense inner is_verbatim p.start p.end s done

-- a rule for pieces, taken so many definitions deep
abbrev pub deep : {A : Type 0} → ((At Piece → A) → At Piece → A) → A → ℕ → At Piece → A
deep rule bottom zero p = bottom
deep rule bottom (suc n) p = rule (λ q. deep rule bottom n q) p

-- A piece as deep as definitions go. On the way inwards no definition comes twice, so one level more than there are
-- definitions is deep enough.
unfoldable pub read : Glossary → Bool → At Piece → Reading
read g is_verbatim p done = deep (reading g is_verbatim) (λ ms. Ok ms) (suc (length g.definitions)) p done

-- each piece is read by the rule, the pieces that it stands for alike
abbrev pub ReadsByTheRule : Glossary → Type 0
ReadsByTheRule g = (is_verbatim : Bool) (p : At Piece) → read g is_verbatim p ≡ reading g is_verbatim (read g is_verbatim) p

-- what pieces give in the kind of a field of that name, each member with its span
abbrev pub members_of : Glossary → List ℕ → List (At Piece) → Result (List (At Member)) Refusal
members_of g name ps = in_order (read g (is_verbatim_name (lowered name))) ps []

-- members as a value: tidied and joined, each chunk with the span of its members
abbrev pub value_from : List (At Member) → Value
value_from ms = record { text = tidied (without_spans ms); spans = member_spans (tidied_at ms); is_joined = true }

-- what pieces give as the value of a field of that name, in the kind of the field
unfoldable pub value_in : Glossary → List ℕ → List (At Piece) → Result Value Refusal
value_in g name ps = do
  ms ← members_of g name ps
  Ok (value_from ms)

-- the value of a field
abbrev pub value_of : Glossary → Field → Result Value Refusal
value_of g f = value_in g f.name.v f.value.v
