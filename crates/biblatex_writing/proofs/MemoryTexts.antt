-- What is in memory is made of characters.
use Rattle.std.proofs.Common.{◌≡◌, ℕ, true, List, [], ◌∷◌, ◌++◌, String, Vec, Global, string_bytes, refl, ap, ◌∙◌}
use Rattle.std.specs.List.{AllByRecursion}
use Rattle.std.specs.Str.{IsUtf8, all_scalars}
use Rattle.std.proofs.lemmas.Grind.{flat_map-append}
use Rattle.std.proofs.lemmas.List.{append-nil}
use Rattle.std.proofs.lemmas.Str.{IsUtf8-string_bytes, scalars-chars}
use Rattle.laws.specs.Text.{characters}
use Rattle.biblatex_text.specs.declared.spanned.Spanned.{Spanned}
use Rattle.biblatex_content.specs.declared.chunk.Chunk.{Chunk}
use Rattle.biblatex_content.specs.declared.chunk.Chunk.TheVariants as chunks
use Rattle.biblatex_content.specs.declared.chunk.Kind.{Kind}
use Rattle.biblatex_content.specs.Styled.{letters, member_text, plain}
use Rattle.biblatex_content.specs.Views.{chunk_text, members, styled}
use Rattle.biblatex_content.proofs.Tests.{first_of_two, second_of_two, both}
use Rattle.biblatex_fields.specs.Fields.{named_fields_view}
use Rattle.biblatex_writing.specs.Texts.{AreText}

-- what stands behind one another is made of characters where both parts are
pub scalars_both : (xs ys : List ℕ) → all_scalars xs ≡ true → all_scalars ys ≡ true → all_scalars (xs ++ ys) ≡ true
scalars_both [] ys p q = q
scalars_both (x ∷ xs) ys p q = both _ _ (first_of_two _ (all_scalars xs) p) (scalars_both xs ys (second_of_two _ (all_scalars xs) p) q)

text_scalars : (s : String Global) → all_scalars (characters s) ≡ true
text_scalars s = scalars-chars (string_bytes s) (IsUtf8-string_bytes s)

letters_plain : (kind : Kind) (cs : List ℕ) → plain (letters kind cs) ≡ cs
letters_plain kind [] = refl
letters_plain kind (c ∷ cs) = ap (λ (xs : List ℕ). c ∷ xs) (letters_plain kind cs)

chunk_plain : (c : Chunk) → plain (members c) ≡ chunk_text c
chunk_plain (chunks.Normal s) = letters_plain _ (characters s)
chunk_plain (chunks.Verbatim s) = letters_plain _ (characters s)
chunk_plain (chunks.Math s) = append-nil (characters s)

chunk_scalars : (c : Chunk) → all_scalars (chunk_text c) ≡ true
chunk_scalars (chunks.Normal s) = text_scalars s
chunk_scalars (chunks.Verbatim s) = text_scalars s
chunk_scalars (chunks.Math s) = text_scalars s

-- the content of a field
content_scalars : (cs : List (Spanned Chunk)) → all_scalars (plain (styled cs)) ≡ true
content_scalars [] = refl
content_scalars (c ∷ cs) =
    ap all_scalars (flat_map-append member_text (members c.v) (styled cs))
    ∙ scalars_both (plain (members c.v)) (plain (styled cs)) (ap all_scalars (chunk_plain c.v) ∙ chunk_scalars c.v) (content_scalars cs)

-- fields with their names
names_utf8 : (es : List (String Global × Vec (Spanned Chunk) Global)) → AllByRecursion (λ f. IsUtf8 f.0) (named_fields_view es)
names_utf8 [] = tt
names_utf8 (e ∷ es) = (IsUtf8-string_bytes e.0, names_utf8 es)

contents_scalars : (es : List (String Global × Vec (Spanned Chunk) Global)) → AllByRecursion (λ f. all_scalars (plain f.1.text) ≡ true) (named_fields_view es)
contents_scalars [] = tt
contents_scalars (e ∷ es) = (content_scalars e.1.items, contents_scalars es)

pub fields_text : (es : List (String Global × Vec (Spanned Chunk) Global)) → AreText (named_fields_view es)
fields_text es = (names_utf8 es, contents_scalars es)
