-- The text of chunks is that of the styled text that they spell.
use Rattle.std.proofs.Common.{◌≡◌, ℕ, List, [], ◌∷◌, ◌++◌, String, string_bytes, Global, refl, sym, ap, ◌∙◌}
use Rattle.std.proofs.lemmas.Str.{IsUtf8-string_bytes}
use Rattle.std.proofs.lemmas.Grind.{flat_map-append}
use Rattle.std.proofs.lemmas.List.{append-nil}
use Rattle.laws.specs.Text.{text, characters}
use Rattle.laws.proofs.Text.{text_of_chars}
use Rattle.biblatex_text.specs.declared.spanned.Spanned.{Spanned}
use Rattle.biblatex_content.specs.declared.chunk.Kind.{Kind}
use Rattle.biblatex_content.specs.declared.chunk.Kind.TheVariants.{Normal, Verbatim}
use Rattle.biblatex_content.specs.declared.chunk.Chunk.{Chunk}
use Rattle.biblatex_content.specs.declared.chunk.Chunk.TheVariants as chunks
use Rattle.biblatex_content.specs.Styled.{Member, letters, plain, member_text}
use Rattle.biblatex_content.specs.Views.{chunk_text, members, plain_text, styled}

plain-append : (ms more : List Member) → plain (ms ++ more) ≡ plain ms ++ plain more
plain-append ms more = flat_map-append member_text ms more

plain-letters : (kind : Kind) (cs : List ℕ) → plain (letters kind cs) ≡ cs
plain-letters kind [] = refl
plain-letters kind (c ∷ cs) = ap (λ (ds : List ℕ). c ∷ ds) (plain-letters kind cs)

chunk-plain : (c : Chunk) → plain (members c) ≡ chunk_text c
chunk-plain (chunks.Normal s) = plain-letters Normal (characters s)
chunk-plain (chunks.Verbatim s) = plain-letters Verbatim (characters s)
chunk-plain (chunks.Math s) = append-nil (characters s)

plain-styled : (cs : List (Spanned Chunk)) → plain (styled cs) ≡ plain_text cs
plain-styled [] = refl
plain-styled (c ∷ cs) = plain-append (members c.v) (styled cs) ∙ rw (chunk-plain c.v, plain-styled cs) refl

pub text_of_chunks : (s : String Global) (cs : List (Spanned Chunk)) → characters s ≡ plain_text cs → string_bytes s ≡ text (plain (styled cs))
text_of_chunks s cs e = sym (text_of_chars (string_bytes s) (IsUtf8-string_bytes s)) ∙ ap text (e ∙ sym (plain-styled cs))
