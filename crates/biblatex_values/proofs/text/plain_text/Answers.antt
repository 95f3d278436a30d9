use Rattle.std.proofs.Common.{List, String, Global, IfOk, Result, Ok, Err, string_bytes, ◌≡◌, ◌∙◌, sym}
use Rattle.laws.specs.Text.{text as text_of, characters}
use Rattle.biblatex_content.specs.Views.{plain_text, styled}
use Rattle.biblatex_text.specs.declared.spanned.Spanned.{Spanned}
use Rattle.biblatex_content.specs.declared.chunk.Chunk.{Chunk}
use Rattle.biblatex_content.specs.Styled.{plain}
use Rattle.biblatex_values.proofs.TextsPlain.{plain-styled, text_of_chunks}
use Rattle.biblatex_values.proofs.text.plain_text.Goals as goal

as_characters : {E : Type 0} (r : Result (String Global) E) (cs : List (Spanned Chunk)) → IfOk r (λ s. characters s ≡ plain_text cs) → IfOk r (λ s. characters s ≡ plain (styled cs))
as_characters (Ok s) cs e = e ∙ sym (plain-styled cs)
as_characters (Err f) cs e = tt

as_bytes : {E : Type 0} (r : Result (String Global) E) (cs : List (Spanned Chunk)) → IfOk r (λ s. characters s ≡ plain_text cs) → IfOk r (λ s. string_bytes s ≡ text_of (plain (styled cs)))
as_bytes (Ok s) cs e = text_of_chunks s cs e
as_bytes (Err f) cs e = tt

pub returns-clause-characters : goal.returns-clause-characters
returns-clause-characters c = as_characters c.format_verbatim.result c.args.chunks.now c.format_verbatim.ensures

pub returns-clause-bytes : goal.returns-clause-bytes
returns-clause-bytes c = as_bytes c.format_verbatim.result c.args.chunks.now c.format_verbatim.ensures
