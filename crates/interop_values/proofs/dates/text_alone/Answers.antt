use Rattle.std.proofs.Common.{◌≡◌, List, [], ◌∷◌, sym, ap, ◌∙◌, Some}
use Rattle.std.proofs.lemmas.Bool.{eqb-true}
use Rattle.std.proofs.lemmas.List.{append-nil, nil_from_length}
use Rattle.biblatex_text.specs.declared.spanned.Spanned.{Spanned}
use Rattle.biblatex_content.specs.declared.chunk.Chunk.{Chunk}
use Rattle.biblatex_content.specs.Views.{chunk_text, styled}
use Rattle.biblatex_entries.specs.Typed.{characters_of}
use Rattle.biblatex_values.proofs.TextsPlain.{plain-styled}
use Rattle.interop_values.proofs.dates.text_alone.Goals as goal

pub returns-then-is_empty : goal.returns-then-is_empty
returns-then-is_empty c =
    let none : c.in-Some.rest.now ≡ [] = nil_from_length _ (eqb-true _ 0 (sym c.is_empty.ensures ∙ c.if-is_empty.true)) in
    let whole : c.args.value.now ≡ c.in-Some.chunk.now ∷ [] = c.in-Some.ensures.cases.0 ∙ ap (λ (x : List (Spanned Chunk)). c.in-Some.chunk.now ∷ x) none in
    ap (λ (x : List (Spanned Chunk)). characters_of (Some (styled x))) whole
    ∙ (plain-styled (c.in-Some.chunk.now ∷ []) ∙ (append-nil (chunk_text c.in-Some.chunk.now.v) ∙ sym c.get.ensures))
