use Rattle.std.proofs.Common.{◌≡◌, List, [], ◌++◌, sym, ap, ◌∙◌}
use Rattle.std.proofs.lemmas.Bool.{eqb-true}
use Rattle.std.proofs.lemmas.List.{nil_from_length}
use Rattle.biblatex_text.specs.declared.spanned.Spanned.{Spanned}
use Rattle.biblatex_content.specs.declared.chunk.Chunk.{Chunk}
use Rattle.biblatex_content.specs.Spans.{all_at, spanned}
use Rattle.biblatex_content.specs.Views.{styled}
use Rattle.biblatex_content.proofs.SpansForgotten.{placed_styled, placed_spanned}
use Rattle.biblatex_content.proofs.contents.Contents.push_chunks.Goals as goal

pub returns-clause-styled : goal.returns-clause-styled
returns-clause-styled c =
    let none : c.args.self.now.chunks.items ≡ [] = nil_from_length _ (sym c.args.self.now.chunks.ok.0 ∙ eqb-true _ 0 (sym c.is_empty.ensures ∙ c.if-not-is_empty.false)) in
    ap styled c.place_all.ensures
    ∙ (placed_styled c.args.span.now.start c.args.span.now.end c.args.chunks.items ∙ ap (λ (x : List (Spanned Chunk)). styled x ++ styled c.args.chunks.items) (sym none))

pub returns-clause-spanned : goal.returns-clause-spanned
returns-clause-spanned c =
    let none : c.args.self.now.chunks.items ≡ [] = nil_from_length _ (sym c.args.self.now.chunks.ok.0 ∙ eqb-true _ 0 (sym c.is_empty.ensures ∙ c.if-not-is_empty.false)) in
    let start = c.args.span.now.start in
    let end = c.args.span.now.end in
    ap spanned c.place_all.ensures
    ∙ (placed_spanned start end c.args.chunks.items ∙ ap (λ (x : List (Spanned Chunk)). spanned x ++ all_at start end (styled c.args.chunks.items)) (sym none))
