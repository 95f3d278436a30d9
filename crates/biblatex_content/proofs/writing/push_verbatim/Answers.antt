use Rattle.std.proofs.Common.{◌+◌, List, ◌∷◌, ◌++◌, drop, sym, ap, ◌∙◌}
use Rattle.std.proofs.lemmas.List.{at_drop_more}
use Rattle.biblatex_text.specs.declared.spanned.Spanned.{Spanned}
use Rattle.biblatex_content.specs.declared.chunk.Chunk.{Chunk}
use Rattle.biblatex_content.specs.Views.{styled}
use Rattle.laws.specs.Text.{characters}
use Rattle.biblatex_content.specs.Writing.{written_verbatim}
use Rattle.biblatex_content.proofs.WritingPieces.{verbatim_more}
use Rattle.biblatex_content.proofs.writing.push_verbatim.Goals as goal

pub loop-chunk-preserved : goal.loop-chunk-preserved
loop-chunk-preserved c =
    let old = characters c.loop-chunk.text in
    let item = c.chunk-item.result in
    let more = drop (c.loop-chunk.chunk-index + 1) c.args.chunks.now in
    rw (c.in_ok-push_as_is.ensures, c.get.ensures)
    (verbatim_more old item more
    ∙ (ap (λ (x : Spanned Chunk). old ++ written_verbatim (styled (x ∷ more))) c.chunk-item.is
    ∙ (sym (at_drop_more (λ (xs : List (Spanned Chunk)). old ++ written_verbatim (styled xs)) c.args.chunks.now c.loop-chunk.chunk-index item c.loop-chunk-test.true)
    ∙ c.loop-chunk.invariant)))
