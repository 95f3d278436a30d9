use Rattle.std.proofs.Common.{◌++◌, [], ◌∷◌, List, ℕ, map, ap, ◌∙◌, refl}
use Rattle.biblatex_content.specs.Styled.{letters}
use Rattle.laws.specs.Text.{characters}
use Rattle.literature_values.specs.declared.text.ChunkKind.TheVariants as pieces
use Rattle.literature_values.specs.declared.text.StringChunk.{StringChunk}
use Rattle.literature_values.specs.TextViews.{chunk_view}
use Rattle.interop_values.specs.Pieces.{pieces_of}
use Rattle.interop_values.specs.Views.{kind_of, chunks_in}
use Rattle.interop_values.proofs.PiecesGrowing.{formula}
use Rattle.interop_values.proofs.pieces.Pieces.push_math.Goals as goal

pub returns : goal.returns
returns c rest =
    let old = c.args.self.now in
    let new = c.end_run.new.self in
    ap (λ (ps : List StringChunk). map chunk_view ps ++ pieces_of (letters (kind_of new.is_verbatim) (characters new.run) ++ rest)) c.in_ok-push.ensures.items
    ∙ (ap (λ (cs : List ℕ). map chunk_view (new.done.items ++ (record { value = c.in_ok-value.value; kind = pieces.Math } ∷ [])) ++ pieces_of (letters (kind_of new.is_verbatim) cs ++ rest)) c.in_ok-end_run.ensures.run
    ∙ formula new.done.items (record { value = c.in_ok-value.value; kind = pieces.Math }) (chunks_in old) (kind_of old.is_verbatim) (characters old.run) _ rest c.in_ok-end_run.ensures.done c.in_ok-value.ensures.characters refl)
