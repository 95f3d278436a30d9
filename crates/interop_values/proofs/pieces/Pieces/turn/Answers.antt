use Rattle.std.proofs.Common.{◌++◌, ◌∷◌, List, ℕ, ap, ◌∙◌}
use Rattle.biblatex_content.specs.Styled.{Letter, letters}
use Rattle.laws.specs.Text.{characters}
use Rattle.literature_values.specs.TextViews.{Chunk}
use Rattle.interop_values.specs.Pieces.{pieces_of}
use Rattle.interop_values.specs.Views.{kind_of, chunks_in}
use Rattle.interop_values.proofs.PiecesGrowing.{turned}
use Rattle.interop_values.proofs.pieces.Pieces.turn.Goals as goal

pub returns-clause-pieces : goal.returns-clause-pieces
returns-clause-pieces c d rest =
    let old = c.args.self.now in
    let new = c.end_run.new.self in
    let k = kind_of c.args.is_verbatim in
    ap (λ (ps : List Chunk). ps ++ pieces_of (letters k (characters new.run) ++ (Letter k d ∷ rest))) c.in_ok-end_run.ensures.done
    ∙ (ap (λ (cs : List ℕ). (chunks_in old ++ pieces_of (letters (kind_of old.is_verbatim) (characters old.run))) ++ pieces_of (letters k cs ++ (Letter k d ∷ rest))) c.in_ok-end_run.ensures.run
    ∙ turned (chunks_in old) old.is_verbatim c.args.is_verbatim (characters old.run) d rest c.if-self-is_verbatim.false)
