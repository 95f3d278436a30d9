use Rattle.std.proofs.Common.{◌≡◌, ◌++◌, true, List, ℕ, ap, ◌∙◌}
use Rattle.std.specs.Str.{chars}
use Rattle.std.proofs.lemmas.Result.{on_ok_weaker}
use Rattle.biblatex_content.specs.Styled.{letters}
use Rattle.laws.specs.Text.{characters, is_filled}
use Rattle.interop_values.specs.Pieces.{pieces_of}
use Rattle.interop_values.specs.Views.{kind_of, chunks_in, with_pieces}
use Rattle.interop_values.proofs.PiecesGrowing.{put_last}
use Rattle.interop_values.proofs.pieces.Pieces.push_text.Goals as goal

pub returns : goal.returns
returns c =
    let new = c.turn.new.self in
    let cs = chars c.args.text.now in
    let filled : is_filled cs ≡ true = (cc) in
    on_ok_weaker c.push_text.result
    (λ e rest.
    ap (λ (run : List ℕ). chunks_in new ++ pieces_of (letters (kind_of new.is_verbatim) run ++ rest)) e
    ∙ put_last (chunks_in new) new.is_verbatim c.args.is_verbatim (characters new.run) cs (with_pieces c.args.self.now) rest c.in_ok-turn.ensures.kind filled c.in_ok-turn.ensures.pieces)
    c.push_text.ensures
