-- What was appended one after the other, as pieces.
use Rattle.std.proofs.Common.{◌≡◌, List, [], ◌∷◌, ◌++◌, sym, ap, ◌∙◌}
use Rattle.std.proofs.lemmas.List.Sums.{fold-append}
use Rattle.rendering_page.specs.Pages.{Page, Frame, Quotes, begun, ended}
use Rattle.rendering_page.specs.Pieces.{Piece, begin, end, append_piece, append_pieces, framed}

-- some pieces, and others after them
pub append-both : (quotes : Quotes) (ps qs : List Piece) (old middle new : Page) → middle ≡ append_pieces quotes ps old → new ≡ append_pieces quotes qs middle → new ≡ append_pieces quotes (ps ++ qs) old
append-both quotes ps qs old middle new a b = b ∙ ap (append_pieces quotes qs) a ∙ sym (fold-append (append_piece quotes) old ps qs)

-- pieces in an element
pub append-framed : (quotes : Quotes) (frame f : Frame) (ps : List Piece) (old begins inside new : Page)
    → f ≡ frame → begins ≡ begun f old → inside ≡ append_pieces quotes ps begins → new ≡ ended quotes f inside
    → new ≡ append_pieces quotes (framed frame ps) old
append-framed quotes frame f ps old begins inside new is_frame a b c =
    c ∙ (λ i. ended quotes (is_frame i) ((b ∙ ap (append_pieces quotes ps) (a ∙ (λ k. begun (is_frame k) old))) i))
    ∙ sym (fold-append (append_piece quotes) old (begin frame ∷ ps) (end frame ∷ []))
