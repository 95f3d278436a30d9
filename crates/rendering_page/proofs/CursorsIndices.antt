-- A character that is put before the last ones of a page.
use Rattle.std.proofs.Common.{◌≡◌, ◌+◌, ◌<◌, ◌≤◌, ℕ, List, [], ◌∷◌, length, take, drop, get_or, set, sym, ap, ◌∙◌, arith}
use Rattle.std.specs.List.{fold, insert}
use Rattle.std.proofs.lemmas.List.{take_more_set, drop-set-lt}
use Rattle.std.proofs.lemmas.List.Sums.{fold-append}
use Rattle.rendering_tree.specs.Tokens.{Token, with_letter_before}
use Rattle.rendering_page.specs.Views.{with_piece, pieces_view}
use Rattle.rendering_page.specs.declared.piece.Piece.{Piece}
use Rattle.rendering_page.proofs.ViewsPieces.{tokens_push, tokens_more}

-- a piece is cut, and another stands after it
pub inserted : (c n : ℕ) (ps qs rs : List Piece) (i j : ℕ) (p leading back : Piece)
    → i + 1 ≡ j → j ≤ length ps → p ≡ get_or ps i p → qs ≡ set ps i leading → rs ≡ insert qs j back
    → ((ts : List Token) → with_letter_before n c (with_piece ts p) ≡ with_piece (with_piece ts leading) back)
    → pieces_view rs ≡ fold with_piece (with_letter_before n c (pieces_view (take j ps))) (drop j ps)
inserted c n ps qs rs i j p leading back next low at changed grown step =
    let inside : i < length ps = omega (arith, next) in
    let before = pieces_view (take i ps) in
    let cut : pieces_view (take j qs) ≡ with_piece before leading =
    ap (λ k. pieces_view (take k qs)) (sym next)
    ∙ ap (λ xs. pieces_view (take (i + 1) xs)) changed
    ∙ ap pieces_view (take_more_set ps i leading inside)
    ∙ tokens_push (take i ps) leading in
    let rest : drop j qs ≡ drop j ps = ap (drop j) changed ∙ drop-set-lt j ps i leading (let below : i < j = omega (arith, next) in below) in
    ap pieces_view grown
    ∙ fold-append with_piece [] (take j qs) (back ∷ drop j qs)
    ∙ ap (λ ts. fold with_piece (with_piece ts back) (drop j qs)) cut
    ∙ ap (λ xs. fold with_piece (with_piece (with_piece before leading) back) xs) rest
    ∙ ap (λ ts. fold with_piece ts (drop j ps)) (sym (step before) ∙ ap (with_letter_before n c) (sym (tokens_more ps i j p next low at)))
