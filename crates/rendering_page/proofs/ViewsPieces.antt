-- Pieces, and what they append.
use Rattle.std.proofs.Common.{◌≡◌, ◌+◌, ◌<◌, ◌≤◌, ℕ, List, [], ◌∷◌, ◌++◌, length, take, drop, get_or, set, sym, ap, ◌∙◌, arith}
use Rattle.std.specs.List.{fold}
use Rattle.std.proofs.lemmas.List.{take-append-drop, take_all, drop_all, take_more, take-set, drop-set}
use Rattle.std.proofs.lemmas.List.Sums.{fold_push, fold-append}
use Rattle.rendering_tree.specs.Tokens.{Token}
use Rattle.rendering_page.specs.Views.{with_piece, pieces_view}
use Rattle.rendering_page.specs.declared.piece.Piece.{Piece}

-- one piece more
pub tokens_push : (ps : List Piece) (p : Piece) → pieces_view (ps ++ p ∷ []) ≡ with_piece (pieces_view ps) p
tokens_push ps p = fold_push with_piece [] ps p

-- all pieces are those before an index and those from it on
pub tokens_at : (ps : List Piece) (i : ℕ) → fold with_piece (pieces_view (take i ps)) (drop i ps) ≡ pieces_view ps
tokens_at ps i = sym (fold-append with_piece [] (take i ps) (drop i ps)) ∙ ap pieces_view (take-append-drop i ps)

-- the pieces before the next index
pub tokens_more : (ps : List Piece) (i j : ℕ) (p : Piece) → i + 1 ≡ j → j ≤ length ps → p ≡ get_or ps i p → pieces_view (take j ps) ≡ with_piece (pieces_view (take i ps)) p
tokens_more ps i j p next low at =
    let inside : i < length ps = omega (arith, next) in
    ap (λ k. pieces_view (take k ps)) (sym next)
    ∙ ap pieces_view (take_more ps i p inside)
    ∙ tokens_push (take i ps) (get_or ps i p)
    ∙ ap (with_piece (pieces_view (take i ps))) (sym at)

-- a change that goes over a page from the end on, at one piece
pub append_one : {S : Type 0} (change : S → List Token → List Token) (ps qs : List Piece) (i j : ℕ) (p q : Piece) (s t : S)
    → i + 1 ≡ j → j ≤ length ps → p ≡ get_or ps i p → qs ≡ set ps i q
    → ((ts : List Token) → change s (with_piece ts p) ≡ with_piece (change t ts) q)
    → fold with_piece (change t (pieces_view (take i qs))) (drop i qs) ≡ fold with_piece (change s (pieces_view (take j ps))) (drop j ps)
append_one change ps qs i j p q s t next low at changed step =
    let inside : i < length ps = omega (arith, next) in
    let before = pieces_view (take i ps) in
    let same : pieces_view (take i qs) ≡ before = ap (λ xs. pieces_view (take i xs)) changed ∙ ap pieces_view (take-set ps i q) in
    let rest : drop i qs ≡ q ∷ drop (i + 1) ps = ap (drop i) changed ∙ drop-set ps i q inside in
    let first : fold with_piece (change t (pieces_view (take i qs))) (drop i qs) ≡ fold with_piece (with_piece (change t before) q) (drop (i + 1) ps) =
    λ k. fold with_piece (change t (same k)) (rest k) in
    let last : fold with_piece (change s (with_piece before p)) (drop (i + 1) ps) ≡ fold with_piece (change s (pieces_view (take j ps))) (drop j ps) =
    λ k. fold with_piece (change s (sym (tokens_more ps i j p next low at) k)) (drop (next k) ps) in
    first ∙ ap (λ ts. fold with_piece ts (drop (i + 1) ps)) (sym (step before)) ∙ last

-- before the first step of such a change
pub from_end : (change : List Token → List Token) (ps : List Piece) (n : ℕ) → length ps ≤ n → fold with_piece (change (pieces_view (take n ps))) (drop n ps) ≡ change (pieces_view ps)
from_end change ps n high = λ k. fold with_piece (change (pieces_view (take_all n ps high k))) (drop_all n ps high k)

-- a change that has come to the first piece
pub at_start : (change : List Token → List Token) (ps : List Piece) (i : ℕ) → i ≡ 0 → change [] ≡ [] → pieces_view ps ≡ fold with_piece (change (pieces_view (take i ps))) (drop i ps)
at_start change ps i e none = ap (λ ts. fold with_piece ts ps) (sym none) ∙ ap (λ n. fold with_piece (change (pieces_view (take n ps))) (drop n ps)) (sym e)

-- a change that is done
pub stopped : (change : List Token → List Token) (ps : List Piece) (i : ℕ) → ((ts : List Token) → change ts ≡ ts) → pieces_view ps ≡ fold with_piece (change (pieces_view (take i ps))) (drop i ps)
stopped change ps i same = sym (tokens_at ps i) ∙ ap (λ ts. fold with_piece ts (drop i ps)) (sym (same (pieces_view (take i ps))))
