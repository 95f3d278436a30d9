-- The last text of a page, read from its end.
use Rattle.std.proofs.Common.{◌≡◌, ◌⊎◌, inl, inr, ◌+◌, ◌≤◌, ℕ, List, [], ◌∷◌, ◌++◌, length, take, get_or, reverse, refl, sym, ap, ◌∙◌, Option, Some, None}
use Rattle.std.specs.Str.{chars}
use Rattle.std.proofs.lemmas.Str.{chars-nil}
use Rattle.rendering_taxonomy.specs.declared.formatting.Formatting.{Formatting}
use Rattle.rendering_tree.specs.Tokens.{Token, mark, unmark}
use Rattle.rendering_page.specs.Cursors.{backwards_from, text_of}
use Rattle.rendering_page.specs.Views.{with_piece, pieces_view}
use Rattle.rendering_page.specs.declared.piece.Piece.{Piece}
use Rattle.rendering_page.specs.declared.piece.Piece.TheVariants as pieces
use Rattle.rendering_page.proofs.ViewsPieces.{tokens_more}

-- what passes a piece by has no characters of it
passed : (o : Option Formatting) (p q : Piece) (ts : List Token) → p ≡ q → backwards_from o (with_piece ts q) ≡ backwards_from o ts → backwards_from o (with_piece ts p) ≡ reverse (chars []) ++ backwards_from o ts
passed o p q ts e same = ap (λ r. backwards_from o (with_piece ts r)) e ∙ same ∙ ap (λ cs. reverse cs ++ backwards_from o ts) (sym chars-nil)

mark_passed : (o : Option Formatting) (ts : List Token) → backwards_from o (mark ∷ ts) ≡ backwards_from o ts
mark_passed None ts = refl
mark_passed (Some f) ts = refl

unmark_passed : (o : Option Formatting) (ts : List Token) → backwards_from o (unmark ∷ ts) ≡ backwards_from o ts
unmark_passed None ts = refl
unmark_passed (Some f) ts = refl

-- a mark has no characters
pub at_mark : (o : Option Formatting) (p : Piece) (ts : List Token) → (p ≡ pieces.Mark) ⊎ ((p ≡ pieces.Unmark) ⊎ ((p ≡ pieces.BareBegin) ⊎ (p ≡ pieces.BareEnd)))
    → backwards_from o (with_piece ts p) ≡ reverse (chars []) ++ backwards_from o ts
at_mark o p ts (inl e) = passed o p pieces.Mark ts e (mark_passed o ts)
at_mark o p ts (inr (inl e)) = passed o p pieces.Unmark ts e (unmark_passed o ts)
at_mark o p ts (inr (inr (inl e))) = passed o p pieces.BareBegin ts e (mark_passed o (mark ∷ ts) ∙ mark_passed o ts)
at_mark o p ts (inr (inr (inr e))) = passed o p pieces.BareEnd ts e (unmark_passed o (unmark ∷ ts) ∙ unmark_passed o ts)

pub mark_of_nothing : (p : Piece) → (p ≡ pieces.Mark) ⊎ ((p ≡ pieces.Unmark) ⊎ ((p ≡ pieces.BareBegin) ⊎ (p ≡ pieces.BareEnd))) → chars [] ≡ text_of p
mark_of_nothing p (inl e) = chars-nil ∙ ap text_of (sym e)
mark_of_nothing p (inr (inl e)) = chars-nil ∙ ap text_of (sym e)
mark_of_nothing p (inr (inr (inl e))) = chars-nil ∙ ap text_of (sym e)
mark_of_nothing p (inr (inr (inr e))) = chars-nil ∙ ap text_of (sym e)

-- the piece before an index
pub append_read : (o : Option Formatting) (ps : List Piece) (i j : ℕ) (p : Piece) → i + 1 ≡ j → j ≤ length ps → p ≡ get_or ps i p
    → backwards_from o (pieces_view (take j ps)) ≡ backwards_from o (with_piece (pieces_view (take i ps)) p)
append_read o ps i j p next low at = ap (backwards_from o) (tokens_more ps i j p next low at)

-- nothing stands before the first piece
of_nothing : (o : Option Formatting) → backwards_from o [] ≡ []
of_nothing None = refl
of_nothing (Some f) = refl

pub at_start : (o : Option Formatting) (ps : List Piece) (i : ℕ) → i ≡ 0 → backwards_from o (pieces_view (take i ps)) ≡ []
at_start o ps i e = ap (λ n. backwards_from o (pieces_view (take n ps))) e ∙ of_nothing o
