-- The characters that pieces show.
use Rattle.std.proofs.Common.{◌≡◌, ℕ, List, [], ◌∷◌, ◌++◌, append-nil, append_assoc, refl, sym, ap, ◌∙◌}
use Rattle.std.specs.Global.{Global}
use Rattle.std.specs.Prelude.{Box}
use Rattle.std.specs.List.{flat_map, fold}
use Rattle.std.specs.Str.{chars}
use Rattle.std.proofs.lemmas.Str.{chars-nil}
use Rattle.rendering_taxonomy.specs.declared.formatting.Formatting.{Formatting}
use Rattle.rendering_tree.specs.Tokens.{Token, letter, with_letters}
use Rattle.rendering_page.specs.Cursors.{shown_of, to_come}
use Rattle.rendering_page.specs.PageCharacters.{page_text}
use Rattle.rendering_page.specs.Views.{words_view, with_piece, pieces_view}
use Rattle.rendering_page.specs.declared.piece.Link.{Link}
use Rattle.rendering_page.specs.declared.piece.Words.{Words}
use Rattle.rendering_page.specs.declared.piece.Piece.{Piece}
use Rattle.rendering_page.specs.declared.piece.Piece.TheVariants as pieces

text_letters : (f : Formatting) (cs : List ℕ) (ts : List Token) → page_text (with_letters f cs ts) ≡ page_text ts ++ cs
text_letters f [] ts = sym (append-nil (page_text ts))
text_letters f (c ∷ cs) ts = text_letters f cs (letter f c ∷ ts) ∙ append_assoc (page_text ts) (c ∷ []) cs

appended_text : (p : Piece) (ts : List Token) → page_text (with_piece ts p) ≡ page_text ts ++ shown_of p
appended_text (pieces.Text f w) ts = text_letters f (words_view w) ts
appended_text (pieces.Markup w) ts = refl
appended_text (pieces.Link l) ts = refl
appended_text p ts = sym (append-nil (page_text ts))

text_from : (ps : List Piece) (ts : List Token) → page_text (fold with_piece ts ps) ≡ page_text ts ++ flat_map shown_of ps
text_from [] ts = sym (append-nil (page_text ts))
text_from (p ∷ ps) ts =
    text_from ps (with_piece ts p) ∙ ap (λ cs. cs ++ flat_map shown_of ps) (appended_text p ts) ∙ append_assoc (page_text ts) (shown_of p) (flat_map shown_of ps)

-- the characters of a page are those of its pieces
pub text_shown : (ps : List Piece) → flat_map shown_of ps ≡ page_text (pieces_view ps)
text_shown ps = sym (text_from ps [])

-- what is left to read of a page that was not begun
pub all_to_come : (ps : List Piece) → to_come ps 0 (chars []) ≡ page_text (pieces_view ps)
all_to_come ps = ap (λ cs. cs ++ flat_map shown_of ps) chars-nil ∙ text_shown ps

-- what is no text, no formula and no link shows nothing
pub shows_nothing : (p : Piece) → ((f : Formatting) (w : Words) → p ≡ pieces.Text f w → ⊥) → ((w : Words) → p ≡ pieces.Markup w → ⊥)
    → ((l : Box Link Global) → p ≡ pieces.Link l → ⊥) → chars [] ≡ shown_of p
shows_nothing (pieces.Text f w) a b c = absurd (a f w refl)
shows_nothing (pieces.Markup w) a b c = absurd (b w refl)
shows_nothing (pieces.Link l) a b c = absurd (c l refl)
shows_nothing (pieces.Transparent f n) a b c = chars-nil
shows_nothing (pieces.Opening d m) a b c = chars-nil
shows_nothing (pieces.MadeOpening d m) a b c = chars-nil
shows_nothing (pieces.Begin d m) a b c = chars-nil
shows_nothing (pieces.MadeBegin d m) a b c = chars-nil
shows_nothing pieces.BareBegin a b c = chars-nil
shows_nothing pieces.End a b c = chars-nil
shows_nothing pieces.BareEnd a b c = chars-nil
shows_nothing pieces.Closing a b c = chars-nil
shows_nothing pieces.Mark a b c = chars-nil
shows_nothing pieces.Unmark a b c = chars-nil
