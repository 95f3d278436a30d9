-- What was appended one after the other, as pieces.
use Rattle.std.proofs.Common.{◌≡◌, ℕ, List, [], ◌∷◌, ◌++◌, sym, ap, ◌∙◌}
use Rattle.std.specs.Str.{chars}
use Rattle.std.proofs.lemmas.List.Sums.{fold-append}
use Rattle.std.proofs.lemmas.Str.{chars-nil}
use Rattle.literature_values.specs.declared.date.Date.{Date}
use Rattle.rendering_locale.specs.Locales.{Locale}
use Rattle.rendering_page.specs.Pages.{Page, Manner, Quotes, empty_page, append_normal}
use Rattle.rendering_page.specs.Pieces.{Piece, normal, append_piece, append_pieces}
use Rattle.rendering_page.specs.PageCharacters.{page_text}
use Rattle.rendering_dates.specs.Dates.{DateShape, side_pieces, side_text}

-- a text after pieces
append-after : (quotes : Quotes) (m : Manner) (ps : List Piece) (cs : List ℕ) (old middle new : Page) → middle ≡ append_pieces quotes ps old → new ≡ append_normal quotes m cs middle
    → new ≡ append_pieces quotes (ps ++ normal m cs ∷ []) old
append-after quotes m ps cs old middle new a b =
    b ∙ ap (append_normal quotes m cs) a ∙ sym (fold-append (append_piece quotes) old ps (normal m cs ∷ []))

-- pieces, a text and other pieces
pub append-sides : (quotes : Quotes) (m : Manner) (ps qs : List Piece) (cs ds : List ℕ) (old first middle new : Page)
    → ds ≡ cs → first ≡ append_pieces quotes ps old → middle ≡ append_normal quotes m ds first → new ≡ append_pieces quotes qs middle
    → new ≡ append_pieces quotes (ps ++ normal m cs ∷ [] ++ qs) old
append-sides quotes m ps qs cs ds old first middle new is a b c =
    c
    ∙ ap (append_pieces quotes qs) (append-after quotes m ps cs old first middle a (b ∙ ap (λ (t : List ℕ). append_normal quotes m t first) is))
    ∙ sym (fold-append (append_piece quotes) old (ps ++ normal m cs ∷ []) qs)

-- a side without a year suffix, a text and other pieces
pub append-whole : (quotes : Quotes) (m : Manner) (side : List ℕ → List Piece) (qs : List Piece) (cs ds : List ℕ) (old first middle new : Page)
    → ds ≡ cs → first ≡ append_pieces quotes (side (chars [])) old → middle ≡ append_normal quotes m ds first → new ≡ append_pieces quotes qs middle
    → new ≡ append_pieces quotes (side [] ++ normal m cs ∷ [] ++ qs) old
append-whole quotes m side qs cs ds old first middle new is a b c =
    append-sides quotes m (side (chars [])) qs cs ds old first middle new is a b c
    ∙ (λ i. append_pieces quotes (side (chars-nil i) ++ normal m cs ∷ [] ++ qs) old)

-- what a side prints on a page of its own
pub append-alone : (ls : List Locale) (m : Manner) (shape : DateShape) (d : Date) (old new : Page) → old ≡ empty_page → new ≡ append_pieces [] (side_pieces ls m shape (chars []) d) old
    → page_text new.tokens ≡ side_text ls m shape d
append-alone ls m shape d old new empty is =
    ap (λ (p : Page). page_text p.tokens) (is ∙ (λ i. append_pieces [] (side_pieces ls m shape (chars-nil i) d) (empty i)))
