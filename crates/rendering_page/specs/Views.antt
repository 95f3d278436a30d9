-- Pages of the code as plain data. Texts are viewed as their characters.
use Rattle.std.specs.Prelude.{ℕ, List, [], ◌∷◌, map, fold, Some}
use Rattle.std.specs.Borrow.{Bor}
use Rattle.std.specs.Option.{option_map}
use Rattle.std.specs.Str.{chars}
use Rattle.laws.specs.Text.{characters, spelled}
use Rattle.rendering_tree.specs.Tokens.{Token, formula, link, transparent, opening, closing, mark, unmark, with_letters}
use Rattle.rendering_tree.specs.Views.{meta_view}
use Rattle.rendering_page.specs.Pages as pages
use Rattle.rendering_page.specs.declared.manner.Manner.{Manner}
use Rattle.rendering_page.specs.declared.manner.Frame.{Frame}
use Rattle.rendering_page.specs.declared.piece.Link.{Link}
use Rattle.rendering_page.specs.declared.piece.Words.{Words}
use Rattle.rendering_page.specs.declared.piece.Words.TheVariants as words
use Rattle.rendering_page.specs.declared.piece.Piece.{Piece}
use Rattle.rendering_page.specs.declared.piece.Piece.TheVariants as pieces

-- the characters of a text, borrowed or made
abbrev pub words_view : Words → List ℕ
words_view (words.Borrowed s) = chars s.now
words_view (words.Made s) = characters s

-- a link
abbrev pub link_view : Link → Token
link_view l = link l.formatting (words_view l.text) (words_view l.url)

-- a piece after what was appended
abbrev pub with_piece : List Token → Piece → List Token
with_piece ts (pieces.Text f w) = with_letters f (words_view w) ts
with_piece ts (pieces.Markup w) = formula (words_view w) ∷ ts
with_piece ts (pieces.Link l) = link_view l.value ∷ ts
with_piece ts (pieces.Transparent f n) = transparent f n ∷ ts
with_piece ts (pieces.Opening d m) = opening d (option_map (λ e. meta_view e.now) m) ∷ ts
with_piece ts (pieces.MadeOpening d m) = opening d (Some (meta_view m)) ∷ ts
with_piece ts (pieces.Begin d m) = mark ∷ opening d (option_map (λ e. meta_view e.now) m) ∷ ts
with_piece ts (pieces.MadeBegin d m) = mark ∷ opening d (Some (meta_view m)) ∷ ts
with_piece ts pieces.BareBegin = mark ∷ mark ∷ ts
with_piece ts pieces.End = closing ∷ unmark ∷ ts
with_piece ts pieces.BareEnd = unmark ∷ unmark ∷ ts
with_piece ts pieces.Closing = closing ∷ ts
with_piece ts pieces.Mark = mark ∷ ts
with_piece ts pieces.Unmark = unmark ∷ ts

-- pieces in reading order, as what they append
abbrev pub pieces_view : List Piece → List Token
pieces_view ps = fold with_piece [] ps

-- how the texts of a node are appended
abbrev pub manner_view : Manner → pages.Manner
manner_view m = record {
  formatting = m.formatting;
  strips_periods = m.strips_periods;
  text_case = m.text_case;
  is_english = m.is_english;
}

-- an element
abbrev pub frame_view : Frame → pages.Frame
frame_view f = record {
  display = f.display;
  meta = option_map (λ e. meta_view e.now) f.meta;
  manner = manner_view f.manner;
  prefix = spelled f.prefix;
  suffix = spelled f.suffix;
}

-- close quotes
abbrev pub quotes_view : List (Bor (List ℕ)) → pages.Quotes
quotes_view quotes = map spelled quotes
