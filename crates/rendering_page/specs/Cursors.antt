-- What is left to read of a page, and what is done to a page from its end on.
use Rattle.std.specs.Prelude.{ℕ, zero, suc, Bool, true, false, not, ◌==◌, ◌&&◌, List, [], ◌∷◌, ◌++◌, drop, if◌then◌else◌, Option, Some, None}
use Rattle.std.specs.List.{flat_map}
use Rattle.std.specs.Char.{is_whitespace}
use Rattle.rendering_taxonomy.specs.Formats.{looks_like}
use Rattle.rendering_taxonomy.specs.declared.formatting.Formatting.{Formatting}
use Rattle.rendering_tree.specs.Tokens.{Token, alike_from, last_backwards, without_letters, with_letter_before}
use Rattle.rendering_page.specs.Views.{words_view, with_piece}
use Rattle.rendering_page.specs.declared.cutting.CutPoint.{CutPoint}
use Rattle.rendering_page.specs.declared.cutting.CutPoint.TheVariants as cuts
use Rattle.rendering_page.specs.declared.piece.Piece.{Piece}
use Rattle.rendering_page.specs.declared.piece.Piece.TheVariants as pieces

-- what is left of the last text, its last character first: all of it, or what looks as the characters that were met
abbrev pub backwards_from : Option Formatting → List Token → List ℕ
backwards_from None ts = last_backwards ts
backwards_from (Some f) ts = alike_from f ts

-- whether a list begins another
abbrev pub begins : List ℕ → List ℕ → Bool
begins [] ys = true
begins (x ∷ xs) [] = false
begins (x ∷ xs) (y ∷ ys) = x == y && begins xs ys

-- whether a text that looks so stands apart from one of which a character was met
abbrev pub parts : Option Formatting → Formatting → Bool
parts None f = false
parts (Some g) f = not (looks_like g f)

-- how many characters of white space a text begins with
abbrev pub blanks : List ℕ → ℕ
blanks [] = zero
blanks (c ∷ cs) = if is_whitespace c then suc (blanks cs) else zero

-- without the white space that ends the last text
abbrev pub trimmed_from : Option Formatting → List Token → List Token
trimmed_from met ts = without_letters (blanks (backwards_from met ts)) ts

-- a character goes before the last ones of a page, of which a piece is the last
abbrev pub with_cut : ℕ → CutPoint → (List Token → List Token) → List Token → List Token
with_cut c (cuts.Here q) piece ts = with_piece (piece ts) q
with_cut c (cuts.Before n) piece ts = piece (with_letter_before n c ts)

-- what of a piece is text
abbrev pub text_of : Piece → List ℕ
text_of (pieces.Text f w) = words_view w
text_of p = []

-- what a piece shows of itself
abbrev pub shown_of : Piece → List ℕ
shown_of (pieces.Text f w) = words_view w
shown_of (pieces.Markup w) = words_view w
shown_of (pieces.Link l) = words_view l.value.text
shown_of p = []

-- the characters of a text, and of the pieces from an index on
abbrev pub to_come : List Piece → ℕ → List ℕ → List ℕ
to_come ps index cs = cs ++ flat_map shown_of (drop index ps)
