-- What pieces are to the marks of a page.
use Rattle.std.specs.Prelude.{ℕ, Bool, true, false, not, ◌==◌, List, if◌then◌else◌, Option, Some, None}
use Rattle.std.specs.Char.{is_whitespace}
use Rattle.std.specs.List.{list_any}
use Rattle.laws.specs.Text.{is_filled}
use Rattle.rendering_tree.specs.Tokens.{Token}
use Rattle.rendering_page.specs.Pages.{prints}
use Rattle.rendering_page.specs.Views.{words_view, with_piece}
use Rattle.rendering_page.specs.declared.piece.Piece.{Piece}
use Rattle.rendering_page.specs.declared.piece.Piece.TheVariants as pieces

-- whether a piece prints more than white space
abbrev pub prints_itself : Piece → Bool
prints_itself (pieces.Text f w) = list_any (λ c. not (is_whitespace c)) (words_view w)
prints_itself (pieces.Markup w) = true
prints_itself (pieces.Link l) = true
prints_itself (pieces.Transparent f n) = true
prints_itself p = false

-- how many marks it has where something begins
abbrev pub opens : Piece → ℕ
opens pieces.Mark = 1
opens (pieces.Begin d m) = 1
opens (pieces.MadeBegin d m) = 1
opens pieces.BareBegin = 2
opens p = 0

-- how many it has where something ends
abbrev pub closes : Piece → ℕ
closes pieces.Unmark = 1
closes pieces.End = 1
closes pieces.BareEnd = 2
closes p = 0

-- whether it is something that was appended, and not only marked
abbrev pub is_something : Piece → Bool
is_something (pieces.Text f w) = is_filled (words_view w)
is_something pieces.BareBegin = false
is_something pieces.BareEnd = false
is_something pieces.Mark = false
is_something pieces.Unmark = false
is_something p = true

-- whether an element may begin with it
abbrev pub is_first : Piece → Bool
is_first (pieces.Opening d m) = true
is_first (pieces.MadeOpening d m) = true
is_first (pieces.Begin d m) = true
is_first (pieces.MadeBegin d m) = true
is_first pieces.BareBegin = true
is_first pieces.Mark = true
is_first p = false

-- what of a piece stands before its last mark, if it has one
abbrev pub first_part : Piece → Option Piece
first_part (pieces.Begin d m) = Some (pieces.Opening d m)
first_part (pieces.MadeBegin d m) = Some (pieces.MadeOpening d m)
first_part pieces.BareBegin = Some pieces.Mark
first_part p = None

-- what of it stands before its mark that is open, after so many that are closed
abbrev pub before_open : Piece → ℕ → Option Piece
before_open p n = if n == 0 then first_part p else None

-- a part of a piece after what was appended, if there is one
abbrev pub with_part : List Token → Option Piece → List Token
with_part ts None = ts
with_part ts (Some p) = with_piece ts p

-- whether nothing begins with a piece
abbrev pub begins_nothing : Piece → Bool
begins_nothing p = opens p == 0

-- that what was begun last has printed something, where that is known
abbrev pub known_to_print : Bool → List Token → Bool
known_to_print false ts = true
known_to_print true ts = prints 0 ts
