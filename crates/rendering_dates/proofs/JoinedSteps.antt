-- Parts of a date appended one after the other.
use Rattle.std.proofs.Common.{ℕ, Bool, List, drop}
use Rattle.literature_values.specs.declared.date.Date.{Date}
use Rattle.rendering_locale.specs.declared.locale.DatePart.{DatePart}
use Rattle.rendering_page.specs.Pages.{Page, Quotes}
use Rattle.rendering_page.specs.Pieces.{Piece, append_pieces}
use Rattle.rendering_dates.specs.Joined.{joined_from}
use Rattle.rendering_dates.specs.Views.{delimiter_by, listed_by}
use Rattle.rendering_dates.specs.declared.sides.DateStyle.{DateStyle}

-- the pieces of the parts from an index on, with the changes of the shape
abbrev pub from_index : DateStyle → List ℕ → Date → List DatePart → ℕ → List (List Piece)
from_index s year_suffix d ps i = listed_by s year_suffix d (drop i ps)

-- What the parts from an index on append, after those before them.
abbrev pub append_rest : Quotes → DateStyle → List ℕ → Date → List DatePart → ℕ → Bool → Page → Page
append_rest quotes s year_suffix d ps i first page = append_pieces quotes (joined_from first (delimiter_by s) (from_index s year_suffix d ps i)) page
