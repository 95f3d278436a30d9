-- The months, which are known where no abbreviation has their name. Names and texts are bytes, and ASCII.
use Rattle.std.specs.Prelude.{ℕ, List, [], ◌∷◌, Option, codes}
use Rattle.std.specs.Str.{bytes_eq}
use Rattle.biblatex_tex.specs.Command.{listed}

-- the English name in full of a month in three letters, in lower case
abbrev pub month : List ℕ → Option (List ℕ)
month name = listed (bytes_eq name) (
    (codes "jan", codes "January") ∷ (codes "feb", codes "February") ∷ (codes "mar", codes "March") ∷ (codes "apr", codes "April")
    ∷ (codes "may", codes "May") ∷ (codes "jun", codes "June") ∷ (codes "jul", codes "July") ∷ (codes "aug", codes "August")
    ∷ (codes "sep", codes "September") ∷ (codes "oct", codes "October") ∷ (codes "nov", codes "November") ∷ (codes "dec", codes "December") ∷ [])
