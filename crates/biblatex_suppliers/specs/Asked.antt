-- For which of its fields an entry is asked by others. An entry is made only where it is no xdata entry, so of an xdata entry nothing is
-- looked at but what entries of other types inherit, and what their dates are made of.
use Rattle.std.specs.Prelude.{ℕ, Bool, not, ◌||◌, List, [], ◌∷◌, ◌++◌, Option, Some, None, codes, if◌then◌else◌}
use Rattle.std.specs.Str.{bytes_eq}
use Rattle.biblatex_entries.specs.declared.role.Role.{Role}
use Rattle.biblatex_entries.specs.declared.role.Role.TheVariants.{Article, PartOfBook, PartOfOther}
use Rattle.biblatex_inherited_fields.specs.Table.{is_among, of_all, of_articles, of_parts, is_xdata}

-- the fields that a date is made of
abbrev pub of_dates : List (List ℕ)
of_dates = codes "date" ∷ codes "year" ∷ codes "month" ∷ codes "day" ∷ []

-- the fields for which an xdata entry is asked
abbrev pub asked : List (List ℕ)
asked = of_all ++ (of_articles ++ (of_parts ++ of_dates))

-- the names under which fields stand in references that have other names there
abbrev pub other_source : List ℕ → Option (List ℕ)
other_source name =
    if bytes_eq name (codes "title") then Some (codes "title")
    else (if bytes_eq name (codes "subtitle") then Some (codes "subtitle")
    else (if bytes_eq name (codes "author") then Some (codes "author")
    else None))

-- whether an entry of the role may be asked for the field
abbrev pub is_asked : Role → List ℕ → Bool
is_asked role name = not (is_xdata role) || is_among asked name

-- the fields that an entry of the role inherits beyond those that every entry inherits, but for xdata entries
abbrev pub further : Role → List (List ℕ)
further Article = of_articles
further PartOfBook = of_parts
further PartOfOther = of_parts
further _ = []
