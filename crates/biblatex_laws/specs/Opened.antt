-- Which abbreviations pieces open, and when two lists of definitions say the same of those. Where a piece stands is no part of what it
-- says.
use Rattle.std.specs.Prelude.{◌≡◌, ℕ, zero, suc, List, [], ◌∷◌, map, slice_get, Contains, Option, option_and_then}
use Rattle.std.specs.List.{flat_map}
use Rattle.std.specs.Option.{option_map, option_map_or}
use Rattle.laws.specs.Text.{lowered}
use Rattle.biblatex_text.specs.Raw.{At, Piece, normal, abbreviation, Field}
use Rattle.biblatex_fields.specs.Abbreviations.{index_of}

-- pieces without where they stand
abbrev pub bare : List (At Piece) → List Piece
bare ps = map (λ p. p.v) ps

-- the names of abbreviations among pieces, in lower case
abbrev pub name_in : Piece → List (List ℕ)
name_in (normal cs) = []
name_in (abbreviation name) = lowered name ∷ []

abbrev pub abbreviations_in : List Piece → List (List ℕ)
abbreviations_in ps = flat_map name_in ps

-- the pieces of the last definition of a name in lower case, if it has one
abbrev pub definition_of : List ℕ → List Field → Option (List Piece)
definition_of name ds = option_map (λ d. bare d.value.v) (option_and_then (slice_get ds) (index_of name ds))

-- a name that pieces open, so many definitions deep
abbrev pub IsOpenedAt : List Field → List Piece → ℕ → List ℕ → Type 0
IsOpenedAt ds ps zero name = Contains (abbreviations_in ps) name
IsOpenedAt ds ps (suc n) name =
    (outer : List ℕ) × IsOpenedAt ds ps n outer × Contains (option_map_or abbreviations_in (definition_of outer ds) []) name

-- a name that pieces open, however deep
abbrev pub IsOpened : List Field → List Piece → List ℕ → Type 0
IsOpened ds ps name = (n : ℕ) × IsOpenedAt ds ps n name

-- two lists of definitions say the same of each name that pieces open
abbrev pub DefineAlike : List Piece → List Field → List Field → Type 0
DefineAlike ps ds es = (name : List ℕ) → IsOpened ds ps name → definition_of name ds ≡ definition_of name es
