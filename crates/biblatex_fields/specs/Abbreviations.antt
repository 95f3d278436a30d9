-- The abbreviations of a text: what their names mean, which of them are circular, and what a piece of a value stands for.
-- Names are compared in lower case, where only the ASCII letters have one.
use Rattle.std.specs.Prelude.{◌≡◌, ◌↔◌, ℕ, suc, ◌<◌, Bool, false, IsTrue, List, [], ◌∷◌, All, map, length, get_or, slice_get, if◌then◌else◌, Option, Some, None, Result, Ok, Err}
use Rattle.std.specs.Str.{bytes_eq, chars}
use Rattle.std.specs.List.{flat_map}
use Rattle.laws.specs.Text.{text, lowered}
use Rattle.biblatex_text.specs.Raw.{At, Piece, normal, abbreviation, Field}
use Rattle.reference_graph.specs.References.{IsCircular}
use Rattle.reference_graph.specs.Order.{Arranged, MarksCircular, is_marked}
use Rattle.biblatex_fields.specs.Month.{month}
use Rattle.biblatex_fields.specs.Refusals.{unknown_abbreviation, abbreviation_cycle, malformed_command, Refusal, refused_at}

-- Why a field is refused: a name that means nothing, a circular name, each as it is written at the piece that is opened, or
-- a malformed command in the piece at these bytes.
abbrev pub unknown : At (List ℕ) → Refusal
unknown name = refused_at name (unknown_abbreviation (text name.v))

abbrev pub circular : At (List ℕ) → Refusal
circular name = refused_at name (abbreviation_cycle (text name.v))

abbrev pub malformed : ℕ → ℕ → Refusal
malformed start end = record { reason = malformed_command; start = start; end = end }

-- an index after another, or the first one
abbrev pub later : Option ℕ → Bool → Option ℕ
later (Some index) is_first = Some (suc index)
later None is_first = if is_first then Some 0 else None

-- the index of the last definition of a name in lower case, if it has one
abbrev pub index_of : List ℕ → List Field → Option ℕ
index_of name [] = None
index_of name (d ∷ ds) = later (index_of name ds) (bytes_eq name (lowered d.name.v))

-- the pieces of the definition at an index
abbrev pub pieces_in : Option Field → List (At Piece)
pieces_in None = []
pieces_in (Some d) = d.value.v

abbrev pub pieces_at : List Field → ℕ → List (At Piece)
pieces_at ds index = pieces_in (slice_get ds index)

-- the definition that a piece names, if there is one
abbrev pub indices : Option ℕ → List ℕ
indices None = []
indices (Some index) = index ∷ []

abbrev pub named : List Field → Piece → List ℕ
named ds (normal cs) = []
named ds (abbreviation name) = indices (index_of (lowered name) ds)

-- of each definition, the definitions that its pieces name
abbrev pub references_of : List Field → List (At Piece) → List ℕ
references_of ds ps = flat_map (λ p. named ds p.v) ps

abbrev pub references : List Field → List (List ℕ)
references ds = map (λ d. references_of ds d.value.v) ds

-- flags that say of each definition whether it reaches itself through the names in its pieces
pub record AreFlags (flags : List Bool) (ds : List Field) : Type 0 where
  pub long : length flags ≡ length ds
  pub exact : (index : ℕ) → index < length ds → IsTrue (get_or flags index false) ↔ IsCircular (references ds) index

-- definitions in an order, and marks that say which of all reach themselves
pub record IsArranged (ds : List Field) (o : Arranged) : Type 0 where
  pub marks : MarksCircular (references ds) o.circular
  pub within : All (λ index. index < length ds) o.order

-- so many flags, which are the first of the marks
pub record Copied (flags marks : List Bool) (count : ℕ) : Type 0 where
  pub long : length flags ≡ count
  pub same : (i : ℕ) → i < count → get_or flags i false ≡ is_marked marks i

-- the abbreviations of a text in order, and of each whether it is circular
pub record Glossary : Type 0 where
  pub definitions : List Field
  pub flags : List Bool

-- What a piece stands for: a text, or the pieces of a definition.
pub data Sense : Type 0 where
  spelled : List ℕ → Sense
  defined : List (At Piece) → Sense

-- a name without a definition is a month, or means nothing
abbrev pub month_or_unknown : At (List ℕ) → Option (List ℕ) → Result Sense Refusal
month_or_unknown name None = Err (unknown name)
month_or_unknown name (Some text) = Ok (spelled (chars text))

-- a name by the index of its last definition
abbrev pub sense_of : Glossary → At (List ℕ) → Option ℕ → Result Sense Refusal
sense_of g name None = month_or_unknown name (month (lowered name.v))
sense_of g name (Some index) = if get_or g.flags index false then Err (circular name) else Ok (defined (pieces_at g.definitions index))

abbrev pub sense_in : Glossary → ℕ → ℕ → Piece → Result Sense Refusal
sense_in g start end (normal cs) = Ok (spelled cs)
sense_in g start end (abbreviation name) = sense_of g (record { v = name; start = start; end = end }) (index_of (lowered name) g.definitions)

-- what a piece stands for
abbrev pub sense : Glossary → At Piece → Result Sense Refusal
sense g p = sense_in g p.start p.end p.v
