-- The document: where the names of its cites stand, and which of them mean nothing.
use Rattle.std.specs.Prelude.{ℕ, ◌==◌, not, List, [], ◌∷◌, ◌++◌, length, codes, flat_map, if◌then◌else◌, is_none, Option, Some, None, unwrap_or, Result}
use Rattle.std.specs.Option.{option_or}
use Rattle.std.specs.Str.{chars}
use Rattle.std.specs.Str.Lossy.{utf8_valid_len}
use Rattle.laws.specs.Characters.{backslash, at_sign, semicolon, close_bracket}
use Rattle.laws.specs.Runs.{after}
use Rattle.laws.specs.Text.{text}
use Rattle.fault_lines.specs.Messages.{fault_lines}
use Rattle.cite_markers.specs.Document.{Piece, Text, Marker}
use Rattle.cite_markers.specs.Marker.{Cite}
use Rattle.cite_requests.specs.Stages.{Refusal, document_not_utf8, no_marker, unknown_name, document_stage}
use Rattle.cite_requests.specs.Refusals.{refusal_text}
use Rattle.cite_requests.specs.Works.{Works, meaning}
use Rattle.cite_csl_styles.specs.Sources.{SourceFile, line, lines_left}
use Rattle.cite_csl_styles.specs.Stages.{Lines}
use Rattle.cite_csl.specs.Works.{said_by}

-- lines for the refusal of the document
abbrev pub document_lines : SourceFile → Refusal → Lines
document_lines d document_not_utf8 = fault_lines d.path d.bytes (utf8_valid_len d.bytes) (codes "not UTF-8")
document_lines d (no_marker offset) = fault_lines d.path d.bytes offset (codes "no marker")
document_lines d other = line (refusal_text other)

-- the pieces of the document
abbrev pub pieces_of : SourceFile → Result (List Piece) Lines
pieces_of d = said_by (document_lines d) (document_stage d.bytes)

-- what follows a text at the beginning of another, if it begins so
abbrev pub past : List ℕ → List ℕ → Option (List ℕ)
past [] cs = Some cs
past (t ∷ ts) [] = None
past (t ∷ ts) (c ∷ cs) = if c == t then past ts cs else None

-- what follows a text of the document, which stands there as it is, or after a backslash
abbrev pub past_text : List ℕ → List ℕ → List ℕ
past_text t cs = unwrap_or (option_or (past t cs) (past (backslash ∷ t) cs)) []

-- the text from the first of such a character on, and after it
abbrev pub from_first : ℕ → List ℕ → List ℕ
from_first mark cs = after (λ c. not (c == mark)) cs

abbrev pub less_one : List ℕ → List ℕ
less_one [] = []
less_one (c ∷ cs) = cs

abbrev pub past_first : ℕ → List ℕ → List ℕ
past_first mark cs = less_one (from_first mark cs)

-- the name of a cite, in bytes, and how many bytes of the document are left where its at sign stands
pub record Named : Type 0 where
  pub name : List ℕ
  pub left : ℕ

-- the names of a marker. A name begins at the first at sign of its cite, and cites are parted by semicolons; neither names nor locators have one.
abbrev pub names_in : List Cite → List ℕ → List Named
names_in [] cs = []
names_in (c ∷ rest) cs = record { name = text c.name; left = length (text (from_first at_sign cs)) } ∷ names_in rest (past_first semicolon cs)

-- the names of a piece, and what follows it; a marker ends at the first closing bracket
abbrev pub names_at : Piece → List ℕ → List Named
names_at (Text t) cs = []
names_at (Marker cites) cs = names_in cites cs

abbrev pub past_piece : Piece → List ℕ → List ℕ
past_piece (Text t) cs = past_text t cs
past_piece (Marker cites) cs = past_first close_bracket cs

-- the names of a document, whose pieces stand there one after the other
abbrev pub names_of : List Piece → List ℕ → List Named
names_of [] cs = []
names_of (p ∷ ps) cs = names_at p cs ++ names_of ps (past_piece p cs)

-- lines for a name that means nothing
abbrev pub name_lines : SourceFile → Works → Named → Lines
name_lines d works n = if is_none (meaning n.name works) then lines_left d n.left (codes "unknown name " ++ n.name) else []

abbrev pub unknown_lines : SourceFile → Works → List Piece → Lines
unknown_lines d works pieces = flat_map (name_lines d works) (names_of pieces (chars d.bytes))

-- lines where citations and bibliography are refused: for all names that mean nothing, where there is one
abbrev pub rendered_lines : SourceFile → Works → List Piece → Refusal → Lines
rendered_lines d works pieces (unknown_name name) = unknown_lines d works pieces
rendered_lines d works pieces other = line (refusal_text other)
