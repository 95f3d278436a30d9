-- What the code has and returns, without where it lies in memory.
use Rattle.std.specs.Global.{Global}
use Rattle.std.specs.Prelude.{◌≡◌, ℕ, List, map, Option, Some, None, Vec, Result, Ok, Err}
use Rattle.std.specs.Option.{option_map}
use Rattle.laws.specs.Text.{spelled}
use Rattle.texts.specs.declared.reader.Unreadable.{Unreadable}
use Rattle.texts.specs.declared.reader.Unreadable.TheVariants.{NotThere}
use Rattle.cite_markers.specs.Marker as marker
use Rattle.cite_markers.specs.Document as document
use Rattle.cite_markers.specs.declared.marker.CiteLocator.{CiteLocator}
use Rattle.cite_markers.specs.declared.marker.Cite.{Cite}
use Rattle.cite_markers.specs.declared.marker.Beginning.{Beginning}
use Rattle.cite_markers.specs.declared.document.Piece.{Piece}
use Rattle.cite_markers.specs.declared.document.Piece.TheVariants as pieces
use Rattle.cite_markers.specs.declared.document.Document.{Document}
use Rattle.cite_markers.specs.declared.error.Stop.{Stop}
use Rattle.cite_markers.specs.declared.error.Stop.TheVariants as stops
use Rattle.cite_markers.specs.declared.error.DocumentError.{DocumentError}
use Rattle.cite_markers.specs.declared.error.DocumentError.TheVariants as errors

abbrev pub beginning_view : Beginning → marker.Beginning
beginning_view b = record { hidden = b.hidden; purpose = b.purpose }

abbrev pub locator_view : CiteLocator → marker.CiteLocator
locator_view l = record { label = l.label; value = spelled l.value }

abbrev pub cite_view : Cite → marker.Cite
cite_view c = record { name = spelled c.name; hidden = c.hidden; purpose = c.purpose; locator = option_map locator_view c.locator }

abbrev pub cites_view : Vec Cite Global → List marker.Cite
cites_view v = map cite_view v.items

abbrev pub piece_view : Piece → document.Piece
piece_view (pieces.Text t) = document.Text (spelled t)
piece_view (pieces.Marker v) = document.Marker (cites_view v)

-- the pieces of a document
abbrev pub document_view : Document → List document.Piece
document_view d = map piece_view d.pieces.items

-- why reading stopped, but for want of memory
abbrev pub not_there : Stop → Option Unreadable
not_there stops.Memory = None
not_there stops.NotThere = Some NotThere

-- The next piece, or none at the end, and what is left are what a step gives; what is left at a fault is the fault.
abbrev pub Finds : Result (Option Piece) Stop → List ℕ → document.Step → Type 0
Finds (Ok next) rest step = step ≡ Ok (option_map piece_view next, rest)
Finds (Err stops.Memory) rest step = Unit {0}
Finds (Err stops.NotThere) rest step = step ≡ Err rest

-- the offset of an opening that no marker follows, or none where memory ran out
abbrev pub fault_offset : DocumentError → Option ℕ
fault_offset errors.Memory = None
fault_offset (errors.Marker offset) = Some offset
