-- Texts of the code as callers see them: their characters.
use Rattle.std.specs.Prelude.{ℕ, List, map, Option}
use Rattle.std.specs.Option.{option_map}
use Rattle.laws.specs.Text.{characters}
use Rattle.literature_values.specs.declared.publisher.Publisher.{Publisher}
use Rattle.literature_values.specs.declared.text.ChunkKind.{ChunkKind}
use Rattle.literature_values.specs.declared.text.StringChunk.{StringChunk}
use Rattle.literature_values.specs.declared.text.ChunkedString.{ChunkedString}
use Rattle.literature_values.specs.declared.text.FormatString.{FormatString}

-- a piece: its characters and its kind
pub record Chunk : Type 0 where
  pub value : List ℕ
  pub kind : ChunkKind

-- a text in pieces, and its short form
pub record Format : Type 0 where
  pub value : List Chunk
  pub short : Option (List Chunk)

-- a publisher: its name and its location
pub record Publishing : Type 0 where
  pub name : Option Format
  pub location : Option Format

-- a piece by its characters and its kind
abbrev pub chunk_view : StringChunk → Chunk
chunk_view c = record { value = characters c.value; kind = c.kind }

-- the pieces in order
abbrev pub chunks_view : ChunkedString → List Chunk
chunks_view s = map chunk_view s.0.items

-- the text and its short form
abbrev pub format_view : FormatString → Format
format_view f = record { value = chunks_view f.value; short = option_map chunks_view f.short }

-- the name and the location
abbrev pub publishing_view : Publisher → Publishing
publishing_view p = record { name = option_map format_view p.name; location = option_map format_view p.location }
