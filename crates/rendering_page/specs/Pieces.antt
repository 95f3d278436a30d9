-- What values come to before it is known where they stand: pieces that are appended one after the other.
use Rattle.std.specs.Prelude.{ℕ, List, [], ◌∷◌, ◌++◌, map, fold}
use Rattle.literature_values.specs.TextViews.{Chunk}
use Rattle.literature_values.specs.declared.text.ChunkKind.{ChunkKind}
use Rattle.literature_values.specs.declared.text.ChunkKind.TheVariants as kinds
use Rattle.rendering_cases.specs.Cases.{cased_chunks}
use Rattle.rendering_tree.specs.Tokens as tokens
use Rattle.rendering_page.specs.Pages.{Page, Manner, uncased, Quotes, Frame, append_normal, append_further, append_verbatim, append_token, append_quote, begun, ended}
use Rattle.rendering_taxonomy.specs.declared.formatting.Formatting.{Formatting}

-- An ordinary text; one that goes on with the text before it; a text as it is; a close quote; a formula; a link from a text to an
-- address; a locator of the caller's own, by the index of its cite; where an element begins and ends.
pub data Piece : Type 0 where
  normal : Manner → List ℕ → Piece
  further : Manner → List ℕ → Piece
  verbatim : Formatting → List ℕ → Piece
  close_quote : Manner → List ℕ → Piece
  math : List ℕ → Piece
  linked : Formatting → List ℕ → List ℕ → Piece
  own_locator : Formatting → ℕ → Piece
  begin : Frame → Piece
  end : Frame → Piece

-- a piece is appended
abbrev pub append_piece : Quotes → Page → Piece → Page
append_piece quotes p (normal m cs) = append_normal quotes m cs p
append_piece quotes p (further m cs) = append_further quotes m cs p
append_piece quotes p (verbatim f cs) = append_verbatim f cs p
append_piece quotes p (close_quote m cs) = append_quote quotes m cs p
append_piece quotes p (math cs) = append_token (tokens.formula cs) p
append_piece quotes p (linked f cs url) = append_token (tokens.link f cs url) p
append_piece quotes p (own_locator f n) = append_token (tokens.transparent f n) p
append_piece quotes p (begin f) = begun f p
append_piece quotes p (end f) = ended quotes f p

-- one after the other
abbrev pub append_pieces : Quotes → List Piece → Page → Page
append_pieces quotes ps p = fold (append_piece quotes) p ps

-- an element round pieces
abbrev pub framed : Frame → List Piece → List Piece
framed f ps = begin f ∷ ps ++ end f ∷ []

-- a piece of a text by its kind
abbrev pub chunk_by : ChunkKind → Manner → List ℕ → Piece
chunk_by kinds.Normal m cs = normal m cs
chunk_by kinds.Verbatim m cs = verbatim m.formatting cs
chunk_by kinds.Math m cs = math cs

-- a piece of a text
abbrev pub chunk_piece : Manner → Chunk → Piece
chunk_piece m c = chunk_by c.kind m c.value

-- a piece that goes on with a text, by its kind
abbrev pub further_by : ChunkKind → Manner → List ℕ → Piece
further_by kinds.Normal m cs = further m cs
further_by kind m cs = chunk_by kind m cs

-- a piece that goes on with a text
abbrev pub further_piece : Manner → Chunk → Piece
further_piece m c = further_by c.kind m c.value

-- pieces of a text, each by itself
abbrev pub each_piece : Manner → List Chunk → List Piece
each_piece m [] = []
each_piece m (c ∷ cs) = chunk_piece m c ∷ map (further_piece m) cs

-- a text in pieces, in the case that all of it has as one text
abbrev pub chunk_pieces : Manner → List Chunk → List Piece
chunk_pieces m cs = each_piece (uncased m) (cased_chunks m.text_case m.is_english cs)
