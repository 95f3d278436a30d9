-- The output of a document, piece after piece.
use Rattle.std.proofs.Common.{◌≡◌, ℕ, List, [], ◌∷◌, ◌++◌, refl, sym, ap, subst}
use Rattle.std.specs.Fmt.{WritesInCalls}
use Rattle.std.specs.List.{flat_map}
use Rattle.std.proofs.Output.{writes_in_calls_single}
use Rattle.laws.specs.Text.{text}
use Rattle.rendering_output.specs.Writing.{WritesCharacters}
use Rattle.rendering_output.specs.declared.writing.BufWriteFormat.{BufWriteFormat}
use Rattle.rendering_output.proofs.WritingCalls.{writes_more, writes_nothing}
use Rattle.driver_bibliography.specs.Items.{Fields}
use Rattle.driver.specs.Finish.{Citation}
use Rattle.cite_markers.specs.Document.{Piece, Text, Marker}
use Rattle.cite_output.specs.Output.{document_text, field_text, item_end, item_opening, item_text, tree_text}
use Rattle.cite_output.specs.Pieces.{citations_after, piece_text}

-- a piece, before the others
splits : (format : BufWriteFormat) (p : Piece) (ps : List Piece) (cs : List Citation) → document_text format (p ∷ ps) cs ≡ piece_text format p cs ++ document_text format ps (citations_after p cs)
splits format (Text t) ps cs = refl
splits format (Marker m) ps [] = refl
splits format (Marker m) ps (c ∷ cs) = refl

module _ {W : Type 0} (took : W → List ℕ → W → Type 0) where
  -- a call wrote what spells characters
  pub writes_spelled : (w : W) (cs bs : List ℕ) (v : W) → bs ≡ text cs → took w bs v → WritesCharacters took w cs v
  writes_spelled w cs bs v is t = subst (λ (x : List ℕ). WritesInCalls took w x v) is (writes_in_calls_single took w bs v t)

  -- characters in another form
  pub writes_same : (w : W) (cs ds : List ℕ) (v : W) → cs ≡ ds → WritesCharacters took w cs v → WritesCharacters took w ds v
  writes_same w cs ds v same t = subst (λ (x : List ℕ). WritesCharacters took w x v) same t

  -- a piece of a document, before the others
  pub piece_first : (format : BufWriteFormat) (p : Piece) (ps : List Piece) (cs : List Citation) (w m u : W) → WritesCharacters took w (piece_text format p cs) m
      → WritesCharacters took m (document_text format ps (citations_after p cs)) u → WritesCharacters took w (document_text format (p ∷ ps) cs) u
  piece_first format p ps cs w m u first others =
      writes_same w (piece_text format p cs ++ document_text format ps (citations_after p cs)) (document_text format (p ∷ ps) cs) u (sym (splits format p ps cs))
      (writes_more took w (piece_text format p cs) m (document_text format ps (citations_after p cs)) u first others)

  -- nothing is left of a document without pieces
  pub no_piece : (format : BufWriteFormat) (ps : List Piece) (cs : List Citation) (w : W) → ps ≡ [] → WritesCharacters took w (document_text format ps cs) w
  no_piece format ps cs w none = writes_same w [] (document_text format ps cs) w (ap (λ (qs : List Piece). document_text format qs cs) (sym none)) (writes_nothing took w)

  -- an item, part after part
  pub item_written : (format : BufWriteFormat) (f : Fields) (w a b c v : W) → WritesCharacters took w (item_opening format) a → WritesCharacters took a (field_text format f.first_field) b
      → WritesCharacters took b (tree_text format f.content) c → WritesCharacters took c (item_end format) v → WritesCharacters took w (item_text format f) v
  item_written format f w a b c v opening field content end =
      writes_more took w (item_opening format) a (field_text format f.first_field ++ (tree_text format f.content ++ item_end format)) v opening
      (writes_more took a (field_text format f.first_field) b (tree_text format f.content ++ item_end format) v field
      (writes_more took b (tree_text format f.content) c (item_end format) v content end))

  -- an item, before the others
  pub item_first : (format : BufWriteFormat) (f : Fields) (fs : List Fields) (w m u : W) → WritesCharacters took w (item_text format f) m
      → WritesCharacters took m (flat_map (item_text format) fs) u → WritesCharacters took w (flat_map (item_text format) (f ∷ fs)) u
  item_first format f fs w m u first others = writes_more took w (item_text format f) m (flat_map (item_text format) fs) u first others

  -- no item is left
  pub no_item : (format : BufWriteFormat) (fs : List Fields) (w : W) → fs ≡ [] → WritesCharacters took w (flat_map (item_text format) fs) w
  no_item format fs w none = writes_same w [] (flat_map (item_text format) fs) w (ap (λ (gs : List Fields). flat_map (item_text format) gs) (sym none)) (writes_nothing took w)
