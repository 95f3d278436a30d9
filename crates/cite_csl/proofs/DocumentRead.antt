-- The pieces of a document that is read, and the lines where it is refused.
use Rattle.std.proofs.Common.{◌≡◌, ℕ, Bool, true, false, List, cond, Result, Ok, Err, sym, ap, ◌∙◌}
use Rattle.std.specs.Str.{chars, IsUtf8, is_utf8}
use Rattle.std.specs.Str.Lossy.{utf8_valid_len}
use lib.Chars.{codes}
use Rattle.std.proofs.lemmas.Str.{is_utf8-from_IsUtf8, IsUtf8-from_is_utf8}
use Rattle.std.proofs.lemmas.Bool.{false_from_ne_true}
use Rattle.fault_lines.specs.Messages.{fault_lines}
use Rattle.cite_markers.specs.Document.{Piece, document_of}
use Rattle.cite_requests.specs.Stages.{document_not_utf8, no_marker, refused_as}
use Rattle.cite_csl_styles.specs.Sources.{SourceFile}
use Rattle.cite_csl.specs.Names.{document_lines, pieces_of}
use Rattle.cite_csl.specs.Works.{said_by}

stage_if : (d : SourceFile) (b : Bool) → is_utf8 d.bytes ≡ b
    → pieces_of d ≡ said_by (document_lines d) (cond b (refused_as no_marker (document_of (chars d.bytes))) (Err document_not_utf8))
stage_if d b is = ap (λ (c : Bool). said_by (document_lines d) (cond c (refused_as no_marker (document_of (chars d.bytes))) (Err document_not_utf8))) is

-- bytes that are no text
pub bytes_refused : (d : SourceFile) (at : ℕ) → (IsUtf8 d.bytes → ⊥) → at ≡ utf8_valid_len d.bytes → pieces_of d ≡ Err (fault_lines d.path d.bytes at (codes "not UTF-8"))
bytes_refused d at bad is =
    stage_if d false (false_from_ne_true (is_utf8 d.bytes) (λ t. bad (IsUtf8-from_is_utf8 d.bytes t)))
    ∙ ap (λ (n : ℕ). Err (fault_lines d.path d.bytes n (codes "not UTF-8"))) (sym is)

module _ (d : SourceFile) (t : List ℕ) (whole : t ≡ d.bytes) (utf8 : IsUtf8 d.bytes) where
  of_text : pieces_of d ≡ said_by (document_lines d) (refused_as no_marker (document_of (chars t)))
  of_text =
      stage_if d true (is_utf8-from_IsUtf8 d.bytes utf8)
      ∙ ap (λ (s : List ℕ). said_by (document_lines d) (refused_as no_marker (document_of (chars s)))) (sym whole)

  -- its pieces
  pub pieces_read : (pieces : List Piece) → document_of (chars t) ≡ Ok pieces → pieces_of d ≡ Ok pieces
  pieces_read pieces is = of_text ∙ ap (λ (r : Result (List Piece) ℕ). said_by (document_lines d) (refused_as no_marker r)) is

  -- an opening that no marker follows
  pub marker_refused : (offset : ℕ) → document_of (chars t) ≡ Err offset → pieces_of d ≡ Err (fault_lines d.path d.bytes offset (codes "no marker"))
  marker_refused offset is = of_text ∙ ap (λ (r : Result (List Piece) ℕ). said_by (document_lines d) (refused_as no_marker r)) is
