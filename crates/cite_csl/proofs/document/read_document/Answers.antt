use Rattle.std.proofs.Common.{◌≡◌, ◌∙◌}
use lib.Chars.{codes}
use Rattle.fault_lines.specs.Messages.{fault_lines}
use Rattle.cite_markers.specs.Views.{document_view}
use Rattle.cite_csl_styles.specs.Views.{source_view}
use Rattle.cite_csl_styles.proofs.Stopped.{stopped}
use Rattle.cite_csl.specs.Names.{pieces_of}
use Rattle.cite_csl.proofs.DocumentRead.{bytes_refused, marker_refused, pieces_read}
use Rattle.cite_csl.proofs.document.read_document.Goals as goal

pub returns-in-Err-clause-pieces : goal.returns-in-Err-clause-pieces
returns-in-Err-clause-pieces c =
    let d = source_view c.args.file in
    let at = c.valid_up_to.result in
    stopped c.refused_at.result (fault_lines d.path d.bytes at (codes "not UTF-8")) (λ a. pieces_of d ≡ a) c.refused_at.ensures
    (bytes_refused d at c.in-Err.ensures.cases.0 (c.valid_up_to.ensures ∙ c.in-Err.ensures.valid_len))

pub returns-in-Ok-parse-clause-pieces : goal.returns-in-Ok-parse-clause-pieces
returns-in-Ok-parse-clause-pieces c =
    pieces_read (source_view c.args.file) c.in-Ok.text.now c.in-Ok.ensures.cases.0 c.in-Ok.ensures.cases.1 (document_view c.in-Ok-parse.document) c.in-Ok-parse.ensures

pub returns-in-Err-Marker-clause-pieces : goal.returns-in-Err-Marker-clause-pieces
returns-in-Err-Marker-clause-pieces c =
    let d = source_view c.args.file in
    let offset = c.in-Err-Marker.offset in
    stopped c.refused_at-in-Err-Marker.result (fault_lines d.path d.bytes offset (codes "no marker")) (λ a. pieces_of d ≡ a) (rw c.in-Err-Marker.field-0-is at c.refused_at-in-Err-Marker.ensures)
    (marker_refused d c.in-Ok.text.now c.in-Ok.ensures.cases.0 c.in-Ok.ensures.cases.1 offset (rw c.in-Err-Marker.field-0-is at c.in-Err-Marker.ensures))
