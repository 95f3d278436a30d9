use Rattle.std.proofs.Common.{◌≡◌, map}
use Rattle.biblatex_content.specs.Spans.{spanned_so_far}
use Rattle.biblatex_fields.specs.Abbreviations.{pieces_at}
use Rattle.biblatex_fields.specs.Openings.{resolved_read}
use Rattle.biblatex_fields.specs.Value.{in_order, read}
use Rattle.biblatex_fields.proofs.ViewsFrames.{frame}
use Rattle.biblatex_fields.proofs.ValueStack.{stack_read}
use Rattle.biblatex_fields.proofs.OpeningsEffort.{left}
use Rattle.biblatex_fields.proofs.abbreviations.Abbreviations.push_definition.Given as goal

abbrev pub invariant-loop-frame : goal.invariant-loop-frame
invariant-loop-frame l = stack_read (resolved_read l.self l.is_verbatim) (map frame l.frames.items) (spanned_so_far l.contents) ≡ in_order (read l.self l.is_verbatim) (pieces_at l.self.definitions l.index) (spanned_so_far l.fn.contents)

abbrev pub decreases-loop-frame : goal.decreases-loop-frame
decreases-loop-frame l = left l.self (map frame l.frames.items)
