use Rattle.std.proofs.Common.{◌≡◌, List, map, ap, ◌∙◌, true}
use Rattle.laws.specs.Text.{characters, is_filled}
use Rattle.literature_values.specs.declared.text.StringChunk.{StringChunk}
use Rattle.literature_values.specs.TextViews.{chunk_view}
use Rattle.interop_values.specs.Views.{kind_of}
use Rattle.interop_values.proofs.PiecesGrowing.{ended}
use Rattle.interop_values.proofs.pieces.Pieces.end_run.Goals as goal

pub returns-clause-done : goal.returns-clause-done
returns-clause-done c =
    let old = c.args.self.now in
    let filled : is_filled (characters old.run) ≡ true = (cc) in
    ap (λ (ps : List StringChunk). map chunk_view ps) c.in_ok-push.ensures.items
    ∙ ended old.done.items (record { value = c.replace-value.result; kind = c.chunk_kind-kind.result }) (kind_of old.is_verbatim) (characters old.run) (ap characters c.replace-value.ensures.value) c.chunk_kind-kind.ensures filled
