use Rattle.std.proofs.Common.{◌≡◌, map, take}
use Rattle.laws.specs.Text.{characters}
use Rattle.literature_values.specs.TextViews.{chunk_view}
use Rattle.rendering_cases.specs.Cases.{plain}
use Rattle.rendering_cases.proofs.cased.plain_text.Given as goal

abbrev pub invariant-loop-chunk : goal.invariant-loop-chunk
invariant-loop-chunk l = characters l.plain ≡ plain (map chunk_view (take l.chunk-index l.chunks))
