use Rattle.std.proofs.Common.{◌≡◌, ℕ, ◌<◌, length, get_or}
use Rattle.rendering_tree.specs.declared.element.ElemChild.{ElemChild}
use Rattle.rendering.proofs.TrimmedEnds.{Trimming}
use Rattle.rendering.proofs.trimming.+trimming.Given as goal

abbrev pub invariant-trim-loop-index : goal.invariant-trim-loop-index
invariant-trim-loop-index l =
    (length l.parts.items ≡ length l.fn.parts.items)
    × ((k : ℕ) (d : ElemChild) → k < l.index → get_or l.parts.items k d ≡ get_or l.fn.parts.items k d)
    × Trimming l.fn.parts.items l.parts.items l.index
