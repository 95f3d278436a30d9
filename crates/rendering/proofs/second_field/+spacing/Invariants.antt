use Rattle.std.proofs.Common.{◌≡◌, ℕ, ◌<◌, length, get_or}
use Rattle.rendering_tree.specs.declared.element.ElemChild.{ElemChild}
use Rattle.rendering.proofs.Spacing.{Spacing}
use Rattle.rendering.proofs.second_field.+spacing.Given as goal

abbrev pub invariant-push_space-loop-index : goal.invariant-push_space-loop-index
invariant-push_space-loop-index l =
    (length l.parts.items ≡ length l.fn.parts.items)
    × ((k : ℕ) (d : ElemChild) → k < l.index → get_or l.parts.items k d ≡ get_or l.fn.parts.items k d)
    × Spacing l.fn.parts.items l.parts.items l.index
