use Rattle.std.proofs.Common.{◌≡◌, ℕ, ◌≤◌, length, get_or}
use Rattle.rendering_tree.specs.declared.element.ElemChild.{ElemChild}
use Rattle.rendering_tree.proofs.TreesParting.{Passing}
use Rattle.rendering_tree.proofs.remove.+removing.Given as goal

abbrev pub invariant-remove_first-loop-index : goal.invariant-remove_first-loop-index
invariant-remove_first-loop-index l =
    (length l.parts.items ≡ length l.fn.parts.items)
    × ((k : ℕ) (d : ElemChild) → l.index ≤ k → get_or l.parts.items k d ≡ get_or l.fn.parts.items k d)
    × Passing l.fn.parts.items l.parts.items l.index
