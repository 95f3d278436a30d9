use Rattle.std.proofs.Common.{ap, ◌∙◌}
use Rattle.rendering_tree.specs.Views.{children_view}
use Rattle.rendering.specs.Blocks.{ends_in_block}
use Rattle.rendering.proofs.LastBlocks.{block_last}
use Rattle.rendering.proofs.blocks.+block.Goals as goal

pub ends_in_block-returns-in-Some : goal.ends_in_block-returns-in-Some
ends_in_block-returns-in-Some t c =
    c.child_ends_in_block.ensures ∙ block_last c.deref.result.now c.in-Some.part.now c.in-Some.ensures.item.3.0 c.in-Some.ensures.item.1 ∙ ap (λ xs. ends_in_block (children_view xs)) c.deref.ensures.value
