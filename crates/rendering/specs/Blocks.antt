-- A text after the last block of an item stands in that block.
use Rattle.std.specs.Prelude.{Bool, false, ◌||◌, if◌then◌else◌, Option, Some, None, is_some}
use Rattle.rendering_taxonomy.specs.declared.formatting.Display.{Display}
use Rattle.rendering_tree.specs.Trees.{Child, Children, Text, Elem, nothing, before, followed_by, is_nothing}

abbrev mutual
  -- whether a child ends in a block: an element with a display
  pub child_ends_in_block : Child → Bool
  child_ends_in_block (Elem d m xs) = is_some d || ends_in_block xs
  child_ends_in_block x = false

  -- whether the last child does
  pub ends_in_block : Children → Bool
  ends_in_block nothing = false
  ends_in_block (before x xs) = if is_nothing xs then child_ends_in_block x else ends_in_block xs

-- what a block contains, and what another element does
abbrev pub by_display : Option Display → Children → Children → Children
by_display (Some d) in_block in_other = in_block
by_display None in_block in_other = in_other

abbrev mutual
  -- a child with another one at the end of the block in which it ends
  pub block_ended : Child → Child → Child
  block_ended t (Elem d m xs) = Elem d m (by_display d (followed_by xs (before t nothing)) (blocks_ended t xs))
  block_ended t x = x

  -- children with it
  pub blocks_ended : Child → Children → Children
  blocks_ended t nothing = nothing
  blocks_ended t (before x xs) = if is_nothing xs then before (block_ended t x) nothing else before x (blocks_ended t xs)

-- children and one more; a text stands in the block in which they end
abbrev pub then_child : Children → Child → Children
then_child xs (Text f cs) = if ends_in_block xs then blocks_ended (Text f cs) xs else followed_by xs (before (Text f cs) nothing)
then_child xs x = followed_by xs (before x nothing)

-- the last child
abbrev pub last_child : Child → Children → Child
last_child x nothing = x
last_child x (before y ys) = last_child y ys

-- those before it
abbrev pub all_but_last : Child → Children → Children
all_but_last x nothing = nothing
all_but_last x (before y ys) = before x (all_but_last y ys)

-- A tree whose last child, if it is a text, stands in the block before it.
abbrev pub text_in_block : Children → Children
text_in_block nothing = nothing
text_in_block (before x xs) = then_child (all_but_last x xs) (last_child x xs)
