-- The text in which a tree ends, and the one with which it begins.
use Rattle.std.specs.Prelude.{ℕ, List, [], if◌then◌else◌}
use Rattle.rendering_tree.specs.Trees.{Child, Children, Text, Elem, Markup, Link, Transparent, nothing, before, is_nothing}

abbrev mutual
  -- the text in which a child ends: its last child's, and so on inwards; none where that is no text
  pub end_of_child : Child → List ℕ
  end_of_child (Text f cs) = cs
  end_of_child (Elem d m xs) = end_of xs
  end_of_child (Markup cs) = []
  end_of_child (Link f cs url) = []
  end_of_child (Transparent f n) = []

  -- the text in which a list ends
  pub end_of : Children → List ℕ
  end_of nothing = []
  end_of (before x xs) = if is_nothing xs then end_of_child x else end_of xs

abbrev mutual
  -- the text with which a child begins: its first child's, and so on inwards; none where that is no text
  pub start_of_child : Child → List ℕ
  start_of_child (Text f cs) = cs
  start_of_child (Elem d m xs) = start_of xs
  start_of_child (Markup cs) = []
  start_of_child (Link f cs url) = []
  start_of_child (Transparent f n) = []

  -- the text with which a list begins
  pub start_of : Children → List ℕ
  start_of nothing = []
  start_of (before x xs) = start_of_child x

abbrev mutual
  -- a child that ends in another text
  pub ended_child : List ℕ → Child → Child
  ended_child end (Text f cs) = Text f end
  ended_child end (Elem d m xs) = Elem d m (ended end xs)
  ended_child end (Markup cs) = Markup cs
  ended_child end (Link f cs url) = Link f cs url
  ended_child end (Transparent f n) = Transparent f n

  -- a list that ends in another text
  pub ended : List ℕ → Children → Children
  ended end nothing = nothing
  ended end (before x xs) = if is_nothing xs then before (ended_child end x) nothing else before x (ended end xs)
