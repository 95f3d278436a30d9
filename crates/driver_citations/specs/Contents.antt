-- Whether a tree has more than white space, child by child.
use Rattle.std.specs.Prelude.{ℕ, Bool, true, false, not, ◌||◌, List}
use Rattle.std.specs.List.{list_any}
use Rattle.std.specs.Char.{is_whitespace}
use Rattle.rendering_tree.specs.Trees.{Child, Children, Text, Elem, Markup, Link, Transparent, nothing, before}

-- whether a text is more than white space
abbrev pub is_visible : List ℕ → Bool
is_visible cs = list_any (λ c. not (is_whitespace c)) cs

abbrev mutual
  -- whether a child has more than white space
  pub child_has_content : Child → Bool
  child_has_content (Text f cs) = is_visible cs
  child_has_content (Elem d m xs) = children_have_content xs
  child_has_content (Markup cs) = true
  child_has_content (Link f cs url) = true
  child_has_content (Transparent f n) = true

  -- whether one of the children has more than white space
  pub children_have_content : Children → Bool
  children_have_content nothing = false
  children_have_content (before x xs) = child_has_content x || children_have_content xs
