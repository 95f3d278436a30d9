-- When trees are the same.
use Rattle.std.specs.Prelude.{◌≡◌, ℕ, Bool, true, false, ◌==◌, ◌&&◌}
use Rattle.std.specs.Bool.{Decides}
use Rattle.std.specs.Option.{option_eq}
use Rattle.std.specs.Str.{bytes_eq}
use Rattle.rendering_taxonomy.specs.Formats.{looks_like}
use Rattle.rendering_tree.specs.Metas.{is_meta}
use Rattle.rendering_tree.specs.Trees.{Child, Children, Text, Elem, Markup, Link, Transparent, nothing, before, Element}
use Rattle.rendering_taxonomy.specs.declared.formatting.Display.{Display}
use Rattle.rendering_taxonomy.specs.declared.formatting.Display.TheVariants as displays

-- the indices of displays in their list
abbrev pub display_index : Display → ℕ
display_index displays.Block = 0
display_index displays.LeftMargin = 1
display_index displays.RightInline = 2
display_index displays.Indent = 3

-- whether two displays are one
abbrev pub is_display : Display → Display → Bool
is_display d e = display_index d == display_index e

abbrev mutual
  -- whether two children are the same
  pub is_child : Child → Child → Bool
  is_child (Text f cs) (Text g ds) = looks_like f g && bytes_eq cs ds
  is_child (Elem d m xs) (Elem e n ys) = option_eq is_display d e && option_eq is_meta m n && are_children xs ys
  is_child (Markup cs) (Markup ds) = bytes_eq cs ds
  is_child (Link f cs url) (Link g ds other) = looks_like f g && bytes_eq cs ds && bytes_eq url other
  is_child (Transparent f n) (Transparent g k) = looks_like f g && n == k
  is_child x y = false

  -- whether two lists are
  pub are_children : Children → Children → Bool
  are_children nothing nothing = true
  are_children (before x xs) (before y ys) = is_child x y && are_children xs ys
  are_children xs ys = false

-- whether two elements are the same, with their displays, what they stand for and what they contain
abbrev pub is_element : Element → Element → Bool
is_element e f = option_eq is_display e.display f.display && option_eq is_meta e.meta f.meta && are_children e.children f.children

-- Two trees are the same exactly where they are equal.
abbrev pub SameTreesAreOne : Type 0
SameTreesAreOne = (xs ys : Children) → Decides (are_children xs ys) (xs ≡ ys)

-- Two elements are the same exactly where they are equal.
abbrev pub SameElementsAreOne : Type 0
SameElementsAreOne = (e f : Element) → Decides (is_element e f) (e ≡ f)
