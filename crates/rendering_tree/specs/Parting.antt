-- What is taken out of a tree, and what is left.
use Rattle.std.specs.Prelude.{Bool, true, false, Option, Some, None}
use Rattle.std.specs.Option.{option_map, option_map_or}
use Rattle.rendering_tree.specs.Trees.{Child, Children, Elem, Element, Parted}

-- whether a child is an element that stands for something
abbrev pub has_meta : Child → Bool
has_meta (Elem d (Some m) xs) = true
has_meta x = false

-- a child that is an element, by itself
abbrev pub element_of : Child → Option Element
element_of (Elem d m xs) = Some (record { display = d; meta = m; children = xs })
element_of x = None

-- the element that is taken out, where there is one
abbrev pub taken : Parted → Option Element
taken p = option_map (λ q. q.0) p

-- what is left, and all where nothing is taken out
abbrev pub left : Parted → Children → Children
left p xs = option_map_or (λ q. q.1) p xs

-- an element with other children
abbrev pub with_children : Children → Element → Element
with_children xs e = record e { children = xs }
