-- How trees are written: as a list of tags and texts, properly nested.
use Rattle.std.specs.Prelude.{ℕ, List, [], ◌∷◌, ◌++◌}
use Rattle.std.specs.List.{flat_map}
use Rattle.rendering_output.specs.Writing.{Tag, words, spanned, divided, linked, plain_tag, html_tag, AreNested}
use Rattle.rendering_tree.specs.Trees.{Child, Children, Element, Text, Elem, Markup, Link, Transparent, nothing, before}

abbrev mutual
  -- the tags and texts of a child
  pub tags_in : Child → List Tag
  tags_in (Text f cs) = spanned f cs
  tags_in (Elem d m xs) = divided d (tags xs)
  tags_in (Markup cs) = words cs ∷ []
  tags_in (Link f cs url) = linked f cs url
  tags_in (Transparent f n) = []

  -- the tags and texts of children, one after the other
  pub tags : Children → List Tag
  tags nothing = []
  tags (before x xs) = tags_in x ++ tags xs

-- children in plain text
abbrev pub plain_text : Children → List ℕ
plain_text xs = flat_map plain_tag (tags xs)

-- a child in plain text
abbrev pub plain_child_text : Child → List ℕ
plain_child_text x = flat_map plain_tag (tags_in x)

-- an element in plain text
abbrev pub plain_element_text : Element → List ℕ
plain_element_text e = flat_map plain_tag (divided e.display (tags e.children))

-- children in HTML
abbrev pub html_text : Children → List ℕ
html_text xs = flat_map html_tag (tags xs)

-- the tags of a tree are properly nested
abbrev pub TagsAreNested : Type 0
TagsAreNested = (xs : Children) → AreNested (tags xs) []
