-- What names print and whom they name, in one text.
use Rattle.std.specs.Prelude.{ℕ, Bool, List, [], ◌∷◌, ◌++◌, if◌then◌else◌, Option, Some}
use Rattle.std.specs.List.{flat_map}
use Rattle.laws.specs.Characters.{dollar_sign}
use Rattle.laws.specs.Text.{text}
use Rattle.rendering_tree.specs.Metas.{Answered, Meta, Names}
use Rattle.rendering_tree.specs.Trees.{Child, Children, Element, Text, Elem, Markup, Link, Transparent, nothing, before}
use Rattle.driver_blocks.specs.Blocks.{names_text}
use Rattle.driver_blocks.specs.Shown.{name_text}

-- the names of the people of variables
abbrev pub names_in : List Answered → List ℕ
names_in answered = flat_map (λ a. flat_map name_text a.0) answered

-- the names of all people that an element stands for
abbrev pub people_text : Option Meta → List ℕ
people_text (Some (Names answered)) = names_in answered
people_text m = []

abbrev mutual
  -- what a child prints, with the people that it names before it
  pub child_key : Child → List ℕ
  child_key (Text f cs) = cs
  child_key (Elem d m xs) = people_text m ++ children_key xs
  child_key (Markup cs) = dollar_sign ∷ cs ++ dollar_sign ∷ []
  child_key (Link f cs url) = cs ++ url
  child_key (Transparent f n) = []

  -- what children print one after the other, each with the people that it names before it
  pub children_key : Children → List ℕ
  children_key nothing = []
  children_key (before x xs) = child_key x ++ children_key xs

-- the key of a names element, as characters
abbrev pub element_key : Element → List ℕ
element_key e = people_text e.meta ++ children_key e.children

-- the key of names, as a text: what they print and whom they name, or, where cites are gathered by the text, what they print of whom
abbrev pub names_key : Bool → Element → List ℕ
names_key by_text e = if by_text then names_text e else text (element_key e)
