-- Which trees are in normal form, which lists of tokens are properly nested, and what holds of both.
use Rattle.std.specs.Prelude.{◌≡◌, Bool, true, false, not, ◌&&◌, List, [], ◌∷◌, Option, None}
use Rattle.rendering_taxonomy.specs.Formats.{looks_like}
use Rattle.rendering_tree.specs.Tokens.{Token, opening, closing, mark, unmark}
use Rattle.rendering_tree.specs.Trees.{Child, Children, Text, Elem, Markup, Link, Transparent, nothing, before, flat, simplified, tree_of}
use Rattle.rendering_tree.specs.Metas.{Meta}
use Rattle.rendering_taxonomy.specs.declared.formatting.Display.{Display}
use Rattle.rendering_taxonomy.specs.declared.formatting.Formatting.{Formatting}

-- whether an element says anything of itself
abbrev pub says_something : Option Display → Option Meta → Bool
says_something None None = false
says_something d m = true

-- whether the first of a list is a text that looks so
abbrev pub begins_alike : Formatting → Children → Bool
begins_alike f (before (Text g cs) xs) = looks_like f g
begins_alike f xs = false

-- whether a child is a text that would join the one after it
abbrev pub joins : Child → Children → Bool
joins (Text f cs) xs = begins_alike f xs
joins x xs = false

abbrev mutual
  -- whether there are no empty texts, no elements that say nothing, and no two texts that look alike beside each other
  pub is_normal_child : Child → Bool
  is_normal_child (Text f []) = false
  is_normal_child (Text f (c ∷ cs)) = true
  is_normal_child (Elem d m xs) = says_something d m && is_normal xs
  is_normal_child (Markup cs) = true
  is_normal_child (Link f cs url) = true
  is_normal_child (Transparent f n) = true

  -- whether children are in their normal form
  pub is_normal : Children → Bool
  is_normal nothing = true
  is_normal (before x xs) = is_normal_child x && not (joins x xs) && is_normal xs

-- What is open, the innermost first: a mark or an element. Lists are read from the end on, so an end opens.
pub data Bracket : Type 0 where
  of_mark : Bracket
  of_element : Bracket

-- whether a mark is innermost in what is open, and the others go on well
abbrev pub closes_mark : List Bracket → (List Bracket → Bool) → Bool
closes_mark (of_mark ∷ bs) others = others bs
closes_mark bs others = false

-- whether an element is innermost in what is open, and the others go on well
abbrev pub closes_element : List Bracket → (List Bracket → Bool) → Bool
closes_element (of_element ∷ bs) others = others bs
closes_element bs others = false

-- whether the tokens that are left to read are properly nested in what is open; an element says something of itself
abbrev pub are_nested : List Token → List Bracket → Bool
are_nested [] [] = true
are_nested [] (b ∷ bs) = false
are_nested (closing ∷ ts) bs = are_nested ts (of_element ∷ bs)
are_nested (unmark ∷ ts) bs = are_nested ts (of_mark ∷ bs)
are_nested (opening d m ∷ ts) bs = says_something d m && closes_element bs (are_nested ts)
are_nested (mark ∷ ts) bs = closes_mark bs (are_nested ts)
are_nested (t ∷ ts) bs = are_nested ts bs

-- what is properly nested
abbrev pub is_nested : List Token → Bool
is_nested ts = are_nested ts []

-- simplifying keeps the characters with their looks, the formulas, links and locators of the caller's own, and the elements that
-- say something
abbrev pub SimplifyingKeepsTokens : Type 0
SimplifyingKeepsTokens = (xs : Children) → flat (simplified xs) ≡ flat xs

-- a simplified tree is in the normal form
abbrev pub SimplifiedIsNormal : Type 0
SimplifiedIsNormal = (xs : Children) → is_normal (simplified xs) ≡ true

-- The tree of what is properly nested is in the normal form.
abbrev pub TreeOfNestedIsNormal : Type 0
TreeOfNestedIsNormal = (ts : List Token) → is_nested ts ≡ true → is_normal (tree_of ts) ≡ true

-- trees in normal form with the same tokens are equal
abbrev pub NormalTreesAreOne : Type 0
NormalTreesAreOne = (xs ys : Children) → is_normal xs ≡ true → is_normal ys ≡ true → flat xs ≡ flat ys → xs ≡ ys
