-- Whether a style prints locators.
use Rattle.std.specs.Prelude.{Bool, false, ◌||◌, codes, if◌then◌else◌}
use Rattle.xml_tree.specs.Trees.{Element, Tagged, Content, Last, Next}
use Rattle.csl_words.specs.Looking.{says}
use Rattle.csl_locales.specs.Words.{is_passed}

-- an element asks for the locator and nothing else
abbrev pub is_of_locator : Element → Bool
is_of_locator e = says (codes "variable") (codes "locator") e

abbrev mutual
  -- an element, or one in it, asks for the locator
  pub asks_locator : Element → Bool
  asks_locator (Tagged left n attributes content) =
      if is_passed n
      then false
      else is_of_locator (Tagged left n attributes content) || asked_in content

  -- so does an element among these
  pub asked_in : Content → Bool
  asked_in (Last t) = false
  asked_in (Next t e c) = asks_locator e || asked_in c
