-- Trees that say the same: the same elements in the same order, which may begin at other places of a text and whose attributes may stand in
-- another order. A test of elements tells where the text in them counts; elsewhere it counts alone whether it is more than white space.
use Rattle.std.specs.Prelude.{◌≡◌, ◌↔◌, ◌⊎◌, ℕ, Bool, true, false, List, [], ◌∷◌, None}
use Rattle.xml_text.specs.Tokens.{At}
use Rattle.xml_tree.specs.Trees.{Attribute, Element, Tagged, Content, Last, Next}
use Rattle.xml_tree.specs.Names.{repeated}
use Rattle.xml_schema.specs.Values.{has_words}

-- an attribute is one of these, wherever it stands
abbrev pub IsOneOf : List (At Attribute) → Attribute → Type 0
IsOneOf [] a = ⊥
IsOneOf (b ∷ bs) a = (b.v ≡ a) ⊎ IsOneOf bs a

-- no two have one expanded name
abbrev pub AreDistinct : List (At Attribute) → Type 0
AreDistinct ps = repeated (λ n. false) ps ≡ None

-- the same attributes in any order, no two of one name
abbrev pub AreSameAttributes : List (At Attribute) → List (At Attribute) → Type 0
AreSameAttributes ps bs = AreDistinct ps × AreDistinct bs × ((a : Attribute) → IsOneOf ps a ↔ IsOneOf bs a)

-- one text, where it counts; elsewhere two that are white space, or two that are not
abbrev pub AreSameTexts : Bool → List ℕ → List ℕ → Type 0
AreSameTexts true t u = t ≡ u
AreSameTexts false t u = has_words t ≡ has_words u

abbrev mutual
  -- elements that say the same
  pub AreAlike : (Element → Bool) → Element → Element → Type 0
  AreAlike counts (Tagged left n ps c) (Tagged right m bs d) = (n ≡ m) × AreSameAttributes ps bs × AreAlikeInside counts (counts (Tagged left n ps c)) c d

  -- contents that say the same, where the text in them counts or does not
  pub AreAlikeInside : (Element → Bool) → Bool → Content → Content → Type 0
  AreAlikeInside counts here (Last t) (Last u) = AreSameTexts here t u
  AreAlikeInside counts here (Last t) (Next u f d) = ⊥
  AreAlikeInside counts here (Next t e c) (Last u) = ⊥
  AreAlikeInside counts here (Next t e c) (Next u f d) = AreSameTexts here t u × AreAlike counts e f × AreAlikeInside counts here c d
