-- Which texts spell a tree: XML 1.0 without a document type declaration, with namespaces. Elements are spelled by tokens; each relation takes
-- tokens, what is spelled from the first of them on, and the tokens that follow. Characters are numbers.
use Rattle.std.specs.Prelude.{◌≡◌, ℕ, ◌+◌, ◌≤◌, max, true, false, List, [], ◌∷◌, ◌++◌, Ok, ◌⊎◌}
use Rattle.laws.specs.Runs.{AllPassTest}
use Rattle.xml_text.specs.Character.{is_space}
use Rattle.xml_text.specs.Tokens.{At, Name, Tag, Token, Start, End, Characters, Refers, Section, Nothing}
use Rattle.xml_text.specs.Grammar.{AreTokens}
use Rattle.xml_text.specs.Prolog.{IsProlog}
use Rattle.xml_text.specs.Values.{character_of}
use Rattle.xml_tree.specs.Trees.{Element, Tagged, Content, Last, Next}
use Rattle.xml_tree.specs.Scope.{Scope, unbound, over, same_name}
use Rattle.xml_tree.specs.Names.{Said, said}
use Rattle.xml_tree.specs.Values.{lines_of}
use Rattle.xml_tree.specs.Building.{most_open}

-- what a token inside an element gives to its text; tags give nothing there
abbrev pub IsTextOf : Token → List ℕ → Type 0
IsTextOf (Start tag) t = ⊥
IsTextOf (End name) t = ⊥
IsTextOf (Characters cs) t = t ≡ lines_of cs
IsTextOf (Refers r) t = (c : ℕ) × (character_of r ≡ Ok c) × (t ≡ c ∷ [])
IsTextOf (Section cs) t = t ≡ lines_of cs
IsTextOf Nothing t = t ≡ []

-- tokens that together give a text
abbrev pub AreTextOf : List (At Token) → List ℕ → Type 0
AreTextOf [] t = t ≡ []
AreTextOf (x ∷ xs) t = (a : List ℕ) × (b : List ℕ) × IsTextOf x.v a × AreTextOf xs b × (t ≡ a ++ b)

abbrev pub IsText : List (At Token) → List ℕ → List (At Token) → Type 0
IsText ts t rest = (run : List (At Token)) × (ts ≡ run ++ rest) × AreTextOf run t

abbrev mutual
  -- element: the tag of an empty one; or a start-tag, content, and an end-tag of the same name. What the names of the tag and of its attributes
  -- stand for goes by the declarations that hold around it and by its own.
  pub IsElement : Scope → List (At Token) → Element → List (At Token) → Type 0
  IsElement scope ts (Tagged left name attributes content) rest =
      (tag : Tag) × (x : Said) × (inside : List (At Token)) × (ts ≡ record { v = Start tag; left = left } ∷ inside) × (said scope left tag ≡ Ok x) × (name ≡ x.name)
      × (attributes ≡ x.attributes) × (((tag.empty ≡ true) × (content ≡ Last []) × (inside ≡ rest)) ⊎ ((tag.empty ≡ false) × ((at : ℕ) × (end : At Name)
      × IsContent (over x.own scope) inside content (record { v = End end; left = at } ∷ rest) × (same_name end.v tag.name ≡ true))))

  -- content: texts with elements between them
  pub IsContent : Scope → List (At Token) → Content → List (At Token) → Type 0
  IsContent scope ts (Last t) rest = IsText ts t rest
  IsContent scope ts (Next t e c) rest = (a : List (At Token)) × (b : List (At Token)) × IsText ts t a × IsElement scope a e b × IsContent scope b c rest

abbrev mutual
  -- how many elements are open at most
  pub depth : Element → ℕ
  depth (Tagged left name attributes content) = content_depth content + 1

  pub content_depth : Content → ℕ
  content_depth (Last t) = 0
  content_depth (Next t e c) = max (depth e) (content_depth c)

-- what may stand outside the root: white space, comments and processing instructions
abbrev pub IsOutside : Token → Type 0
IsOutside (Start tag) = ⊥
IsOutside (End name) = ⊥
IsOutside (Characters cs) = AllPassTest is_space cs
IsOutside (Refers r) = ⊥
IsOutside (Section cs) = ⊥
IsOutside Nothing = Unit {0}

abbrev pub AreOutside : List (At Token) → Type 0
AreOutside [] = Unit {0}
AreOutside (x ∷ xs) = IsOutside x.v × AreOutside xs

-- document, after its prolog's declaration: one root
abbrev pub IsDocument : List (At Token) → Element → Type 0
IsDocument ts e = (before : List (At Token)) × (root : List (At Token)) × (behind : List (At Token)) × (ts ≡ before ++ root) × AreOutside before × IsElement unbound root e behind × AreOutside behind

-- a tree and a text that spells it
abbrev pub Spells : Element → List ℕ → Type 0
Spells e cs = (body : List ℕ) × (ts : List (At Token)) × IsProlog cs body × AreTokens body ts [] × IsDocument ts e × (depth e ≤ most_open)
