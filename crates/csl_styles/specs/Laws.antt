-- Laws of what texts mean and why they are refused. Texts are characters.
use Rattle.std.specs.Prelude.{◌≡◌, ℕ, List, true, codes, if◌then◌else◌}
use Rattle.xml_tree.specs.Trees.{Element, Tagged, Content, Last, Next}
use Rattle.xml_schema.specs.Faults.{name_of}
use Rattle.csl_words.specs.Elements.{is_called}
use Rattle.csl_styles.specs.Files.{Csl, meaning}
use Rattle.csl_styles.specs.Information.{categories_of, parent_of}
use Rattle.csl_styles.specs.Reading.{Refusal, Means, IsRefused}

-- a text means one file
abbrev pub EachTextMeansOneFile : Type 0
EachTextMeansOneFile = (t : List ℕ) (c d : Csl) → Means t c → Means t d → c ≡ d

-- a text is refused in one way
abbrev pub EachTextIsRefusedInOneWay : Type 0
EachTextIsRefusedInOneWay = (t : List ℕ) (q r : Refusal) → IsRefused t q → IsRefused t r → q ≡ r

-- a text that means something is not refused
abbrev pub NoTextIsBoth : Type 0
NoTextIsBoth = (t : List ℕ) (c : Csl) (r : Refusal) → Means t c → IsRefused t r → ⊥

-- elements, with this one in place of each `info`
abbrev pub with_info : Element → Content → Content
with_info info (Last t) = Last t
with_info info (Next t e c) = Next t (if is_called (codes "info") (name_of e) then info else e) (with_info info c)

-- a file whose `info` is this one
abbrev pub informed : Element → Element → Element
informed info (Tagged left name attributes content) = Tagged left name attributes (with_info info content)

-- Of its `info` a file means the categories and the parent alone: with another one that says the same of these it means the same.
abbrev pub InfoSaysCategoriesAndParent : Type 0
InfoSaysCategoriesAndParent =
    (info root : Element) → is_called (codes "info") (name_of info) ≡ true → categories_of (informed info root) ≡ categories_of root → parent_of (informed info root) ≡ parent_of root
    → meaning (informed info root) ≡ meaning root
