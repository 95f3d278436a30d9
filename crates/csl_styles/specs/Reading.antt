-- Which texts mean what, and why a text is refused. Texts are characters.
use Rattle.std.specs.Prelude.{◌≡◌, ℕ, List, [], codes, Option, Some, None, Err}
use Rattle.std.specs.List.{find}
use Rattle.std.specs.Option.{option_map_or}
use Rattle.std.specs.Str.{bytes_eq}
use Rattle.xml_tree.specs.Trees.{Element}
use Rattle.xml_tree.specs.Values as trees
use Rattle.xml_tree.specs.Grammar.{Spells}
use Rattle.xml_tree.specs.Building.{tree_of}
use Rattle.xml_schema.specs.Faults.{left_at, first_of}
use Rattle.rendering_style.specs.Opening as styles
use Rattle.rendering_style.specs.Opening.{macro_ring, too_deep, IsAnswer}
use Rattle.csl_locales.specs.Called.{called}
use Rattle.csl_styles.specs.Files.{Csl, Dependent, Independent, Localized, meaning}
use Rattle.csl_styles.specs.Faults.{Fault, macro_name, faults, placed_in}

-- Why a text is refused: it spells no tree; its tree has this fault first, at its place; its style is refused, by that macro or as a whole, whose start-tag
-- begins where so much of the text is left.
pub data Refusal : Type 0 where
  OfText : trees.Refusal → Refusal
  OfTree : Fault → Refusal
  OfStyle : styles.Refusal → ℕ → Refusal

-- what is blamed for the refusal of a style: the first macro of that name, or the style itself
abbrev pub blamed : styles.Refusal → Element → ℕ
blamed (macro_ring name) root = option_map_or left_at (find (λ (m : Element). bytes_eq (macro_name m) name) (called (codes "macro") root)) (left_at root)
blamed too_deep root = left_at root

-- what is answered to the style of a file, if it has one
abbrev pub IsAnswered : Csl → Option styles.Refusal → Type 0
IsAnswered (Dependent parent default) r = r ≡ None
IsAnswered (Independent words s) r = IsAnswer s r
IsAnswered (Localized words l) r = r ≡ None

-- A text means a file by its tree: it spells that, which has no fault and means the file, and no style is refused.
abbrev pub MeansBy : List ℕ → Element → Csl → Type 0
MeansBy t x c = Spells x t × (faults x ≡ []) × (meaning x ≡ c) × IsAnswered c None

-- the same by some tree
abbrev pub Means : List ℕ → Csl → Type 0
Means t c = (x : Element) × MeansBy t x c

-- a tree of a text has that fault first, at its place in the text
abbrev pub IsFirstFault : List ℕ → Element → Fault → Type 0
IsFirstFault t x f = (first : Fault) × (first_of (faults x) ≡ Some first) × (f ≡ placed_in t first)

-- A text is refused: it spells no tree, by that first fault of XML; or the tree that it spells has that fault first, at its place; or it has none, and its
-- style is refused.
abbrev pub IsRefused : List ℕ → Refusal → Type 0
IsRefused t (OfText r) = tree_of t ≡ Err r
IsRefused t (OfTree f) = (x : Element) × Spells x t × IsFirstFault t x f
IsRefused t (OfStyle r left) = (x : Element) × Spells x t × (faults x ≡ []) × IsAnswered (meaning x) (Some r) × (left ≡ blamed r x)
