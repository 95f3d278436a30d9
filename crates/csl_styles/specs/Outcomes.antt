-- What functions of this crate return, against what trees mean and why they are refused. Memory may run out at any time, which is no refusal.
use Rattle.std.specs.Prelude.{◌≡◌, ℕ, List, [], Option, Some, None, Result, Ok, Err, IfSome}
use Rattle.xml_tree.specs.Trees as trees
use Rattle.xml_tree.specs.Grammar.{Spells}
use Rattle.xml_tree.specs.Views.{element_view}
use Rattle.xml_tree.specs.declared.error.TreeError.{TreeError}
use Rattle.xml_tree.specs.declared.error.TreeError.TheVariants as tree_errors
use Rattle.xml_tree.specs.declared.tree.Element.{Element}
use Rattle.rendering_style.specs.Opening as styles
use Rattle.rendering_style.specs.Opening.{IsAnswer}
use Rattle.rendering_style.specs.Styles as styled
use Rattle.rendering_style.specs.StyleViews.{style_view}
use Rattle.rendering_style.specs.declared.style.Style.{Style}
use Rattle.csl_styles.specs.Faults.{faults}
use Rattle.csl_styles.specs.Files as files
use Rattle.csl_styles.specs.Files.{Independent, meaning}
use Rattle.csl_styles.specs.Reading.{Refusal, OfText, OfTree, OfStyle, blamed, IsAnswered, IsFirstFault, IsRefused}
use Rattle.csl_styles.specs.Views.{csl_view, refusal_of}
use Rattle.csl_styles.specs.declared.error.CslError.{CslError}
use Rattle.csl_styles.specs.declared.error.CslError.TheVariants as errors
use Rattle.csl_styles.specs.declared.file.Csl.{Csl}

-- why a text gives no tree
abbrev pub text_error : TreeError → CslError
text_error tree_errors.Memory = errors.Memory
text_error (tree_errors.Fault fault left) = errors.Text fault left

-- the refusal of a style is that refusal, at the place of what it blames
abbrev pub IsPlaced : trees.Element → Option styles.Refusal → Option Refusal → Type 0
IsPlaced x r placed = IfSome placed (λ (q : Refusal). (s : styles.Refusal) × (r ≡ Some s) × (q ≡ OfStyle s (blamed s x)))

-- what a file of that root would be is refused by its style
abbrev pub IsStyleRefused : trees.Element → files.Csl → Refusal → Type 0
IsStyleRefused x m (OfText r) = ⊥
IsStyleRefused x m (OfTree f) = ⊥
IsStyleRefused x m (OfStyle r left) = IsAnswered m (Some r) × (left ≡ blamed r x)

-- a style of these parts, or its refusal
abbrev pub IsBuilt : trees.Element → styled.Style → Result Style CslError → Type 0
IsBuilt x parts (Ok s) = (style_view s ≡ parts) × IsAnswer parts None
IsBuilt x parts (Err e) = IfSome (refusal_of e) (IsStyleRefused x (Independent [] parts))

-- what a file of that root is, or its refusal
abbrev pub IsReadAs : trees.Element → files.Csl → Result Csl CslError → Type 0
IsReadAs x m (Ok c) = (csl_view c ≡ m) × IsAnswered m None
IsReadAs x m (Err e) = IfSome (refusal_of e) (IsStyleRefused x m)

-- why the tree of a text is refused
abbrev pub IsTreeRefused : List ℕ → trees.Element → Refusal → Type 0
IsTreeRefused t x (OfText r) = ⊥
IsTreeRefused t x (OfTree f) = IsFirstFault t x f
IsTreeRefused t x (OfStyle r left) = (faults x ≡ []) × IsAnswered (meaning x) (Some r) × (left ≡ blamed r x)

-- what the tree of a text means, or why it is refused
abbrev pub IsChecked : List ℕ → trees.Element → Result Csl CslError → Type 0
IsChecked t x (Ok c) = (faults x ≡ []) × (csl_view c ≡ meaning x) × IsAnswered (meaning x) None
IsChecked t x (Err e) = IfSome (refusal_of e) (IsTreeRefused t x)

-- the tree of a text, which has no fault, or why the text is refused
abbrev pub IsSound : List ℕ → Result Element CslError → Type 0
IsSound t (Ok x) = Spells (element_view x) t × (faults (element_view x) ≡ [])
IsSound t (Err e) = IfSome (refusal_of e) (IsRefused t)
