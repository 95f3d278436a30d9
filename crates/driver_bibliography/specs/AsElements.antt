-- What stands for names that are compared as elements.
use Rattle.std.specs.Prelude.{◌≡◌, false, List}
use Rattle.std.specs.Cmp.Lexicographic.{pointwise}
use Rattle.rendering_tree.specs.Same.{is_element}
use Rattle.rendering_tree.specs.Trees.{Element}
use Rattle.rendering_taxonomy.specs.declared.style.SubsequentAuthorSubstituteRule.TheVariants as rules
use Rattle.driver_bibliography.specs.Substitution.{all_if, is_same_name, repeated_by}

-- Where the text does not stand for names alone, single names are the same where their elements are.
abbrev pub NamesAreElements : Type 0
NamesAreElements = (n m : Element) → is_same_name false n m ≡ is_element n m

-- The text then stands for the whole names element, with its labels and affixes.
abbrev pub AllIsReplaced : Type 0
AllIsReplaced = (names last : List Element) → repeated_by false rules.CompleteAll names last ≡ all_if (pointwise is_element names last)
