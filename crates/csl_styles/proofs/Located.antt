-- Elements that ask for the locator, and those that do not.
use Rattle.std.proofs.Common.{◌≡◌, Bool, false, cond, ◌||◌, sym, ◌∙◌}
use Rattle.xml_tree.specs.Trees.{Element, Tagged}
use Rattle.xml_schema.specs.Faults.{name_of}
use Rattle.csl_words.specs.Elements.{content_in}
use Rattle.csl_locales.specs.Words.{is_passed}
use Rattle.csl_styles.specs.Locators.{is_of_locator, asks_locator, asked_in}

-- one that does not by itself does if one in it does
pub asked_inside : (x : Element) (b : Bool) → is_passed (name_of x) ≡ false → is_of_locator x ≡ false → b ≡ asked_in (content_in x) → b ≡ asks_locator x
asked_inside (Tagged left n attributes content) b looked other e = e ∙ sym (λ j. cond (looked j) false (other j || asked_in content))
