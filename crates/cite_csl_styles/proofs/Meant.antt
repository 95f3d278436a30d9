-- The style that a root means.
use Rattle.std.proofs.Common.{◌≡◌, ℕ, Bool, true, false, cond, List, Option, Some, None, sym, ap, ◌∙◌, codes}
use Rattle.xml_tree.specs.Trees.{Element}
use Rattle.xml_schema.specs.Faults.{name_of}
use Rattle.rendering_style.specs.Styles.{Style}
use Rattle.csl_words.specs.Elements.{is_called}
use Rattle.csl_styles.specs.Files.{Independent, localized, meaning, style_by}
use Rattle.csl_styles.specs.Information.{parent_of}
use Rattle.csl_styles.specs.Styles.{style}

-- where it means one with these words, that is the one by these words
pub style_meant : (root : Element) (words : List (List ℕ)) (s : Style) → Independent words s ≡ meaning root → style words root ≡ s
style_meant root words s is = by_kind (is_called (codes "locale") (name_of root)) (parent_of root) is
  where
    same_words : {v : List (List ℕ)} {t : Style} → Independent words s ≡ Independent v t → words ≡ v
    same_words e = cc

    same_style : {v : List (List ℕ)} {t : Style} → Independent words s ≡ Independent v t → s ≡ t
    same_style e = cc

    by_kind : (b : Bool) (p : Option (List ℕ)) → Independent words s ≡ cond b (localized root) (style_by p root) → style words root ≡ s
    by_kind true p e = absurd cc
    by_kind false (Some parent) e = absurd cc
    by_kind false None e = ap (λ v. style v root) (same_words e) ∙ sym (same_style e)
