-- What a whole file means: a dependent style, a style or a locale. The words of terms that no list has are those of the file itself.
use Rattle.std.specs.Prelude.{ℕ, Bool, List, codes, if◌then◌else◌, Option, Some, None}
use Rattle.xml_tree.specs.Trees.{Element}
use Rattle.xml_schema.specs.Faults.{name_of}
use Rattle.rendering_locale.specs.Locales.{Locale}
use Rattle.rendering_style.specs.Styles.{Style}
use Rattle.csl_words.specs.Elements.{is_called}
use Rattle.csl_locales.specs.Locales.{locale}
use Rattle.csl_locales.specs.Words.{unlisted_words}
use Rattle.csl_styles.specs.Information.{parent_of}
use Rattle.csl_styles.specs.Styles.{default_locale, style}

-- The name of the parent of a dependent style, and its default locale, both in bytes; or a style, or a locale, with the words of terms that no
-- list has.
pub data Csl : Type 0 where
  Dependent : List ℕ → Option (List ℕ) → Csl
  Independent : List (List ℕ) → Style → Csl
  Localized : List (List ℕ) → Locale → Csl

-- a locale
abbrev pub localized : Element → Csl
localized root = Localized (unlisted_words root) (locale (unlisted_words root) root)

-- a style by its parent, if it has one
abbrev pub style_by : Option (List ℕ) → Element → Csl
style_by (Some parent) root = Dependent parent (default_locale root)
style_by None root = Independent (unlisted_words root) (style (unlisted_words root) root)

-- what a file means, by its root
abbrev pub meaning : Element → Csl
meaning root = if is_called (codes "locale") (name_of root) then localized root else style_by (parent_of root) root
