-- The locales of files, by what the files were found to be.
use Rattle.std.proofs.Common.{◌≡◌, ℕ, true, List, Result, Ok, Err, refl, sym, ap, ◌∙◌, codes}
use Rattle.xml_tree.specs.Trees.{Element}
use Rattle.xml_tree.specs.Views.{element_view}
use Rattle.xml_tree.specs.declared.tree.Element.{out-Element}
use Rattle.xml_schema.specs.Faults.{name_of}
use Rattle.rendering_locale.specs.Locales.{Locale}
use Rattle.rendering_locale.specs.Views.{locale_view}
use Rattle.rendering_locale.specs.declared.locale.Locale as code
use Rattle.csl_nodes.specs.declared.words.Words.{Words}
use Rattle.csl_words.specs.Elements.{is_called}
use Rattle.csl_locales.specs.Locales.{locale}
use Rattle.csl_styles.specs.Files as files
use Rattle.csl_styles.specs.Views.{csl_view}
use Rattle.csl_styles.specs.declared.file.Csl.{Csl}
use Rattle.csl_styles.specs.declared.file.Csl.TheVariants as kinds
use Rattle.csl_styles.proofs.Outcomes.{locale_meant}
use Rattle.cite_csl_styles.specs.Answers.{Answers, IsStop, IsRefusal, Returns}
use Rattle.cite_csl_styles.specs.Sheets as sheets
use Rattle.cite_csl_styles.specs.Sheets.{IsCslRead, IsLocale, IsRootOf, locale_in, root_lines}
use Rattle.cite_csl_styles.specs.Sources as sources
use Rattle.cite_csl_styles.specs.Sources.{lines_left}
use Rattle.cite_csl_styles.specs.Stages.{Gives, Lines}
use Rattle.cite_csl_styles.specs.Views.{found_view, source_view}
use Rattle.cite_csl_styles.specs.declared.sheets.Found.{Found}
use Rattle.cite_csl_styles.specs.declared.stop.Stop.{Stop}
use Rattle.cite_csl_styles.proofs.Founds.{root_refused}
use Rattle.cite_csl_styles.proofs.Staged.{then_goes_on}
use Rattle.cite_csl_styles.proofs.Stopped.{answers_weaker}

abbrev localized : Locale → Result Locale Lines
localized l = Ok l

-- a file that is a locale
pub locale_found : (words : List (List ℕ)) (file : sources.SourceFile) (found : Found) (own : Words) (read : code.Locale) (l : Locale) → IsCslRead file (Ok (found_view found)) → found.means ≡ kinds.Localized own read
    → l ≡ locale words (element_view found.root) → IsLocale words file (Ok l)
locale_found words file found own read l is means same =
    (Ok (found_view found), is, ap localized same ∙ sym (ap (λ (m : Csl). locale_in words (found_view found) (csl_view m)) means))

-- one that is a style
no_locale : (words : List (List ℕ)) (f : sheets.Found) (m : Csl) → ((own : Words) (l : code.Locale) → m ≡ kinds.Localized own l → ⊥) → locale_in words f (csl_view m) ≡ Err (root_lines f (codes "a style is no locale"))
no_locale words f (kinds.Dependent parent default) other = refl
no_locale words f (kinds.Independent own s) other = refl
no_locale words f (kinds.Localized own l) other = absurd (other own l refl)

pub style_refused : (words : List (List ℕ)) (file : sources.SourceFile) (found : Found) (e : Stop) → IsCslRead file (Ok (found_view found)) → ((own : Words) (l : code.Locale) → found.means ≡ kinds.Localized own l → ⊥)
    → IsRefusal e (lines_left (source_view found.file) (out-Element found.root).left (codes "a style is no locale")) → IsStop e (IsLocale words file)
style_refused words file found e is other said =
    root_refused found (codes "a style is no locale") e (IsLocale words file) said (Ok (found_view found), is, sym (no_locale words (found_view found) found.means other))

-- a root that is a locale
pub root_localized : (words : List (List ℕ)) (file : sources.SourceFile) (root : Element) (r : Result code.Locale Stop) → IsRootOf file (Ok root) → is_called (codes "locale") (name_of root) ≡ true
    → Returns locale_view r (Ok (locale words root)) → Answers locale_view r (IsLocale words file)
root_localized words file root r (is_text, spelled, sound) is made =
    let found : sheets.Found = record { file = file; root = root; means = files.localized root } in
    let read : IsCslRead file (Ok found) = (refl, record { is_text = is_text; spelled = spelled; sound = sound; meant = sym (locale_meant root is); answered = refl }) in
    then_goes_on locale_view r (IsCslRead file) (λ (f : sheets.Found). Gives (locale_in words f f.means)) found read
    (answers_weaker locale_view r (λ a. Ok (locale words root) ≡ a) (Gives (locale_in words found found.means)) (λ a so. sym so) made)
