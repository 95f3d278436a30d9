-- What is said of what a style asks for and is not carried out, and of the terms that it prints and no locale has.
use Rattle.std.specs.Prelude.{ℕ, ◌-◌, List, ◌++◌, Option, length, flat_map, codes}
use Rattle.rendering_locale.specs.Locales.{Locale}
use Rattle.rendering_locale.specs.Lookup.{asked, language}
use Rattle.rendering_style.specs.Styles.{Style}
use Rattle.fault_lines.specs.Messages.{fault_line}
use Rattle.csl_features.specs.Features.{Feature}
use Rattle.csl_features.specs.Missing.{missing_terms}
use Rattle.cite_csl_styles.specs.Sheets.{Sheet, features_in}
use Rattle.cite_csl_styles.specs.Sources.{SourceFile}
use Rattle.cite_csl_styles.specs.Stages.{Lines}

-- a line for what an element of a file asks for: these words, and its name
abbrev pub line_for : SourceFile → List ℕ → Feature → Lines
line_for f words x = fault_line f.path f.bytes (length f.bytes - x.left) (words ++ x.name)

abbrev pub lines_for : SourceFile → List ℕ → List Feature → Lines
lines_for f words xs = flat_map (line_for f words) xs

abbrev pub feature_lines : Sheet → Lines
feature_lines s = lines_for s.file (codes "not carried out: ") (features_in s)

-- the locales that a style asks in a language, or else in its own: its own and those of files
abbrev pub asked_by : Style → Option (List ℕ) → List Locale → List Locale
asked_by s lang files = asked (language lang s.default_locale) s.locales files

-- a line for each term that it prints and none of them has
abbrev pub term_lines : Sheet → Option (List ℕ) → List Locale → Lines
term_lines s lang files =
    lines_for s.file (codes "no locale that is asked has the term ")
    (missing_terms s.words (asked_by s.style lang files) s.root)
