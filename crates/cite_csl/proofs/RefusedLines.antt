-- The lines for errors of a call that are refusals.
use Rattle.std.proofs.Common.{◌≡◌, ℕ, List, ◌++◌, Result, Err, String, string_bytes, refl, ap, ◌∙◌}
use Rattle.std.specs.Global.{Global}
use lib.Chars.{codes}
use Rattle.std.proofs.lemmas.Str.{IsUtf8-string_bytes}
use Rattle.laws.proofs.Text.{text_of_chars}
use Rattle.biblatex.specs.ParseError.TheVariants as parsing
use Rattle.literature.specs.Errors as selectors
use Rattle.literature.specs.Views.{fault}
use Rattle.literature.specs.declared.selector_error.SelectorError.{SelectorError}
use Rattle.literature.specs.declared.selector_error.SelectorError.TheVariants as kinds
use Rattle.cite_markers.specs.Document.{Piece}
use Rattle.cite_requests.specs.Answers.{IsRefusal, IsSectionRefusal}
use Rattle.cite_requests.specs.Refusals.{error_text, section_text}
use Rattle.cite_requests.specs.Stages.{Refusal}
use Rattle.cite_requests.specs.Works.{Works}
use Rattle.cite_requests.specs.declared.error.CiteError.{CiteError}
use Rattle.cite_requests.specs.declared.error.CiteError.TheVariants as errors
use Rattle.cite_requests.specs.declared.error.BibTextError.TheVariants as bib
use Rattle.cite_requests.specs.declared.error.DocumentTextError.TheVariants as document
use Rattle.cite_csl_styles.specs.Sources.{SourceFile, line}
use Rattle.cite_csl_styles.specs.Stages.{Lines}
use Rattle.cite_csl.specs.Names.{rendered_lines}
use Rattle.cite_csl.specs.Works.{said_by}

module _ {X : Type 0} (d : SourceFile) (works : Works) (ps : List Piece) (stage : Result X Refusal) where
  -- what is said of a stage
  abbrev said : Result X Refusal → Result X Lines
  said r = said_by (rendered_lines d works ps) r

  section_lines : (index : ℕ) (e : SelectorError) → IsSectionRefusal index (fault e) (λ a. stage ≡ a) → said stage ≡ Err (line (section_text index (selectors.error_text e)))
  section_lines index kinds.MissingValue is = ap said is
  section_lines index kinds.MalformedAttribute is = ap said is
  section_lines index kinds.MissingComma is = ap said is
  section_lines index kinds.UnbalancedParens is = ap said is
  section_lines index (kinds.UnknownEntryType name) is =
      ap said is ∙ ap (λ (n : List ℕ). Err (line (section_text index (codes "unknown entry type " ++ n)))) (text_of_chars (string_bytes name) (IsUtf8-string_bytes name))
  section_lines index kinds.TooDeep is = ap said is
  section_lines index kinds.Memory is = absurd is

  -- the line for an error that is no unknown name
  pub other_lines : (e : CiteError) → ((name : String Global) → e ≡ errors.Name name → ⊥) → (e ≡ errors.Memory → ⊥) → IsRefusal e (λ a. stage ≡ a) → said stage ≡ Err (line (error_text e))
  other_lines (errors.BibText bib.Utf8) named memory is = ap said is
  other_lines (errors.BibText (bib.Parse parsing.Memory)) named memory is = absurd is
  other_lines (errors.BibText (bib.Parse (parsing.Refused kind span))) named memory is = ap said is
  other_lines (errors.Fields faults) named memory is = ap said is
  other_lines (errors.Document document.Utf8) named memory is = ap said is
  other_lines (errors.Document (document.Marker offset)) named memory is = ap said is
  other_lines (errors.Name name) named memory is = absurd (named name refl)
  other_lines (errors.Selector index e) named memory is = section_lines index e is
  other_lines errors.Memory named memory is = absurd (memory refl)
  other_lines errors.Overflow named memory is = ap said is
  other_lines (errors.Write fault) named memory is = absurd is
