-- What the code has and returns, without where it lies in memory.
use Rattle.std.specs.Prelude.{Option, Some, None, string_bytes}
use Rattle.std.specs.Option.{option_map}
use Rattle.xml_schema.specs.Views as schema
use Rattle.rendering_locale.specs.CodeViews.{code_view}
use Rattle.rendering_locale.specs.Views.{locale_view}
use Rattle.rendering_style.specs.Opening.{macro_ring, too_deep}
use Rattle.rendering_style.specs.StyleViews.{style_view}
use Rattle.csl_nodes.specs.Views.{words_view}
use Rattle.csl_styles.specs.Faults as faults
use Rattle.csl_styles.specs.Faults.{BySchema, NoCitation, SecondMacro, UnknownMacro}
use Rattle.csl_styles.specs.Files as files
use Rattle.csl_styles.specs.Files.{Dependent, Independent, Localized}
use Rattle.csl_styles.specs.Reading.{Refusal, OfText, OfTree, OfStyle}
use Rattle.csl_styles.specs.declared.fault.Fault.{Fault}
use Rattle.csl_styles.specs.declared.fault.Wrong.{Wrong}
use Rattle.csl_styles.specs.declared.fault.Wrong.TheVariants as wrongs
use Rattle.csl_styles.specs.declared.file.Csl.{Csl}
use Rattle.csl_styles.specs.declared.file.Csl.TheVariants as kinds
use Rattle.csl_styles.specs.declared.error.CslError.{CslError}
use Rattle.csl_styles.specs.declared.error.CslError.TheVariants as errors

abbrev pub wrong_view : Wrong → faults.Wrong
wrong_view (wrongs.Schema wrong) = BySchema (schema.wrong_view wrong)
wrong_view wrongs.NoCitation = NoCitation
wrong_view wrongs.SecondMacro = SecondMacro
wrong_view wrongs.UnknownMacro = UnknownMacro

abbrev pub fault_view : Fault → faults.Fault
fault_view f = record { left = f.left; wrong = wrong_view f.wrong }

abbrev pub csl_view : Csl → files.Csl
csl_view (kinds.Dependent parent default_locale) = Dependent (string_bytes parent) (option_map code_view default_locale)
csl_view (kinds.Independent words style) = Independent (words_view words) (style_view style)
csl_view (kinds.Localized words locale) = Localized (words_view words) (locale_view locale)

-- why a text is refused, if it is
abbrev pub refusal_of : CslError → Option Refusal
refusal_of errors.Memory = None
refusal_of (errors.Text fault left) = Some (OfText (fault, left))
refusal_of (errors.Tree fault) = Some (OfTree (fault_view fault))
refusal_of (errors.Ring name left) = Some (OfStyle (macro_ring (string_bytes name)) left)
refusal_of (errors.TooDeep left) = Some (OfStyle too_deep left)
