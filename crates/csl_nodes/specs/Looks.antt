-- How elements look.
use Rattle.std.specs.Prelude.{ℕ, List, Option, unwrap_or, codes}
use Rattle.xml_tree.specs.Trees.{Element}
use Rattle.rendering_taxonomy.specs.Formats.{Changes}
use Rattle.rendering_taxonomy.specs.declared.number.LabelPluralize.TheVariants as plurals
use Rattle.rendering_taxonomy.specs.declared.term.TermForm.{TermForm}
use Rattle.rendering_taxonomy.specs.declared.term.TermForm.TheVariants as forms
use Rattle.rendering_taxonomy.specs.declared.text_case.TextCase.{TextCase}
use Rattle.rendering_style.specs.Nodes.{Look, TextLook, LabelLook}
use Rattle.csl_words.specs.Looking.{table, value_by, is_true}
use Rattle.csl_words.specs.Printing.{printed_text}
use Rattle.csl_words.specs.declared.options.TheConstants.{ALIGNMENTS, DECORATIONS, DISPLAYS, FONT_STYLES, FONT_VARIANTS, FONT_WEIGHTS, PLURALS, TEXT_CASES}
use Rattle.csl_words.specs.declared.terms.TheConstants.{TERM_FORMS}

-- what an element says of the look of characters
abbrev pub formatting : Element → Changes
formatting e = record {
  font_style = value_by (table FONT_STYLES.now) (codes "font-style") e;
  font_variant = value_by (table FONT_VARIANTS.now) (codes "font-variant") e;
  font_weight = value_by (table FONT_WEIGHTS.now) (codes "font-weight") e;
  text_decoration = value_by (table DECORATIONS.now) (codes "text-decoration") e;
  vertical_align = value_by (table ALIGNMENTS.now) (codes "vertical-align") e;
}

-- the case of its letters
abbrev pub text_case : Element → Option TextCase
text_case e = value_by (table TEXT_CASES.now) (codes "text-case") e

-- the look of an element, with its affixes and where it stands
abbrev pub look : Element → Look
look e = record {
  formatting = formatting e;
  prefix = printed_text (codes "prefix") e;
  suffix = printed_text (codes "suffix") e;
  display = value_by (table DISPLAYS.now) (codes "display") e;
}

-- the look of a text
abbrev pub text_look : Element → TextLook
text_look e = record {
  look = look e;
  quotes = is_true (codes "quotes") e;
  strips_periods = is_true (codes "strip-periods") e;
  text_case = text_case e;
}

-- the form of a term, long where none is said
abbrev pub term_form : Element → TermForm
term_form e = unwrap_or (value_by (table TERM_FORMS.now) (codes "form") e) forms.Long

-- the look of a label, in the plural as its value is where nothing is said
abbrev pub label_look : Element → LabelLook
label_look e = record {
  form = term_form e;
  plural = unwrap_or (value_by (table PLURALS.now) (codes "plural") e) plurals.Contextual;
  strips_periods = is_true (codes "strip-periods") e;
  text_case = text_case e;
  look = look e;
}
