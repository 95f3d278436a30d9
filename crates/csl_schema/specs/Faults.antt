-- The faults of a style or of a locale. The rules of CSL are the constants that code has, in src/rules.rt.
use Rattle.std.specs.Prelude.{List, [], ◌∷◌, map}
use Rattle.xml_tree.specs.Trees.{Element}
use Rattle.xml_schema.specs.Constants.{placed_rule, placed_text, schema_of}
use Rattle.xml_schema.specs.Faults.{Fault, faults}
use Rattle.xml_schema.specs.Tables.{Rule, Schema}
use Rattle.csl_schema.specs.declared.rules.TheConstants.{SPACE, DOCUMENT_RULE, STYLE_RULE, CITATION_RULE, BIBLIOGRAPHY_RULE, LAYOUT_RULE, MACRO_RULE, SORT_RULE, KEY_RULE, TEXT_RULE, NUMBER_RULE, LABEL_RULE, LABEL_IN_NAMES_RULE, DATE_RULE, DATE_IN_LOCALE_RULE, DATE_PART_RULE, NAMES_RULE, NAME_RULE, NAME_PART_RULE, ET_AL_RULE, SUBSTITUTE_RULE, GROUP_RULE, CHOOSE_RULE, IF_RULE, ELSE_IF_RULE, ELSE_RULE, LOCALE_RULE, STYLE_OPTIONS_RULE, TERMS_RULE, TERM_RULE, SINGLE_RULE, MULTIPLE_RULE}

-- the rules of its elements
unfoldable pub csl_rules : List Rule
csl_rules = map placed_rule (STYLE_RULE ∷ CITATION_RULE ∷ BIBLIOGRAPHY_RULE ∷ LAYOUT_RULE ∷ MACRO_RULE ∷ SORT_RULE ∷ KEY_RULE ∷ TEXT_RULE ∷ NUMBER_RULE ∷ LABEL_RULE ∷ LABEL_IN_NAMES_RULE ∷ DATE_RULE ∷ DATE_IN_LOCALE_RULE ∷ DATE_PART_RULE ∷ NAMES_RULE ∷ NAME_RULE ∷ NAME_PART_RULE ∷ ET_AL_RULE ∷ SUBSTITUTE_RULE ∷ GROUP_RULE ∷ CHOOSE_RULE ∷ IF_RULE ∷ ELSE_IF_RULE ∷ ELSE_RULE ∷ LOCALE_RULE ∷ STYLE_OPTIONS_RULE ∷ TERMS_RULE ∷ TERM_RULE ∷ SINGLE_RULE ∷ MULTIPLE_RULE ∷ [])

-- the schema of CSL
unfoldable pub csl_schema : Schema
csl_schema = schema_of (placed_text SPACE) (placed_rule DOCUMENT_RULE) csl_rules

-- all faults by it
abbrev pub csl_faults : Element → List Fault
csl_faults root = faults csl_schema root
