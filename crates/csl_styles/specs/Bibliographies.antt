-- What a `bibliography` means.
use Rattle.std.specs.Prelude.{ℕ, ◌-◌, min, Bool, true, false, ◌==◌, List, codes, if◌then◌else◌, Option, unwrap_or, ℤ, pos, neg_ℤ}
use Rattle.std.specs.Option.{option_map, option_map_or}
use Rattle.laws.specs.Characters.{hyphen}
use Rattle.texts.specs.Reading.{taken}
use Rattle.xml_tree.specs.Trees.{Element}
use Rattle.rendering_style.specs.Styles.{Bibliography}
use Rattle.rendering_taxonomy.specs.declared.style.SubsequentAuthorSubstituteRule.{SubsequentAuthorSubstituteRule}
use Rattle.rendering_taxonomy.specs.declared.style.SubsequentAuthorSubstituteRule.TheVariants.{CompleteAll}
use Rattle.csl_words.specs.Looking.{table, attribute, value_by, is_true, number, number_in}
use Rattle.csl_words.specs.Printing.{printed}
use Rattle.csl_words.specs.declared.options.TheConstants.{SECOND_FIELDS, SUBSTITUTE_RULES}
use Rattle.csl_nodes.specs.Options.{name_options}
use Rattle.csl_styles.specs.Layouts.{layout_in}
use Rattle.csl_styles.specs.SecondFields.{aligned}

-- a number of lines, of which there may be 32767
abbrev pub lines : ℕ → ℤ
lines n = pos (min n 32767)

-- the space between lines: one line, also where none is said, which is more than nothing
abbrev pub line_spacing : ℕ → ℤ
line_spacing n = if n == 0 then pos 1 else lines n

-- that a bibliography says
abbrev pub line_spacing_of : Element → ℤ
line_spacing_of e = line_spacing (unwrap_or (number (codes "line-spacing") e) 1)

-- a number of lines after a hyphen, which is below nothing
abbrev pub signed : Bool → ℕ → ℤ
signed true n = neg_ℤ (lines n)
signed false n = lines n

-- the space between items that a text says: a number, or one after a hyphen; one line where it says none
abbrev pub entry_spacing : Bool × List ℕ → ℤ
entry_spacing t = signed t.0 (unwrap_or (number_in t.1) 1)

-- that a bibliography says
abbrev pub spacing_of : Element → ℤ
spacing_of e = option_map_or (λ (t : List ℕ). entry_spacing (taken hyphen t)) (attribute (codes "entry-spacing") e) (pos 1)

-- the rule by which names are substituted that are those of the item before
abbrev pub substitute_rule : Element → SubsequentAuthorSubstituteRule
substitute_rule e = unwrap_or (value_by (table SUBSTITUTE_RULES.now) (codes "subsequent-author-substitute-rule") e) CompleteAll

-- a bibliography; what stands for names leaves their labels and affixes
abbrev pub bibliography : List (List ℕ) → Element → Bibliography
bibliography words e = record {
  layout = aligned (value_by (table SECOND_FIELDS.now) (codes "second-field-align") e) (layout_in words e);
  name_options = name_options (codes "name-form") (codes "name-delimiter") e;
  hanging_indent = is_true (codes "hanging-indent") e;
  second_field_align = value_by (table SECOND_FIELDS.now) (codes "second-field-align") e;
  line_spacing = line_spacing_of e;
  entry_spacing = spacing_of e;
  substitute = printed (codes "subsequent-author-substitute") e;
  substitute_rule = substitute_rule e;
  substitutes_names_alone = true;
}
