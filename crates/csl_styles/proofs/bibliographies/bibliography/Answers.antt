use Rattle.std.proofs.Common.{true, rules, ◌∙◌, w16, FitsSigned}
use Rattle.std.proofs.lemmas.Int.{to_z-of_z}
use Rattle.csl_styles.specs.SecondFields.{aligned}
use Rattle.csl_styles.proofs.bibliographies.bibliography.Goals as goal

pub returns : goal.returns
returns c =
    let fits : FitsSigned w16 c.spacing_of.result = search rules in
    λ j. record {
      layout = (c.in_ok-part_first.ensures ∙ (λ i. aligned (c.value_by-align.ensures i) (c.in_ok-layout.ensures i))) j;
      name_options = c.in_ok-name_options.ensures j;
      hanging_indent = c.is_true.ensures j;
      second_field_align = c.value_by-align.ensures j;
      line_spacing = c.line_spacing_of.ensures j;
      entry_spacing = (to_z-of_z w16 c.spacing_of.result fits ∙ c.spacing_of.ensures) j;
      substitute = c.in_ok-substitute.ensures j;
      substitute_rule = c.substitute_rule.ensures j;
      substitutes_names_alone = true;
    }
