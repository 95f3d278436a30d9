use Rattle.std.proofs.Common.{◌∷◌, []}
use Rattle.csl_schema.specs.Faults.{csl_rules}
use Rattle.csl_schema.proofs.first.csl_rules.Goals as goal

pub returns : goal.returns
unfolding csl_rules
returns c = λ i. c.style_rule.ensures i ∷ c.citation_rule.ensures i ∷ c.bibliography_rule.ensures i ∷ c.layout_rule.ensures i ∷ c.macro_rule.ensures i ∷ c.sort_rule.ensures i ∷ c.key_rule.ensures i ∷ c.text_rule.ensures i ∷ c.number_rule.ensures i ∷ c.label_rule.ensures i ∷ c.label_in_names_rule.ensures i ∷ c.date_rule.ensures i ∷ c.date_in_locale_rule.ensures i ∷ c.date_part_rule.ensures i ∷ c.names_rule.ensures i ∷ c.name_rule.ensures i ∷ c.name_part_rule.ensures i ∷ c.et_al_rule.ensures i ∷ c.substitute_rule.ensures i ∷ c.group_rule.ensures i ∷ c.choose_rule.ensures i ∷ c.if_rule.ensures i ∷ c.else_if_rule.ensures i ∷ c.else_rule.ensures i ∷ c.locale_rule.ensures i ∷ c.style_options_rule.ensures i ∷ c.terms_rule.ensures i ∷ c.term_rule.ensures i ∷ c.single_rule.ensures i ∷ c.multiple_rule.ensures i ∷ []
