-- A schema that is moved to where all its texts and lists lie at one place. It has the same faults there (proofs/Moved.antt), and a schema that is
-- a constant is said to be there (specs/Constants.antt); so this says of a schema that code has what it is, wherever it lies.
use Rattle.std.specs.Prelude.{List, map}
use Rattle.std.specs.Option.{option_map}
use Rattle.xml_schema.specs.Constants.{placed}
use Rattle.xml_schema.specs.Tables.{Text, Words, Values, AttributeRule, AttributeRules, Need, ChildRule, Rule, Schema}
use Rattle.xml_schema.specs.declared.schema.Need.TheVariants as needs
use Rattle.xml_schema.specs.declared.schema.Values.TheVariants as values

abbrev pub moved_text : Text → Text
moved_text t = placed t.now

abbrev pub moved_words : List Text → List Text
moved_words ws = map moved_text ws

abbrev pub moved_groups : List Words → List Words
moved_groups gs = map (λ (g : Words). placed (moved_words g.now)) gs

abbrev pub moved_values : Values → Values
moved_values values.Any = values.Any
moved_values values.Number = values.Number
moved_values values.Signed = values.Signed
moved_values (values.OneOf groups) = values.OneOf (placed (moved_groups groups.now))
moved_values (values.SomeOf groups) = values.SomeOf (placed (moved_groups groups.now))

abbrev pub moved_attribute : AttributeRule → AttributeRule
moved_attribute r = (moved_text r.0, moved_values r.1)

abbrev pub moved_attributes : List AttributeRule → List AttributeRule
moved_attributes rs = map moved_attribute rs

abbrev pub moved_attribute_groups : List AttributeRules → List AttributeRules
moved_attribute_groups gs = map (λ (g : AttributeRules). placed (moved_attributes g.now)) gs

abbrev pub moved_need : Need → Need
moved_need (needs.AtLeastOne names) = needs.AtLeastOne (placed (moved_words names.now))
moved_need (needs.ExactlyOne names) = needs.ExactlyOne (placed (moved_words names.now))

abbrev pub moved_child : ChildRule → ChildRule
moved_child r = (moved_text r.0, option_map moved_text r.1, r.2)

abbrev pub moved_rule : Rule → Rule
moved_rule r = record {
  name = moved_text r.name;
  attributes = placed (moved_attribute_groups r.attributes.now);
  xml_attributes = placed (moved_attributes r.xml_attributes.now);
  needs = placed (map moved_need r.needs.now);
  children = placed (map moved_child r.children.now);
  holds_text = r.holds_text;
}

-- the schema, moved there
abbrev pub moved_schema : Schema → Schema
moved_schema s = record { space = moved_text s.space; document = moved_rule s.document; rules = placed (map moved_rule s.rules.now) }
