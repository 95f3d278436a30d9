-- Rules that are constants. A definition has a constant without where its texts and lists lie; code is handed them with it. Where they lie is no
-- matter of a schema (proofs/Moved.antt), so that a constant stands for the rule whose texts and lists all lie at one place.
use Rattle.std.specs.Prelude.{ℕ, List, map, Option}
use Rattle.std.specs.Borrow.{Bor}
use Rattle.std.specs.Option.{option_map}
use Rattle.xml_schema.specs.Tables.{Text, Words, Groups, Values, AttributeRule, AttributeRules, Need, ChildRule, Rule, Schema}
use Rattle.xml_schema.specs.declared.schema.Need.{Need as NeedOf}
use Rattle.xml_schema.specs.declared.schema.Need.TheVariants as needs
use Rattle.xml_schema.specs.declared.schema.Rule.{Rule as RuleOf}
use Rattle.xml_schema.specs.declared.schema.Times.{Times}
use Rattle.xml_schema.specs.declared.schema.Values.{Values as ValuesOf}
use Rattle.xml_schema.specs.declared.schema.Values.TheVariants as values

-- what a constant has for a reference
abbrev pub Constant : Type 0 → Type 0
Constant X = record { now : X }

abbrev pub ConstantText : Type 0
ConstantText = Constant (List ℕ)

abbrev pub ConstantWords : Type 0
ConstantWords = Constant (List ConstantText)

abbrev pub ConstantValues : Type 0
ConstantValues = ValuesOf (Constant (List ConstantWords))

abbrev pub ConstantAttributes : Type 0
ConstantAttributes = Constant (List (ConstantText × ConstantValues))

abbrev pub ConstantChild : Type 0
ConstantChild = ConstantText × Option ConstantText × Times

abbrev pub ConstantRule : Type 0
ConstantRule = RuleOf ConstantText (Constant (List ConstantAttributes)) ConstantAttributes (Constant (List (NeedOf ConstantWords))) (Constant (List ConstantChild))

-- a value at the one place
abbrev pub placed : {X : Type 0} → X → Bor X
placed x = record { ref_ptr = (0, 0); now = x }

-- a list there, each member of which is put there too
abbrev pub placed_list : {X Y : Type 0} → (X → Y) → Constant (List X) → Bor (List Y)
placed_list {X} {Y} f xs = placed (map f xs.now)

abbrev pub placed_text : ConstantText → Text
placed_text t = placed t.now

abbrev pub placed_words : ConstantWords → Words
placed_words ws = placed_list placed_text ws

abbrev pub placed_groups : Constant (List ConstantWords) → Groups
placed_groups gs = placed_list placed_words gs

abbrev pub placed_values : ConstantValues → Values
placed_values values.Any = values.Any
placed_values values.Number = values.Number
placed_values values.Signed = values.Signed
placed_values (values.OneOf groups) = values.OneOf (placed_groups groups)
placed_values (values.SomeOf groups) = values.SomeOf (placed_groups groups)

abbrev pub placed_attribute : ConstantText × ConstantValues → AttributeRule
placed_attribute r = (placed_text r.0, placed_values r.1)

abbrev pub placed_attributes : ConstantAttributes → AttributeRules
placed_attributes rs = placed_list placed_attribute rs

abbrev pub placed_need : NeedOf ConstantWords → Need
placed_need (needs.AtLeastOne names) = needs.AtLeastOne (placed_words names)
placed_need (needs.ExactlyOne names) = needs.ExactlyOne (placed_words names)

abbrev pub placed_child : ConstantChild → ChildRule
placed_child r = (placed_text r.0, option_map placed_text r.1, r.2)

abbrev pub placed_rule : ConstantRule → Rule
placed_rule r = record {
  name = placed_text r.name;
  attributes = placed_list placed_attributes r.attributes;
  xml_attributes = placed_attributes r.xml_attributes;
  needs = placed_list placed_need r.needs;
  children = placed_list placed_child r.children;
  holds_text = r.holds_text;
}

-- the schema with such a namespace, rule around the root and rules
abbrev pub schema_of : Text → Rule → List Rule → Schema
schema_of space document rules = record { space = space; document = document; rules = placed rules }
