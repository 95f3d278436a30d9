-- The types of a schema, whose tables have texts and lists behind references, as code is handed them.
use Rattle.std.specs.Prelude.{ℕ, List, Option}
use Rattle.std.specs.Borrow.{Bor}
use Rattle.xml_schema.specs.declared.schema.Need.{Need as NeedOf}
use Rattle.xml_schema.specs.declared.schema.Rule.{Rule as RuleOf}
use Rattle.xml_schema.specs.declared.schema.Schema as declared
use Rattle.xml_schema.specs.declared.schema.Times.{Times}
use Rattle.xml_schema.specs.declared.schema.Values.{Values as ValuesOf}

abbrev pub Text : Type 0
Text = Bor (List ℕ)

abbrev pub Words : Type 0
Words = Bor (List Text)

abbrev pub Groups : Type 0
Groups = Bor (List Words)

abbrev pub Values : Type 0
Values = ValuesOf Groups

abbrev pub AttributeRule : Type 0
AttributeRule = Text × Values

abbrev pub AttributeRules : Type 0
AttributeRules = Bor (List AttributeRule)

abbrev pub Need : Type 0
Need = NeedOf Words

abbrev pub ChildRule : Type 0
ChildRule = Text × Option Text × Times

abbrev pub Rule : Type 0
Rule = RuleOf Text (Bor (List AttributeRules)) AttributeRules (Bor (List Need)) (Bor (List ChildRule))

abbrev pub Schema : Type 0
Schema = declared.Schema
