use Rattle.std.proofs.Common.{◌≡◌}
use Rattle.xml_schema.specs.Constants.{placed, placed_text, schema_of}
use Rattle.xml_schema.specs.Moved.{moved_schema}
use Rattle.xml_schema.specs.Tables.{Schema}
use Rattle.xml_tree.specs.Views.{element_view}
use Rattle.csl_schema.specs.Faults.{csl_schema}
use Rattle.csl_schema.specs.declared.rules.TheConstants.{SPACE}
use Rattle.csl_schema.proofs.Found.{found_by}
use Rattle.csl_schema.proofs.first.first_csl_fault.Goals as goal

pub returns : goal.returns
unfolding csl_schema
returns c = found_by _ (element_view c.args.root.now) c.first_fault.result c.first_fault.ensures
    (λ i. schema_of (placed_text SPACE) (c.document_rule.ensures i) (c.csl_rules-rules.ensures i))
