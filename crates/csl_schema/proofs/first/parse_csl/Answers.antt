use Rattle.std.proofs.Common.{◌≡◌, chars}
use Rattle.xml_schema.specs.Constants.{placed, placed_text, schema_of}
use Rattle.xml_schema.specs.Moved.{moved_schema}
use Rattle.xml_schema.specs.Tables.{Schema}
use Rattle.csl_schema.specs.Faults.{csl_schema}
use Rattle.csl_schema.specs.declared.rules.TheConstants.{SPACE}
use Rattle.csl_schema.proofs.Found.{read_by}
use Rattle.csl_schema.proofs.first.parse_csl.Goals as goal

pub returns : goal.returns
unfolding csl_schema
returns c = read_by _ (chars c.args.text.now) c.parse_valid.result c.parse_valid.ensures.reading
    (λ i. schema_of (placed_text SPACE) (c.document_rule.ensures i) (c.csl_rules-rules.ensures i))
