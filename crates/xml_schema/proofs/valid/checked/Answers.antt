use Rattle.std.specs.Str.{chars}
use Rattle.xml_tree.specs.Views.{element_view}
use Rattle.xml_schema.specs.ValidViews.{refusal_of}
use Rattle.xml_schema.specs.Views.{fault_view}
use Rattle.xml_schema.proofs.Validity.{checked_refused}
use Rattle.xml_schema.proofs.valid.checked.Goals as goal

pub returns-in-Ok-Some : goal.returns-in-Ok-Some
returns-in-Ok-Some c =
    checked_refused c.args.schema.now (chars c.args.text.now) (element_view c.args.root) (fault_view c.in-Ok-Some.fault) (refusal_of c.tree_error.result) (rw c.in-Ok-Some.field-0-is at c.in-Ok-Some.ensures) c.tree_error.ensures
