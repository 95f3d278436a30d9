-- Why a text is refused, without where it lies in memory.
use Rattle.std.specs.Prelude.{Option, Some, None}
use Rattle.xml_schema.specs.Valid.{Refusal, OfText, OfTree}
use Rattle.xml_schema.specs.Views.{fault_view}
use Rattle.xml_schema.specs.declared.valid.ValidError.{ValidError}
use Rattle.xml_schema.specs.declared.valid.ValidError.TheVariants as errors
use Rattle.xml_tree.specs.declared.error.TreeError.{TreeError}
use Rattle.xml_tree.specs.declared.error.TreeError.TheVariants as trees

-- why, if it is refused
abbrev pub refusal_of : ValidError → Option Refusal
refusal_of errors.Memory = None
refusal_of (errors.Text fault left) = Some (OfText (fault, left))
refusal_of (errors.Tree fault) = Some (OfTree (fault_view fault))

-- why a text gives no tree
abbrev pub text_error : TreeError → ValidError
text_error trees.Memory = errors.Memory
text_error (trees.Fault fault left) = errors.Text fault left
