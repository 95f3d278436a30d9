use Rattle.std.proofs.Common.{sym, ap, ◌∙◌}
use Rattle.std.specs.Option.{option_map}
use Rattle.std.specs.Str.{chars}
use Rattle.xml_tree.specs.Views.{element_view}
use Rattle.csl_styles.specs.Views.{fault_view, refusal_of}
use Rattle.csl_styles.proofs.Outcomes.{checked_by, checked_refused}
use Rattle.csl_styles.proofs.reading.checked.Goals as goal

pub returns-in-None : goal.returns-in-None
returns-in-None c =
    checked_by (chars c.args.text.now) (element_view c.args.root.now) c.file_of.result (sym (ap (option_map fault_view) c.in-None.is) ∙ c.in_ok-fault.ensures) c.file_of.ensures

pub returns-in-Some : goal.returns-in-Some
returns-in-Some c =
    checked_refused (chars c.args.text.now) (element_view c.args.root.now) (fault_view c.in-Some.fault) (refusal_of c.tree_error.result)
    (sym (ap (option_map fault_view) c.in-Some.is) ∙ c.in_ok-fault.ensures) c.tree_error.ensures
