use Rattle.std.proofs.Common.{sym, ap, ◌∙◌}
use Rattle.std.specs.Option.{option_map}
use Rattle.std.specs.Str.{chars}
use Rattle.xml_tree.specs.Views.{element_view}
use Rattle.xml_schema.proofs.Firsts.{none_first}
use Rattle.csl_styles.specs.Faults.{faults}
use Rattle.csl_styles.specs.Views.{fault_view, refusal_of}
use Rattle.csl_styles.proofs.Outcomes.{checked_refused, refused_by}
use Rattle.csl_styles.proofs.reading.sound.Goals as goal

pub returns-in-Some : goal.returns-in-Some
returns-in-Some c =
    let x = element_view c.args.root in
    let t = chars c.args.text.now in
    refused_by x t (refusal_of c.tree_error.result) c.requires
    (checked_refused t x (fault_view c.in-Some.fault) (refusal_of c.tree_error.result) (sym (ap (option_map fault_view) c.in-Some.is) ∙ c.in_ok-fault.ensures) c.tree_error.ensures)

pub returns : goal.returns
returns c = (c.requires, none_first (faults (element_view c.args.root)) (sym (ap (option_map fault_view) c.in-None.is) ∙ c.in_ok-fault.ensures))
