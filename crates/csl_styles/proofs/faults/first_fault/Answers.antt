use Rattle.std.proofs.Common.{◌≡◌, map, sym, ap, ◌∙◌}
use Rattle.std.specs.Option.{option_map}
use Rattle.xml_tree.specs.Views.{element_view}
use Rattle.xml_schema.specs.Faults.{first_of}
use Rattle.xml_schema.proofs.Firsts.{first-map}
use Rattle.csl_schema.specs.Faults.{csl_faults}
use Rattle.csl_styles.specs.Faults.{by_schema, earlier_of, own_faults}
use Rattle.csl_styles.specs.Views.{fault_view}
use Rattle.csl_styles.proofs.Merging.{first_merged}
use Rattle.csl_styles.proofs.faults.first_fault.Goals as goal

pub returns : goal.returns
returns c =
    let x = element_view c.args.root.now in
    let table : option_map fault_view c.by_schema.result ≡ first_of (map by_schema (csl_faults x)) =
    c.by_schema.ensures ∙ (ap (option_map by_schema) c.in_ok-by_table.ensures ∙ sym (first-map by_schema (csl_faults x))) in
    c.earlier_of.ensures ∙ ((λ j. earlier_of (table j) (c.in_ok-own.ensures j)) ∙ sym (first_merged (map by_schema (csl_faults x)) (own_faults x)))
