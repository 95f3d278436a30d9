use Rattle.std.proofs.Common.{sym, ap, ◌∙◌}
use Rattle.std.specs.Option.{option_map_or}
use Rattle.std.specs.Str.{bytes_eq}
use Rattle.xml_tree.specs.Trees.{Element}
use Rattle.xml_schema.specs.Faults.{left_at}
use Rattle.csl_styles.specs.Faults.{macro_name}
use Rattle.csl_styles.proofs.Blamed.{named_on, named_here, named_none}
use Rattle.csl_styles.proofs.reading.left_among.Goals as goal

pub loop-child-preserved : goal.loop-child-preserved
loop-child-preserved c =
    λ t. named_on (λ (m : Element). bytes_eq (macro_name m) c.args.name.now) c.args.children.now c.loop-child.child-index c.child-item.result t _ c.loop-child-test.true c.child-item.is (c.loop-child.invariant t)
    (sym c.is_macro_named.ensures ∙ c.if-is_macro_named.false)

pub returns-then-is_macro_named : goal.returns-then-is_macro_named
returns-then-is_macro_named c =
    λ t. c.left_of.ensures
    ∙ sym (ap (λ o. option_map_or left_at o c.args.otherwise) (named_here (λ (m : Element). bytes_eq (macro_name m) c.args.name.now) c.args.children.now c.loop-child.child-index c.child-item.result t _
    c.loop-child-test.true c.child-item.is (c.loop-child.invariant t) (sym c.is_macro_named.ensures ∙ c.if-is_macro_named.true)))

pub returns : goal.returns
returns c =
    λ t. sym (ap (λ o. option_map_or left_at o c.args.otherwise) (named_none (λ (m : Element). bytes_eq (macro_name m) c.args.name.now) c.args.children.now c.loop-child.child-index t _ c.loop-child-test.false
    (c.loop-child.invariant t)))
