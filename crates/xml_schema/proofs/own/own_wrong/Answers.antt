use Rattle.std.proofs.Common.{map, sym, ap, ◌∙◌}
use Rattle.std.specs.Str.{chars}
use Rattle.xml_text.specs.Views.{placed_view}
use Rattle.xml_tree.specs.Trees as trees
use Rattle.xml_tree.specs.Trees.{content_of}
use Rattle.xml_tree.specs.Views.{attribute_view, children_of}
use Rattle.xml_schema.specs.Faults.{own_wrongs, wrongs_of, first_of}
use Rattle.xml_schema.proofs.Contents.{element_opened}
use Rattle.xml_schema.proofs.own.own_wrong.Goals as goal

pub returns : goal.returns
returns c =
    let s = c.args.schema.now in
    let rule = c.args.rule.now in
    c.parts_wrong.ensures
    ∙ ((λ i. first_of (own_wrongs s rule (map (placed_view attribute_view) (c.as_slice.ensures.value i)) (content_of (children_of (c.as_slice-2.ensures.value i)) (chars (c.as_str.ensures.value i)))))
    ∙ sym (ap (λ (x : trees.Element). first_of (wrongs_of s rule x)) (element_opened c.args.element.now)))
