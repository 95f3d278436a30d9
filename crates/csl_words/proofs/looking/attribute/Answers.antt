use Rattle.std.proofs.Common.{map, sym, ap, ◌∙◌}
use Rattle.xml_text.specs.Views.{placed_view}
use Rattle.xml_tree.specs.Trees as trees
use Rattle.xml_tree.specs.Views.{attribute_view}
use Rattle.xml_schema.proofs.Contents.{element_opened}
use Rattle.csl_words.specs.Looking.{value_among, attribute}
use Rattle.csl_words.proofs.looking.attribute.Goals as goal

pub returns : goal.returns
returns c =
    let name = c.args.name.now in
    c.value_among.ensures
    ∙ ((λ i. value_among name (map (placed_view attribute_view) (c.as_slice.ensures.value i)))
    ∙ sym (ap (λ (x : trees.Element). attribute name x) (element_opened c.args.element.now)))
