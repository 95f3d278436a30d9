use Rattle.std.proofs.Common.{◌≡◌, map, ap, ◌∙◌}
use Rattle.biblatex_text.specs.Views.{field_view}
use Rattle.reference_graph.specs.References.{lists}
use Rattle.biblatex_fields.specs.Abbreviations.{references}
use Rattle.biblatex_fields.proofs.AbbreviationsFlags.{arranged}
use Rattle.biblatex_fields.proofs.references.order_of.Goals as goal

pub returns : goal.returns
returns c = λ table.
    let ds = map field_view c.args.definitions.now in
    let same : lists c.as_slice.result.now ≡ references ds = ap lists c.as_slice.ensures.value ∙ c.in_ok-references.ensures table in
    arranged c.reference_order.result (lists c.as_slice.result.now) ds same c.reference_order.ensures.circular c.reference_order.ensures.order
