use Rattle.driver.specs.RenderedViews.{item_fields_view}
use Rattle.cite_output.specs.Output.{item_end, item_opening}
use Rattle.cite_output.proofs.OutputPieces.{item_written, writes_spelled}
use Rattle.cite_output.proofs.output.push_item.Goals as goal

pub returns : goal.returns
returns g c =
    let took = g.T.TextTarget.takes in
    let format = c.args.format in
    let opening = writes_spelled took c.args.target.now (item_opening format) c.item_opening.result.now c.push_str.new.self c.item_opening.ensures c.push_str.ensures in
    let end = writes_spelled took c.push_to.new.target (item_end format) c.item_end.result.now c.push_str-2.new.self c.item_end.ensures c.push_str-2.ensures in
    item_written took format (item_fields_view c.args.item.now) c.args.target.now c.push_str.new.self c.push_field.new.target c.push_to.new.target c.push_str-2.new.self opening c.push_field.ensures c.push_to.ensures end
