use Rattle.std.proofs.Common.{map}
use Rattle.std.specs.List.{filter_map}
use Rattle.std.specs.Option.{option_map}
use Rattle.std.specs.Str.{chars}
use Rattle.xml_text.specs.Views.{placed_view}
use Rattle.xml_tree.specs.Trees.{content_of}
use Rattle.xml_tree.specs.Views.{attribute_view, children_of}
use Rattle.xml_schema.specs.Faults.{need_wrong, content_wrongs}
use Rattle.xml_schema.specs.Views.{wrong_view}
use Rattle.xml_schema.proofs.Firsts.{some_first, later_first}
use Rattle.xml_schema.proofs.own.later_wrong.Goals as goal

pub returns-in-Some : goal.returns-in-Some
returns-in-Some c =
    let attributes = map (placed_view attribute_view) c.args.attributes.now in
    let content = content_of (children_of c.args.children.now) (chars c.args.text.now) in
    some_first (wrong_view c.in-Some.wrong) (filter_map (need_wrong attributes) c.args.rule.now.needs.now) (content_wrongs c.args.schema.now c.args.rule.now content) c.in-Some.ensures

pub returns-in-None : goal.returns-in-None
returns-in-None c =
    let attributes = map (placed_view attribute_view) c.args.attributes.now in
    let content = content_of (children_of c.args.children.now) (chars c.args.text.now) in
    later_first (option_map wrong_view c.content_wrong.result) (filter_map (need_wrong attributes) c.args.rule.now.needs.now) (content_wrongs c.args.schema.now c.args.rule.now content) c.in-None.ensures c.content_wrong.ensures
