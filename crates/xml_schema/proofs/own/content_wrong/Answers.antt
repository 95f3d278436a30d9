use Rattle.std.proofs.Common.{option_to_list, ◌∙◌, sym}
use Rattle.std.specs.List.{filter_map}
use Rattle.std.specs.Option.{option_map}
use Rattle.std.specs.Str.{chars}
use Rattle.xml_tree.specs.Trees.{content_of}
use Rattle.xml_tree.specs.Views.{children_of}
use Rattle.xml_schema.specs.Faults.{child_wrong, text_wrong}
use Rattle.xml_schema.specs.Views.{wrong_view}
use Rattle.xml_schema.proofs.Firsts.{some_first, later_first, first-option}
use Rattle.xml_schema.proofs.own.content_wrong.Goals as goal

pub returns-in-Some : goal.returns-in-Some
returns-in-Some c =
    let content = content_of (children_of c.args.children.now) (chars c.args.text.now) in
    some_first (wrong_view c.in-Some.wrong) (filter_map (child_wrong c.args.schema.now content) c.args.rule.now.children.now) (option_to_list (text_wrong c.args.rule.now content)) (c.in-Some.ensures (chars c.args.text.now))

pub returns-in-None : goal.returns-in-None
returns-in-None c =
    let content = content_of (children_of c.args.children.now) (chars c.args.text.now) in
    later_first (option_map wrong_view c.text_wrong.result) (filter_map (child_wrong c.args.schema.now content) c.args.rule.now.children.now) (option_to_list (text_wrong c.args.rule.now content)) (c.in-None.ensures (chars c.args.text.now))
    (c.text_wrong.ensures ∙ sym (first-option (text_wrong c.args.rule.now content)))
