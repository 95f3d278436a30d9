use Rattle.std.proofs.Common.{map, ap, ◌∙◌}
use Rattle.std.proofs.lemmas.List.{map_push}
use Rattle.xml_text.specs.Views.{placed_view}
use Rattle.xml_tree.specs.Views.{valued_view}
use Rattle.xml_tree.proofs.names.push_value.Goals as goal

pub returns : goal.returns
returns c =
    let a = c.args.attribute.now in
    ap (map (placed_view valued_view)) c.in_ok-push.ensures.items
    ∙ map_push (placed_view valued_view) c.args.values.now.items (record { v = record { name = a.v.name; value = c.args.value }; left = a.left })
