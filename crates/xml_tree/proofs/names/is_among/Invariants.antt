use Rattle.std.proofs.Common.{◌≡◌, drop, map}
use Rattle.xml_text.specs.Views.{placed_view, name_view}
use Rattle.xml_tree.specs.Names.{is_written}
use Rattle.xml_tree.specs.Views.{valued_view}
use Rattle.xml_tree.proofs.names.is_among.Given as goal

abbrev pub invariant-loop-value : goal.invariant-loop-value
invariant-loop-value l = is_written (map (placed_view valued_view) (drop l.value-index l.values)) (name_view l.name) ≡ is_written (map (placed_view valued_view) l.values) (name_view l.name)
