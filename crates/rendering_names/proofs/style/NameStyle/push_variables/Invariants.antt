use Rattle.std.proofs.Common.{◌≡◌, drop, take, zip}
use Rattle.std.specs.List.{enumerate_from, flat_map}
use Rattle.rendering_people.specs.Counts.{cut}
use Rattle.rendering_names.specs.Names.{indexed_variable}
use Rattle.rendering_people.specs.Views.{all_lent_answered_view}
use Rattle.rendering_names.specs.Views.{append_here, names_parts_view, name_style_view}
use Rattle.rendering_names.proofs.style.NameStyle.push_variables.Given as goal

abbrev pub invariant-loop-index : goal.invariant-loop-index
invariant-loop-index l =
    (l.page ≡ append_here l.self (flat_map (indexed_variable (name_style_view l.self) (names_parts_view l.node) (all_lent_answered_view l.people)) (take l.index (enumerate_from 0 (zip (cut l.counts l.forms) (all_lent_answered_view l.people))))) l.initial.page)
    × (drop l.index (cut l.counts l.forms) ≡ cut (drop l.index l.counts) l.rest)
