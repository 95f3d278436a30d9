use Rattle.std.proofs.Common.{◌≡◌, take}
use Rattle.rendering_names.specs.Names.{shown_pieces}
use Rattle.rendering_names.specs.Views.{append_here, indexed, name_style_view}
use Rattle.rendering_names.proofs.style.NameStyle.push_shown.Given as goal

abbrev pub invariant-loop-index : goal.invariant-loop-index
invariant-loop-index l = l.page ≡ append_here l.self (shown_pieces (name_style_view l.self) l.variable l.count (take l.index (indexed l.forms l.people))) l.initial.page
