use Rattle.std.proofs.Common.{◌≡◌, map, take}
use Rattle.rendering_names.specs.Counts.{own_count}
use Rattle.rendering_people.specs.Views.{lent_answered_view}
use Rattle.rendering_names.specs.Views.{resolved_options_view}
use Rattle.rendering_names.proofs.own.own_counts.Given as goal

abbrev pub invariant-loop-answered : goal.invariant-loop-answered
invariant-loop-answered l = l.counts.items ≡ map (own_count (resolved_options_view l.options) l.is_first) (map lent_answered_view (take l.answered-index l.people))
