use Rattle.std.proofs.Common.{◌≡◌, map, drop}
use Rattle.std.specs.Prelude.{◌==◌}
use Rattle.std.specs.Map.{lookup}
use Rattle.rendering_locale.specs.Views.{ending_view, ordinals_view}
use Rattle.rendering_numbers.specs.Numbers.{numbered, ending_of}
use Rattle.rendering_numbers.proofs.numbers.ending_of.Given as goal

abbrev pub invariant-loop-ending : goal.invariant-loop-ending
invariant-loop-ending l = lookup (λ k. k == l.number) (map numbered (map ending_view (drop l.ending-index l.ordinals.endings.items))) ≡ ending_of l.number (ordinals_view l.ordinals)
