use Rattle.std.proofs.Common.{◌≡◌, ◌+◌, ◌≤◌, length}
use Rattle.source_positions.specs.Position.{position_from}
use Rattle.source_positions.specs.Views.{position_view, nothing_read}
use Rattle.source_positions.proofs.position.come_to.Given as goal

abbrev pub invariant-loop-byte : goal.invariant-loop-byte
invariant-loop-byte l = (position_from (position_view l.position) l.rest ≡ position_from nothing_read l.bytes) × (l.position.ended + length l.rest ≤ length l.bytes)

abbrev pub decreases-loop-byte : goal.decreases-loop-byte
decreases-loop-byte l = length l.rest
