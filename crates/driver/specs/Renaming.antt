-- Cites that are gathered and arranged, known in another way.
use Rattle.driver_blocks.specs.Blocks.{Gathered}
use Rattle.driver_blocks.specs.Runs.{Arranged}

-- a cite as it is gathered
abbrev pub gathered_as : {X Y : Type 0} → (X → Y) → Gathered X → Gathered Y
gathered_as f g = record { cite = f g.cite; names = g.names; number = g.number; is_shown = g.is_shown; has_locator = g.has_locator; suffix = g.suffix }

-- a cite in its citation
abbrev pub arranged_as : {X Y : Type 0} → (X → Y) → Arranged X → Arranged Y
arranged_as f a = record { cite = gathered_as f a.cite; is_shown = a.is_shown; delimiter = a.delimiter; verdict = a.verdict }
