-- What the code holds, as plain data.
use Rattle.std.specs.Prelude.{[]}
use Rattle.source_positions.specs.Position as position
use Rattle.source_positions.specs.declared.position.Position.{Position}

-- where reading has come to
abbrev pub position_view : Position → position.Position
position_view p = record { ended = p.ended; read = p.read.items }

-- the start
abbrev pub nothing_read : position.Position
nothing_read = record { ended = 0; read = [] }
