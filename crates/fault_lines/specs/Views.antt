-- What the code holds, as plain data.
use Rattle.std.specs.Prelude.{ℕ, List, string_bytes}
use Rattle.fault_lines.specs.Places as places
use Rattle.fault_lines.specs.Places.{IsPlace}
use Rattle.fault_lines.specs.declared.place.Place.{Place}
use Rattle.fault_lines.specs.declared.lines.FaultLines.{FaultLines}

abbrev pub place_view : Place → places.Place
place_view p = record { number = p.number; start = p.start; begun = p.begun; at = p.at }

-- the lines so far
abbrev pub lines_view : FaultLines → List ℕ
lines_view l = string_bytes l.lines

-- what comes next is counted onward from a place of the source
abbrev pub IsIn : List ℕ → FaultLines → Type 0
IsIn source l = IsPlace source (place_view l.place)
