use Rattle.std.proofs.Common.{◌≡◌, map, take}
use Rattle.std.specs.Prelude.{string_bytes}
use Rattle.interop.specs.Views.{fault_view}
use Rattle.cite_command.specs.Program.{fault_lines}
use Rattle.cite_command.proofs.program.field_lines.Given as goal

abbrev pub invariant-loop-field : goal.invariant-loop-field
invariant-loop-field l = string_bytes l.written ≡ fault_lines (map fault_view (take l.field-index l.found))
