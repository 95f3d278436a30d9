use Rattle.std.proofs.Common.{◌≡◌, drop, string_bytes, leb}
use Rattle.std.specs.List.{list_all}
use Rattle.rendering_style.specs.Tables.{height_of}
use Rattle.rendering_style.specs.declared.parts.Macro.{Macro}
use Rattle.rendering_style.proofs.levels.macros_fit.Given as goal

abbrev pub invariant-loop-each : goal.invariant-loop-each
invariant-loop-each l = list_all (λ (m : Macro). leb (height_of l.table l.heights (string_bytes m.name)) 200) (drop l.each-index l.macros) ≡ list_all (λ (m : Macro). leb (height_of l.table l.heights (string_bytes m.name)) 200) l.macros
