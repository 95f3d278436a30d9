use Rattle.std.proofs.Common.{◌≡◌, drop}
use Rattle.std.specs.List.{find}
use Rattle.std.specs.Str.{chars}
use Rattle.literature_values.specs.EntryTypes.{is_called}
use Rattle.literature_values.proofs.entry_type.first_called.Given as goal

abbrev pub invariant-loop-entry_type : goal.invariant-loop-entry_type
invariant-loop-entry_type l = find (is_called (chars l.name)) (drop l.entry_type-index l.entry_types) ≡ find (is_called (chars l.name)) l.entry_types
