use Rattle.std.proofs.Common.{map, string_bytes, sym, ap, ◌∙◌}
use Rattle.biblatex_entries.specs.Names.{trimmed}
use Rattle.biblatex_entries.proofs.NamesNothing.{nothing_trimmed}
use Rattle.biblatex_entries.proofs.entry.name_under.Goals as goal

pub returns-then-lacks : goal.returns-then-lacks
returns-then-lacks c = ap (map string_bytes) c.new.ensures.items ∙ sym (ap trimmed (c.lacks.ensures c.if-lacks.true) ∙ nothing_trimmed)
