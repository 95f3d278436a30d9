use Rattle.std.proofs.Common.{map, string_bytes, sym, ap, ◌∙◌}
use Rattle.biblatex_entries.specs.Names.{listed}
use Rattle.biblatex_entries.proofs.NamesNothing.{nothing_listed}
use Rattle.biblatex_entries.proofs.entry.names_under.Goals as goal

pub returns-then-lacks : goal.returns-then-lacks
returns-then-lacks c = ap (map string_bytes) c.new.ensures.items ∙ sym (ap listed (c.lacks.ensures c.if-lacks.true) ∙ nothing_listed)
