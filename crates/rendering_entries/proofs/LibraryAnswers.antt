-- What an entry of a library answers, by how the entry stands among works.
use Rattle.std.proofs.Common.{◌≡◌, sym, ap}
use Rattle.literature_entries.specs.EntriesData.{entry_view}
use Rattle.literature_entries.specs.declared.entry.Entry.{Entry}
use Rattle.rendering_entries.specs.Library.{answers_of, answers_among}
use Rattle.rendering_entries.specs.Views.{entry_ancestry}
use Rattle.rendering_entries.proofs.WorksLevels.{ancestry_is}

-- the answers go by how the entry stands among works
pub answers_are : (e : Entry) → answers_among (entry_ancestry e) ≡ answers_of (entry_view e)
answers_are e = ap answers_among (sym (ancestry_is e))
