use Rattle.std.specs.Str.{chars}
use Rattle.std.proofs.lemmas.Result.{on_ok_weaker}
use Rattle.laws.specs.Text.{lowered}
use Rattle.biblatex_fields.specs.Value.{field_value_view}
use Rattle.biblatex_entries.specs.Entries.{source_view}
use Rattle.biblatex_entries.proofs.TypedStored.{text_put}
use Rattle.biblatex_entries.proofs.entry.Entry.set_as.Goals as goal

pub returns-clause-written : goal.returns-clause-written
returns-clause-written g c =
    on_ok_weaker c.set.result (text_put (source_view c.args.self.now) (source_view c.set.new.self) (lowered (chars c.args.name.now)) _ (field_value_view c.in_ok-chunks.chunks.items) c.in_ok-chunks.ensures) c.set.ensures.ok
