use Rattle.std.proofs.Common.{subst}
use Rattle.std.specs.Str.{IsUtf8}
use Rattle.std.proofs.lemmas.Str.{IsUtf8-string_bytes}
use Rattle.biblatex_entries.specs.Entries.{source_view}
use Rattle.biblatex_writing.proofs.EntriesWritten.{entry_lines}
use Rattle.biblatex_writing.proofs.entries.push_entry.Goals as goal

pub returns : goal.returns
returns g c = record {
  written =
      entry_lines g.T.Target.takes c.args.target.now c.push_str.new.self c.push_str-2.new.self c.push_str-3.new.self c.push_str-4.new.self c.push_str-5.new.self c.push_fields.new.target c.push_str-6.new.self
      (source_view c.args.entry.now) c.written_name.result.now c.as_str.result.now c.written_name.ensures c.as_str.ensures.value c.push_str.ensures c.push_str-2.ensures c.push_str-3.ensures c.push_str-4.ensures c.push_str-5.ensures
      c.push_fields.ensures.written c.push_str-6.ensures;
  text = record {
    key = IsUtf8-string_bytes c.args.entry.now.key;
    entry_type = subst IsUtf8 c.written_name.ensures c.written_name.utf8;
    fields = c.push_fields.ensures.text;
  };
}
