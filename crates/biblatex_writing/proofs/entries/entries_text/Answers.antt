use Rattle.biblatex_writing.proofs.StringsTaken.{text_taken}
use Rattle.biblatex_writing.proofs.entries.entries_text.Goals as goal

pub returns : goal.returns
returns c = record {
  file = text_taken c.new-target.result c.push_entries.new.target _ c.into_text.result c.new-target.ensures.text c.push_entries.ensures.written c.into_text.ensures;
  text = c.push_entries.ensures.text;
}
