use Rattle.std.proofs.Common.{ap, ◌∙◌}
use Rattle.biblatex_entries.specs.Entries.{sources_view}
use Rattle.biblatex.specs.Bibliographies.{Indexed}
use Rattle.biblatex.proofs.WrittenBack.{text_reads_back}
use Rattle.biblatex.proofs.bibliography.Bibliography.to_biblatex_string.Goals as goal

pub returns-clause-reads_back : goal.returns-clause-reads_back
returns-clause-reads_back c =
    text_reads_back c.args.self.now.entries (sources_view c.as_slice.result.now) c.entries_text.result (ap sources_view c.as_slice.ensures.value ∙ ap (λ (h : Indexed). h.entries) c.self.view_is) c.entries_text.ensures.text c.entries_text.ensures.file
