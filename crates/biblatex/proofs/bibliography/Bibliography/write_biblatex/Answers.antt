use Rattle.std.proofs.Common.{ap, ◌∙◌}
use Rattle.biblatex_entries.specs.Entries.{sources_view}
use Rattle.biblatex.specs.Bibliographies.{Indexed}
use Rattle.biblatex.proofs.WrittenBack.{file_reads_back}
use Rattle.biblatex.proofs.bibliography.Bibliography.write_biblatex.Goals as goal

pub returns-clause-reads_back : goal.returns-clause-reads_back
returns-clause-reads_back g c =
    file_reads_back c.args.self.now.entries (sources_view c.as_slice.result.now) c.write_entries.result (ap sources_view c.as_slice.ensures.value ∙ ap (λ (h : Indexed). h.entries) c.self.view_is) c.write_entries.ensures.text
