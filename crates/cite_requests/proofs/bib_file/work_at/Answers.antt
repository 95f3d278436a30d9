use Rattle.std.proofs.Common.{slice_get, ◌∙◌}
use Rattle.biblatex.specs.Bibliographies.{listed_view}
use Rattle.biblatex.specs.Entries.{source_view}
use Rattle.interop.specs.Views.{library_view}
use Rattle.cite_requests.proofs.CatalogsWorks.{same_work, no_entry_work}
use Rattle.cite_requests.proofs.bib_file.work_at.Goals as goal

pub returns-in-Some : goal.returns-in-Some
returns-in-Some c =
    c.work_of.ensures ∙ same_work (library_view c.args.library.now) (source_view c.in-Some.entry.now) (slice_get (listed_view c.args.file.now).entries c.args.index) c.in-Some.ensures

pub returns-in-None : goal.returns-in-None
returns-in-None c = no_entry_work (library_view c.args.library.now) (slice_get (listed_view c.args.file.now).entries c.args.index) c.in-None.ensures
