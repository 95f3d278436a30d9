use Rattle.std.proofs.Common.{◌≡◌, Bool, false, List, length, replicate, Result, refl, ap, subst, ◌∙◌}
use Rattle.biblatex.specs.Bibliographies.{listed_view}
use Rattle.biblatex.specs.Entries.{Source}
use Rattle.literature_entries.specs.EntriesData.{EntryData}
use Rattle.interop.specs.Library.{library_of}
use Rattle.interop.specs.Views.{library_view}
use Rattle.interop.proofs.LibraryKeys.{no_fault_among}
use Rattle.cite_markers.specs.Views.{document_view}
use Rattle.cite_requests.specs.Answers.{Gives}
use Rattle.cite_requests.specs.Cited.{entries_with, is_among, keys_cited, library_from, marked_entries, marked_pieces}
use Rattle.cite_requests.specs.Stages.{Refusal, fields_refused, refused_as}
use Rattle.cite_requests.proofs.CitedWorks.{needed_is}
use Rattle.cite_requests.proofs.MarkedEntries.{marked_cited}
use Rattle.cite_requests.proofs.bib_file.BibFile.cited_library.Goals as goal

pub returns : goal.returns
returns c =
    let file = listed_view c.args.self.now.file in
    let pieces = document_view c.args.document.now in
    let keys = keys_cited file pieces in
    let es = entries_with keys file.entries in
    let marks : c.as_slice.result.now ≡ marked_pieces file (replicate (length file.entries) false) pieces = c.as_slice.ensures.value ∙ c.in_ok-marks.ensures in
    let same : marked_entries c.as_slice.result.now file.entries ≡ es =
    ap (λ (ms : List Bool). marked_entries ms file.entries) marks ∙ marked_cited file pieces c.args.self.now.distinct in
    subst (λ (r : Result (List EntryData) Refusal). Gives library_view c.library_of.result r)
    (ap (λ (xs : List Source). refused_as fields_refused (library_of xs)) same
    ∙ needed_is es (library_from es) (no_fault_among (λ e. is_among keys e.key) file.entries c.args.self.now.readable) refl) c.library_of.ensures
