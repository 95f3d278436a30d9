use Rattle.std.proofs.Common.{◌≡◌, ℕ, Bool, true, List, length, replicate, Result, ap, subst, ◌∙◌}
use Rattle.biblatex.specs.Bibliographies.{listed_view}
use Rattle.biblatex.specs.Entries.{Source}
use Rattle.interop.specs.Library.{library_of}
use Rattle.interop.specs.Views.{library_view}
use Rattle.literature_entries.specs.EntriesData.{EntryData}
use Rattle.cite_requests.specs.Answers.{Gives}
use Rattle.cite_requests.specs.Cited.{marked_entries}
use Rattle.cite_requests.specs.Stages.{Refusal, fields_refused, refused_as}
use Rattle.cite_requests.proofs.MarkedEntries.{all_marked}
use Rattle.cite_requests.proofs.bib_file.whole_library.Goals as goal

pub returns : goal.returns
returns c =
    let es = (listed_view c.args.file.now).entries in
    let marks : c.as_slice.result.now ≡ replicate (length es) true = c.as_slice.ensures.value ∙ (c.in_ok-marks.ensures.items_if_clones_equal (λ y same. same) ∙ ap (λ (n : ℕ). replicate n true) c.len.ensures) in
    let same : marked_entries c.as_slice.result.now es ≡ es = ap (λ (ms : List Bool). marked_entries ms es) marks ∙ all_marked es in
    subst (λ (r : Result (List EntryData) Refusal). Gives library_view c.library_of.result r) (ap (λ (xs : List Source). refused_as fields_refused (library_of xs)) same) c.library_of.ensures
