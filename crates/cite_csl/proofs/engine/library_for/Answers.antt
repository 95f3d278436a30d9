use Rattle.std.proofs.Common.{List, Result, Ok, map, subst, sym, ◌∙◌}
use Rattle.biblatex.specs.Bibliographies.{listed_view}
use Rattle.literature_entries.specs.EntriesData.{EntryData}
use Rattle.interop.specs.Views.{library_view}
use Rattle.cite_markers.specs.Views.{document_view}
use Rattle.laws.specs.Text.{spelled}
use Rattle.cite_requests.specs.Answers.{Gives}
use Rattle.cite_requests.specs.Cited.{library_needed}
use Rattle.cite_requests.specs.Stages.{Refusal}
use Rattle.cite_requests.proofs.CitedWorks.{needed_is, needs_all, needs_cited}
use Rattle.cite_csl.proofs.engine.library_for.Goals as goal

pub returns-then-is_empty : goal.returns-then-is_empty
returns-then-is_empty c =
    let file = listed_view c.args.entries.now.file in
    subst (λ (ws : List EntryData). Gives library_view c.cited_library.result (Ok ws))
    (needs_cited file c.args.sections.now (document_view c.args.document.now) (sym c.is_empty.ensures ∙ c.if-is_empty.true)) c.cited_library.ensures

pub returns : goal.returns
returns c =
    let file = listed_view c.args.entries.now.file in
    let needed = needs_all file c.args.sections.now (document_view c.args.document.now) (sym c.is_empty.ensures ∙ c.if-is_empty.false) in
    subst (λ (r : Result (List EntryData) Refusal). Gives library_view c.whole_library.result r)
    (needed_is file.entries (library_needed file (map spelled c.args.sections.now) (document_view c.args.document.now)) c.args.entries.now.readable needed) c.whole_library.ensures
