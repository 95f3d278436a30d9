-- What a driver gives of requests of the code.
use Rattle.std.specs.Prelude.{Bool, List, map, Result}
use Rattle.literature_entries.specs.EntriesData.{entry_view}
use Rattle.literature_entries.specs.declared.entry.Entry.{Entry}
use Rattle.rendering_entries.specs.Library.{answers_of}
use Rattle.rendering_context.specs.Contexts.{StyleContext}
use Rattle.driver_requests.specs.CitedEntries.{index_among, indices_among}
use Rattle.driver_requests.specs.Views.{entries_in, request_view}
use Rattle.driver_requests.specs.declared.request.CitationRequest.{CitationRequest}
use Rattle.driver_rounds.specs.Documents.{Document}
use Rattle.driver.specs.Finish.{Rendered, finish}
use Rattle.cite_requests.specs.Requests.{OwnLocator, is_same_own}
use Rattle.cite_requests.specs.Stages.{Refusal, overflow, refused_as}

-- the document of requests and of entries that are wanted first, where entries are the same by this
abbrev pub document_asked : (Entry → Entry → Bool) → StyleContext → List (CitationRequest Entry OwnLocator) → List Entry → Document OwnLocator
document_asked same context requests chosen = record {
  requests = map (request_view (index_among same (entries_in requests)) (λ e. answers_of (entry_view e))) requests;
  bibliography_context = context;
  wanted = indices_among same (entries_in requests) chosen;
  offset = 0;
}

-- citations and bibliography
abbrev pub finished : (Entry → Entry → Bool) → StyleContext → List (CitationRequest Entry OwnLocator) → List Entry → Result Rendered Refusal
finished same context requests chosen = refused_as (λ _. overflow) (finish is_same_own (document_asked same context requests chosen))
