-- The cites of a document with what they are printed from.
use Rattle.std.specs.Prelude.{◌≡◌, ℕ, List, length, map}
use Rattle.rendering.specs.Views.{style_context_view}
use Rattle.rendering_entries.specs.Answers.{Answers}
use Rattle.driver_requests.specs.Cites.{Numbered}
use Rattle.driver_requests.specs.Requests.{Request}
use Rattle.driver_requests.specs.Views.{context_of, request_view}
use Rattle.driver_names.specs.Prints.{Candidate}
use Rattle.driver_rounds.specs.FirstPrints.{candidate, first_print, flattened}
use Rattle.driver_rounds.specs.Views.{numbered_view, numbered_cites_view, all_numbered_cites_view}
use Rattle.driver_rounds.specs.declared.cite.StyledCite.{StyledCite}
use Rattle.driver_rounds.specs.declared.document_cites.DocumentCites.{DocumentCites}
use Rattle.driver_rounds.specs.declared.document_cites.RequestCites.{RequestCites}

-- The contexts are those of the requests, and each run has a cite for each item of its request.
pub record AreInStep {T P : Type 0} (d : DocumentCites T P) : Type 0 where
  pub contexts : map style_context_view d.contexts.now ≡ map context_of d.requests.now
  pub runs : map (λ v. length v.items) d.runs.now ≡ map (λ r. length r.items.items) d.requests.now

-- The context is that of the request, and the run has a cite for each of its items.
pub record IsInStep {T P : Type 0} (c : RequestCites T P) : Type 0 where
  pub context : style_context_view c.context.now ≡ context_of c.request.now
  pub run : length c.run.now ≡ length c.request.now.items.items

-- a cite in its style
abbrev pub styled_view : {T P : Type 0} → (T → Answers) → StyledCite T P → Numbered P
styled_view answers c = numbered_view answers (style_context_view c.context.now) c.item.now c.numbered

-- the cites of a request
abbrev pub request_cites : {T P : Type 0} → (T → Answers) → RequestCites T P → List (Numbered P)
request_cites answers c = numbered_cites_view answers (context_of c.request.now) c.request.now.items.items c.run.now

-- the requests, where each entry has an index and answers
abbrev pub requests_by : {T P : Type 0} → (T → ℕ) → (T → Answers) → DocumentCites T P → List (Request P)
requests_by index answers d = map (request_view index answers) d.requests.now

-- the cites of a document request by request
abbrev pub document_cites : {T P : Type 0} → (T → Answers) → DocumentCites T P → List (List (Numbered P))
document_cites answers d = all_numbered_cites_view answers d.requests.now d.runs.now

-- all cites of a document
abbrev pub all_cites : {T P : Type 0} → (T → Answers) → DocumentCites T P → List (Numbered P)
all_cites answers d = flattened (document_cites answers d)

-- how many there are
abbrev pub cites_count : {T P : Type 0} → (T → Answers) → DocumentCites T P → ℕ
cites_count answers d = length (all_cites answers d)

-- all of them as candidates
abbrev pub all_candidates : {T P : Type 0} → (T → Answers) → DocumentCites T P → List Candidate
all_candidates answers d = map (λ n. candidate (first_print n)) (all_cites answers d)
