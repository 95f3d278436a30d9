-- Citations and bibliography, stage by stage.
use Rattle.std.proofs.Common.{◌≡◌, ℕ, List, map, Result, Ok, Err, refl, sym, ap, ◌∙◌}
use Rattle.std.specs.List.{enumerate_from}
use Rattle.laws.specs.Results.{◌>>=◌}
use Rattle.laws.proofs.Results.{bind_ok, ok_is}
use Rattle.literature_entries.specs.EntriesData.{entry_view}
use Rattle.literature_entries.specs.declared.entry.Entry.{Entry}
use Rattle.literature_entries.specs.contracts.entry.EntryPartialEq.TheImpl as entry
use Rattle.literature.specs.Trees.{Tree}
use Rattle.rendering_context.specs.Contexts.{StyleContext}
use Rattle.driver.specs.Finish.{finish}
use Rattle.driver_requests.specs.declared.request.CitationRequest.{CitationRequest}
use Rattle.cite_markers.specs.Document.{Piece}
use Rattle.cite_requests.specs.Asked.{AskedRequest, asked_request, asked_request_view, requests_asked}
use Rattle.cite.specs.Finished.{finished}
use Rattle.cite_requests.specs.Markers.{CitedWork, cited_works, markers_of}
use Rattle.cite_requests.specs.Requests.{OwnLocator, is_same_own}
use Rattle.cite_requests.specs.Sections.{chosen}
use Rattle.cite_requests.specs.Stages.{Refusal, overflow, refused_as, name_stage, section_stage, unknown_name}
use Rattle.cite.specs.Verdict.{driver_stage, rendered_stage}
use Rattle.cite_requests.specs.Works.{Works}
use Rattle.cite.proofs.DocumentAsked.{chosen_works_listed, document_is, markers_listed}
use Rattle.cite_requests.proofs.EntriesIndices.{AreListedWorks}
use Rattle.cite_requests.proofs.RequestsNamed.{requests_are}
use Rattle.cite_requests.proofs.StepsRefused.{given}

-- a name that is unknown
stops_at_names : (works : Works) (x : StyleContext) (sections : List (List ℕ)) (ps : List Piece) (r : Refusal) → name_stage works ps ≡ Err r → rendered_stage works x sections ps ≡ Err r
unfolding rendered_stage
stops_at_names works x sections ps r is = rw is refl

named_by : (x : StyleContext) (found : Result (List (List CitedWork)) Refusal) (r : Refusal) → (found >>= λ ms. Ok (map (asked_request x) (enumerate_from 1 ms))) ≡ Err r → found ≡ Err r
named_by x (Ok ms) r is = absurd cc
named_by x (Err q) r is = ap (λ (o : Result (List AskedRequest) Refusal). refusal_in q o) is
  where
    refusal_in : Refusal → Result (List AskedRequest) Refusal → Result (List (List CitedWork)) Refusal
    refusal_in d (Ok y) = Err d
    refusal_in d (Err e) = Err e

pub names_stop : (works : Works) (x : StyleContext) (sections : List (List ℕ)) (ps : List Piece) (r : Refusal) → requests_asked works x ps ≡ Err r → rendered_stage works x sections ps ≡ Err r
names_stop works x sections ps r is = stops_at_names works x sections ps r (named_by x (name_stage works ps) r (sym (requests_are works x ps) ∙ is))

-- a section that is no selector
after_names : (works : Works) (x : StyleContext) (sections : List (List ℕ)) (ps : List Piece) (ms : List (List CitedWork)) (r : Refusal)
    → name_stage works ps ≡ Ok ms → section_stage sections ≡ Err r → rendered_stage works x sections ps ≡ Err r
unfolding rendered_stage
after_names works x sections ps ms r named is = rw (named, is) refl

-- both are known
after_sections : (works : Works) (x : StyleContext) (sections : List (List ℕ)) (ps : List Piece) (ms : List (List CitedWork)) (xs : List Tree)
    → name_stage works ps ≡ Ok ms → section_stage sections ≡ Ok xs → rendered_stage works x sections ps ≡ driver_stage x (chosen xs works.library) ms
unfolding rendered_stage
after_sections works x sections ps ms xs named is = rw (named, is) refl

-- a section that is no selector, where all names are known
pub sections_stop : (works : Works) (x : StyleContext) (sections : List (List ℕ)) (ps : List Piece) (rs : List AskedRequest) (r : Refusal)
    → requests_asked works x ps ≡ Ok rs → section_stage sections ≡ Err r → rendered_stage works x sections ps ≡ Err r
sections_stop works x sections ps rs r asked stopped =
    let named = bind_ok (name_stage works ps) (λ ms. Ok (map (asked_request x) (enumerate_from 1 ms))) rs (sym (requests_are works x ps) ∙ asked) in
    after_names works x sections ps named.0 r named.1 stopped

-- what the driver gives, where names and sections are known
pub finishes : (works : Works) (x : StyleContext) (sections : List (List ℕ)) (ps : List Piece) (rs : List (CitationRequest Entry OwnLocator)) (xs : List Tree) (es : List Entry)
    → requests_asked works x ps ≡ Ok (map asked_request_view rs) → section_stage sections ≡ Ok xs → map entry_view es ≡ chosen xs works.library → AreListedWorks works.library works.library
    → finished entry.ghosts.eq x rs es ≡ rendered_stage works x sections ps
finishes works x sections ps rs xs es asked parsed is listed =
    let named = bind_ok (name_stage works ps) (λ ms. Ok (map (asked_request x) (enumerate_from 1 ms))) (map asked_request_view rs) (sym (requests_are works x ps) ∙ asked) in
    let ms = named.0 in
    let requests : map asked_request_view rs ≡ map (asked_request x) (enumerate_from 1 ms) = sym (ok_is {F = Refusal} (map (asked_request x) (enumerate_from 1 ms)) (map asked_request_view rs) named.2) in
    ap (λ d. refused_as (λ _. overflow) (finish is_same_own d))
    (document_is works.library x rs ms es (chosen xs works.library) requests (markers_listed works (markers_of ps) ms (given unknown_name (cited_works works ps) ms named.1)) is (chosen_works_listed works.library xs works.library listed))
    ∙ sym (after_sections works x sections ps ms xs named.1 parsed)
