-- What citations are printed from at last, and what comes of it.
use Rattle.std.specs.Prelude.{◌≡◌, ℕ, ◌<◌, Bool, All, List, length, map, zip, Option}
use Rattle.std.specs.List.{range_with_len}
use Rattle.std.specs.Option.{option_map}
use Rattle.rendering.specs.Views.{style_context_view}
use Rattle.rendering_context.specs.Views.{state_view}
use Rattle.rendering_context.specs.declared.cite.DisambiguateState.{DisambiguateState}
use Rattle.rendering_entries.specs.Answers.{Answers}
use Rattle.rendering_style.specs.Views.{citation_layout_view}
use Rattle.rendering_taxonomy.specs.declared.cite.IdentifierUsage.{IdentifierUsage}
use Rattle.rendering_tree.specs.Trees.{Children}
use Rattle.driver_requests.specs.Cites.{Numbered}
use Rattle.driver_requests.specs.Requests.{Item}
use Rattle.driver_requests.specs.SuffixViews.{suffix_view}
use Rattle.driver_requests.specs.Views.{context_of, request_view}
use Rattle.driver_names.specs.Prints.{Printed}
use Rattle.driver_disambiguation.specs.States.{States, state_of}
use Rattle.driver_disambiguation.specs.Rounds.{Disambiguation}
use Rattle.driver_blocks.specs.Blocks.{Gathered}
use Rattle.driver_blocks.specs.Runs.{Arranged}
use Rattle.driver_blocks.specs.Views.{arranged_view}
use Rattle.driver_blocks.specs.declared.cite.Arranged as arranged
use Rattle.driver_rounds.specs.CitesInStep.{AreInStep, IsInStep, all_cites, document_cites, request_cites, requests_by}
use Rattle.driver.specs.FinalPrints.{IsLeft, Listed, Placed, all_gathered, arranged_in, final_view, finals_from, first_listed, firsts, listed_view, placed_view, finals_after}
use Rattle.driver.specs.Finish.{Citation, citation_in}
use Rattle.driver_rounds.specs.Rounding.{AreWithin}
use Rattle.driver_rounds.specs.FirstPrints.{FirstPrint, first_print, flattened, printed_by}
use Rattle.driver.specs.Stages.{Final, arranged_for}
use Rattle.driver_rounds.specs.Views.{printed_by_states, numbered_view, numbered_cites_view, usage_of}
use Rattle.driver_citations.specs.declared.citation.ShownCite.{ShownCite}
use Rattle.driver_rounds.specs.declared.document_cites.DocumentCites.{DocumentCites}
use Rattle.driver.specs.declared.final_states.FinalStates.{FinalStates}
use Rattle.driver.specs.declared.final_prints.FinalCite.{FinalCite}
use Rattle.driver_requests.specs.declared.position.LastCite.{LastCite}
use Rattle.driver.specs.declared.final_prints.ListedCite.{ListedCite}
use Rattle.driver.specs.declared.final_prints.Printing.{Printing}
use Rattle.driver_names.specs.Views.{given_states_view}

-- final states, and all that was given
abbrev pub final_states_view : FinalStates → Disambiguation
final_states_view m = record { states = map state_view m.states.now; given = given_states_view m.given.now }

-- The cites of a document are in step with its requests, their entries have these states, and this is what they printed at first and by
-- their states.
pub record ArePrinted {T P : Type 0} (answers : T → Answers) (d : DocumentCites T P) (ms : List DisambiguateState) (first : List IdentifierUsage) (prints : List Printed) : Type 0 where
  pub in_step : AreInStep d
  pub within : AreWithin (length ms) d.runs.now
  pub usages : first ≡ map usage_of (all_cites answers d)
  pub printed : prints ≡ map (printed_by_states (map state_view ms)) (all_cites answers d)

-- the cites of requests as they are printed at last
abbrev pub document_finals : {T P : Type 0} → (P → P → Bool) → (T → Answers) → (T → ℕ) → Disambiguation → DocumentCites T P → List (List (Final P))
document_finals same answers index t d = finals_from same t (requests_by index answers d) (firsts (document_cites answers d))

-- the citations of requests
abbrev pub document_citations : {T P : Type 0} → (P → P → Bool) → (T → Answers) → (T → ℕ) → Disambiguation → DocumentCites T P → List Citation
document_citations same answers index t d = map citation_in (zip (requests_by index answers d) (document_finals same answers index t d))

-- so many entries, each listed by its first cite in the final order
abbrev pub document_listed : {T P : Type 0} → (P → P → Bool) → (T → Answers) → (T → ℕ) → Disambiguation → ℕ → DocumentCites T P → List (Option Listed)
document_listed same answers index t count d = map (first_listed (flattened (document_finals same answers index t d))) (range_with_len 0 count)

-- entries that are listed, with the states of all
abbrev pub entries_listed : {T : Type 0} → (T → Answers) → List DisambiguateState → List (Option (ListedCite T)) → List (Option Listed)
entries_listed answers ms ls = map (option_map (listed_view answers (map state_view ms))) ls

-- the final states of entries
abbrev pub states_view : FinalStates → States
states_view m = map state_view m.states.now

-- the cites of a request, in the style that they are printed in
abbrev pub printing_cites : {T P : Type 0} → (T → Answers) → Printing T P → List (Numbered P)
printing_cites answers p = numbered_cites_view answers (style_context_view p.cites.context.now) p.cites.request.now.items.items p.cites.run.now

-- The cites are in step with their request, their entries have states, and the style and what they printed at first are their own.
pub record BelongTogether {T P : Type 0} (answers : T → Answers) (p : Printing T P) : Type 0 where
  pub in_step : IsInStep p.cites
  pub within : All (λ n. n.entry < length p.entry_states.states.now) p.cites.run.now
  pub usages : p.usages.now ≡ map usage_of (printing_cites answers p)
  pub style : citation_layout_view p.style.now ≡ (context_of p.cites.request.now).style.citation

-- what they printed by their final states
abbrev pub printing_prints : {T P : Type 0} → (T → Answers) → Printing T P → List Printed
printing_prints answers p = map (printed_by_states (states_view p.entry_states)) (printing_cites answers p)

-- what they printed by their final states in the style that the request names
abbrev pub request_prints : {T P : Type 0} → (T → Answers) → Printing T P → List Printed
request_prints answers p = map (printed_by_states (states_view p.entry_states)) (request_cites answers p.cites)

-- the cites of a request as they are gathered, from what they printed
abbrev pub printing_gathered : {T P : Type 0} → Printing T P → List Printed → List (Gathered ℕ)
printing_gathered p prints = all_gathered (map (option_map suffix_view) p.entry_states.year_suffixes.now) 0 p.cites.request.now.items.items p.cites.run.now prints

-- the cites of a request in their final order
abbrev pub request_arranged : {T P : Type 0} → (T → Answers) → Printing T P → List (Arranged (FirstPrint P))
request_arranged answers p = arranged_for (final_states_view p.entry_states) (request_view (λ e. 0) answers p.cites.request.now, map first_print (request_cites answers p.cites))

-- the cites of a request as they are printed at last, after an item
abbrev pub request_finals : {T P : Type 0} → (P → P → Bool) → (T → Answers) → Option (ℕ × Item P) → Printing T P → List (Final P)
request_finals same answers last p = finals_after same (states_view p.entry_states) last (request_arranged answers p)

-- cites that are arranged have their indices in the request
abbrev pub AreIndices : {T P : Type 0} → Printing T P → List arranged.Arranged → Type 0
AreIndices p xs = All (λ (a : arranged.Arranged). a.cite.cite < length p.cites.request.now.items.items) xs

-- cites that are arranged, known by themselves instead of their indices
abbrev pub arranged_among : {T P : Type 0} → (T → Answers) → Printing T P → List arranged.Arranged → List (Arranged (FirstPrint P))
arranged_among answers p xs = arranged_in (map first_print (printing_cites answers p)) (map (arranged_view (citation_layout_view p.style.now)) xs)

-- what the cites of a request have come to
abbrev pub placed_so_far : {T P : Type 0} → (T → Answers) → Printing T P → List ShownCite → List (Option (ListedCite T)) → Option (LastCite T P) → Placed P
placed_so_far answers p ss listed last = placed_view answers (states_view p.entry_states) ss listed last

-- what a cite printed by its final state, without its locator
abbrev pub tree_before : {T P : Type 0} → (T → Answers) → Printing T P → FinalCite T P → Children
tree_before answers p f = (printed_by (numbered_view answers (style_context_view p.cites.context.now) f.item.now f.cite) (state_of (states_view p.entry_states) f.cite.entry)).tree

-- A tree that a cite printed so, unless nothing is left of it.
pub record HasPrinted {T P : Type 0} (answers : T → Answers) (p : Printing T P) (f : FinalCite T P) (t : Children) : Type 0 where
  pub left : IsLeft t (tree_before answers p f)

-- a cite in the final order
abbrev pub printing_final : {T P : Type 0} → (T → Answers) → Printing T P → FinalCite T P → arranged.Arranged → Final P
printing_final answers p f a = final_view answers (style_context_view p.cites.context.now) (citation_layout_view p.style.now) (states_view p.entry_states) f a
