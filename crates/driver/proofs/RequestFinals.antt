-- The cites of a request, gathered and arranged, are its cites in their final order.
use Rattle.std.proofs.Common.{arith, ◌≡◌, ℕ, ◌<◌, Bool, List, ◌++◌, All, length, map, fold, flat_map, sym, ap, ◌∙◌, Option}
use Rattle.std.specs.List.{enumerate_from}
use Rattle.std.proofs.lemmas.List.{length-map}
use Rattle.std.proofs.lemmas.List.Elements.{All-same}
use Rattle.std.proofs.lemmas.List.FromFn.{length-enumerate_from}
use Rattle.rendering_context.specs.Cites.{DisambiguateState}
use Rattle.rendering_context.specs.Views.{state_view}
use Rattle.rendering_context.specs.declared.cite.DisambiguateState.{DisambiguateState as CodeState}
use Rattle.rendering_entries.specs.Answers.{Answers}
use Rattle.rendering_style.specs.Styles.{Citation}
use Rattle.rendering_context.specs.Contexts.{StyleContext}
use Rattle.driver_requests.specs.Suffixes.{Suffix}
use Rattle.driver_requests.specs.Views.{context_of, request_view}
use Rattle.driver_requests.specs.declared.request.CitationRequest.{CitationRequest}
use Rattle.driver_names.specs.Prints as prints
use Rattle.driver_disambiguation.specs.SuffixesFound.{suffixes_by}
use Rattle.driver_names.specs.Prints.{GivenState}
use Rattle.driver_disambiguation.specs.States.{States, suffix_by}
use Rattle.driver_disambiguation.specs.Rounds.{Disambiguation}
use Rattle.driver_blocks.specs.Blocks.{Gathered}
use Rattle.driver_blocks.specs.Collapsing.{arranged}
use Rattle.driver_blocks.specs.Runs.{Arranged}
use Rattle.driver.proofs.ArrangedCount.{arranged_count}
use Rattle.driver.proofs.FinalPrintsSteps.{all_gathered_long}
use Rattle.driver_rounds.proofs.RequestsFound.{run_long}
use Rattle.driver.proofs.GatheredFinals.{IsLow, IsWithin, arranged_indices, arranged_within}
use Rattle.driver.proofs.FinalPrintsRuns.{placed_all}
use Rattle.driver.specs.FinalPrints.{Placed, all_gathered, arranged_in, last_arranged, listed_as, listed_with, placed_with, finals_after}
use Rattle.driver.specs.Finish.{shown}
use Rattle.driver_rounds.specs.FirstPrints.{FirstPrint, first_print}
use Rattle.driver.specs.Stages.{arranged_for, gathered_by, has_purpose}
use Rattle.driver_rounds.specs.Views.{printed_by_states, numbered_cites_view}
use Rattle.driver_rounds.specs.declared.cite.NumberedCite.{NumberedCite}

-- the cites of a request after what there was before them
abbrev pub placed_in : {P : Type 0} → (P → P → Bool) → States → Placed P → List (Arranged (FirstPrint P)) → Placed P
placed_in same ms p cites = record {
  shown = p.shown ++ flat_map shown (finals_after same ms p.last cites);
  listed = fold listed_with p.listed (map listed_as (finals_after same ms p.last cites));
  last = last_arranged p.last cites;
}

pub suffixes_long : (ms : States) (gs : List GivenState) → length (suffixes_by ms gs) ≡ length ms
suffixes_long ms gs = length-map (enumerate_from 0 ms) (λ (p : ℕ × DisambiguateState). suffix_by p.1 p.0 gs) ∙ length-enumerate_from 0 ms

-- cites whose entries have states
pub low_states : (ms : List CodeState) (ks : List NumberedCite) → All (λ (k : NumberedCite). k.entry < length ms) ks → All (IsLow (length (map state_view ms))) ks
low_states ms ks h = λ k d less. omega (arith, h k d less, length-map ms state_view)

module _ {T P : Type 0} (answers : T → Answers) (t : Disambiguation) (r : CitationRequest T P) (c : Citation) (some_purpose : Bool) (ks : List NumberedCite) (year_suffixes : List (Option Suffix)) (ss : List prints.Printed) (gs : List (Gathered ℕ)) (viewed : List (Arranged ℕ))
    (low : All (IsLow (length t.states)) ks) (is_suffix_own : year_suffixes ≡ suffixes_by t.states t.given) (is_printed : ss ≡ map (printed_by_states t.states) (numbered_cites_view answers (context_of r) r.items.items ks)) (is_gathered : gs ≡ all_gathered year_suffixes 0 r.items.items ks ss)
    (is_viewed : viewed ≡ arranged c some_purpose gs) where
  by_index : viewed ≡ arranged c some_purpose (all_gathered (suffixes_by t.states t.given) 0 r.items.items ks (map (printed_by_states t.states) (numbered_cites_view answers (context_of r) r.items.items ks)))
  by_index = is_viewed ∙ ap (arranged c some_purpose) (is_gathered ∙ (λ j. all_gathered (is_suffix_own j) 0 r.items.items ks (is_printed j)))

  -- they are those of the definition
  pub request_arranged : (x : StyleContext) → x ≡ context_of r → c ≡ (context_of r).style.citation → some_purpose ≡ has_purpose (request_view (λ e. 0) answers r)
      → arranged_in (map first_print (numbered_cites_view answers x r.items.items ks)) viewed ≡ arranged_for t (request_view (λ e. 0) answers r, map first_print (numbered_cites_view answers (context_of r) r.items.items ks))
  request_arranged x is_context is_style is_purpose =
      (λ j. arranged_in (map first_print (numbered_cites_view answers (is_context j) r.items.items ks)) (by_index j))
      ∙ arranged_indices answers (context_of r) t r.items.items ks low c some_purpose
      ∙ (λ j. arranged (is_style j) (is_purpose j) (map (gathered_by t) (map first_print (numbered_cites_view answers (context_of r) r.items.items ks))))

  -- and each has an index in the request
  pub request_within : All (IsWithin (map first_print (numbered_cites_view answers (context_of r) r.items.items ks))) viewed
  request_within =
      All-same (IsWithin (map first_print (numbered_cites_view answers (context_of r) r.items.items ks))) viewed
      (arranged c some_purpose (all_gathered (suffixes_by t.states t.given) 0 r.items.items ks (map (printed_by_states t.states) (numbered_cites_view answers (context_of r) r.items.items ks)))) by_index
      (arranged_within answers (context_of r) t r.items.items ks low c some_purpose)

  -- what the cites of the request come to
  pub request_placed : (x : StyleContext) → x ≡ context_of r → c ≡ (context_of r).style.citation → some_purpose ≡ has_purpose (request_view (λ e. 0) answers r) → (same : P → P → Bool) (ms : States) → ms ≡ t.states → (now first : States → Placed P)
      → now ms ≡ fold (placed_with same ms) (first ms) (arranged_in (map first_print (numbered_cites_view answers x r.items.items ks)) viewed)
      → now t.states ≡ placed_in same t.states (first t.states) (arranged_for t (request_view (λ e. 0) answers r, map first_print (numbered_cites_view answers (context_of r) r.items.items ks)))
  request_placed x is_context is_style is_purpose same ms is_states now first h =
      let cites = arranged_for t (request_view (λ e. 0) answers r, map first_print (numbered_cites_view answers (context_of r) r.items.items ks)) in
      sym (ap now is_states)
      ∙ h
      ∙ (λ j. fold (placed_with same (is_states j)) (first (is_states j)) (request_arranged x is_context is_style is_purpose j))
      ∙ placed_all same t.states (first t.states) cites

  -- and as many are arranged as the request has
  pub request_count : length ks ≡ length r.items.items → length viewed ≡ length r.items.items
  request_count long =
      let printed : length ss ≡ length r.items.items =
      ap length is_printed ∙ length-map (numbered_cites_view answers (context_of r) r.items.items ks) (printed_by_states t.states) ∙ run_long answers (context_of r) r.items.items ks long in
      ap length is_viewed ∙ arranged_count c some_purpose gs ∙ ap length is_gathered ∙ all_gathered_long year_suffixes 0 r.items.items ks ss long printed
