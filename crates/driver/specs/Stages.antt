-- Cites from their states to their last print.
use Rattle.std.specs.Prelude.{ℕ, Bool, true, not, List, map, zip, is_some, Option, None}
use Rattle.std.specs.List.{list_any}
use Rattle.std.specs.Option.{option_map}
use Rattle.rendering_tree.specs.Metas as metas
use Rattle.rendering_tree.specs.Trees.{Children, element_with, names_element}
use Rattle.rendering_context.specs.Cites.{CiteProperties, DisambiguateState}
use Rattle.rendering.specs.Purposes.{citation}
use Rattle.driver_requests.specs.Requests.{Item, Request, plain_locator}
use Rattle.driver_requests.specs.Cites.{Cite, properties_of}
use Rattle.driver_requests.specs.Positions.{ibid_of, place_of, with_previous}
use Rattle.driver_disambiguation.specs.States.{state_of, suffix_by}
use Rattle.driver_disambiguation.specs.Rounds.{Disambiguation}
use Rattle.driver_blocks.specs.Blocks as blocks
use Rattle.driver_blocks.specs.Runs.{Arranged}
use Rattle.driver_blocks.specs.Collapsing.{arranged}
use Rattle.driver_rounds.specs.FirstPrints.{flattened, printed_by, FirstPrint, first_prints_in, entry_of_first, disambiguated_in}
use Rattle.driver_rounds.specs.Documents.{Document}
use Rattle.rendering_taxonomy.specs.declared.cite.IbidState.{IbidState}

-- the final state of a cite
abbrev pub state_for : {P : Type 0} → Disambiguation → FirstPrint P → DisambiguateState
state_for t b = state_of t.states (entry_of_first b)

-- a cite as it is gathered and collapsed, where it prints this tree by its final state
abbrev pub gathered_as : {P : Type 0} → Disambiguation → FirstPrint P → Children → blocks.Gathered (FirstPrint P)
gathered_as t b tree = record {
  cite = b;
  names = names_element tree;
  number = option_map (λ e. b.numbered.number) (element_with metas.CitationNumber tree);
  is_shown = not b.numbered.cite.item.is_hidden;
  has_locator = is_some b.numbered.cite.item.locator;
  suffix = suffix_by (state_for t b) (entry_of_first b) t.given;
}

-- a cite as it is gathered and collapsed, by what its final state prints without its locator
abbrev pub gathered_by : {P : Type 0} → Disambiguation → FirstPrint P → blocks.Gathered (FirstPrint P)
gathered_by t b = gathered_as t b (printed_by b.numbered (state_for t b)).tree

-- whether an item of a request has a purpose
abbrev pub has_purpose : {P : Type 0} → Request P → Bool
has_purpose r = list_any (λ i. is_some i.purpose) r.items

-- the cites of a request in their final order
abbrev pub arranged_for : {P : Type 0} → Disambiguation → Request P × List (FirstPrint P) → List (Arranged (FirstPrint P))
arranged_for t (r, bs) = arranged r.context.style.citation (has_purpose r) (map (gathered_by t) bs)

-- A cite as it is printed at last: its index in its citation, and what is known of it without its locator.
pub record Final (P : Type 0) : Type 0 where
  pub arranged : Arranged (FirstPrint P)
  pub properties : CiteProperties

-- the first print of a cite in its citation
abbrev pub first_print_of : {P : Type 0} → Arranged (FirstPrint P) → FirstPrint P
first_print_of a = a.cite.cite

-- at last every item counts
abbrev pub counts_at_last : {P : Type 0} → Item P → Bool
counts_at_last i = true

-- what is known of a cite with its final state
abbrev pub properties_in_state : {P : Type 0} → Disambiguation → FirstPrint P → CiteProperties
properties_in_state t b = properties_of b.numbered (state_for t b)

-- the index of a cite of a citation in its request, and its item
abbrev pub place_arranged : {P : Type 0} → Arranged (FirstPrint P) → ℕ × Item P
place_arranged a = place_of (first_print_of a).numbered.cite

-- the ibid state of a cite after the one before it in the final order
abbrev pub ibid_at_last : {P : Type 0} → (P → P → Bool) → Option (Arranged (FirstPrint P)) → Arranged (FirstPrint P) → IbidState
ibid_at_last same last a = ibid_of same counts_at_last (option_map place_arranged last) (first_print_of a).numbered.cite

-- a cite with its final state, as it follows the one before it in the final order
abbrev pub final : {P : Type 0} → (P → P → Bool) → Disambiguation → Option (Arranged (FirstPrint P)) × Arranged (FirstPrint P) → Final P
final same t (last, a) = record {
  arranged = a;
  properties = record (properties_in_state t (first_print_of a)) { ibid = ibid_at_last same last a };
}

-- the cites of each request as they are printed at last
abbrev pub finals_in : {P : Type 0} → (P → P → Bool) → Document P → List (List (FirstPrint P)) → Disambiguation → List (List (Final P))
finals_in same d bs t = map (map (final same t)) (with_previous None (map (arranged_for t) (zip d.requests bs)))

-- the cites of each request as they are printed at last
abbrev pub finals_by_request : {P : Type 0} → (P → P → Bool) → Document P → List (List (Final P))
finals_by_request same d = finals_in same d (first_prints_in same d) (disambiguated_in d (first_prints_in same d))

-- all cites of a document as they are printed at last
abbrev pub finals_of : {P : Type 0} → (P → P → Bool) → Document P → List (Final P)
finals_of same d = flattened (finals_by_request same d)

-- the cite itself
abbrev pub cite_of : {P : Type 0} → Final P → Cite P
cite_of f = (first_print_of f.arranged).numbered.cite

-- what is known of a cite with its locator
abbrev pub located : {P : Type 0} → Final P → CiteProperties
located f = record f.properties { locator = option_map plain_locator (cite_of f).item.locator }

-- What a cite prints.
abbrev pub printed_at_last : {P : Type 0} → Final P → Children
printed_at_last f = (citation (cite_of f).context (cite_of f).item.entry.answers (located f) None (cite_of f).item.purpose f.arranged.verdict).tree
