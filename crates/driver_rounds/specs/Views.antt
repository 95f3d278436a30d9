-- The code's values without where they lie in memory.
use Rattle.std.specs.Prelude.{ℕ, Bool, List, [], ◌∷◌, map, Vec, Option}
use Rattle.std.specs.Option.{option_map}
use Rattle.laws.specs.Borrowed.{borrowed}
use Rattle.rendering_context.specs.Cites as cites
use Rattle.rendering_context.specs.Cites.{CiteProperties, DisambiguateState, undisambiguated}
use Rattle.rendering_context.specs.Views.{lent_names}
use Rattle.rendering_entries.specs.Answers.{Answers}
use Rattle.rendering_locale.specs.CodeViews.{code_view}
use Rattle.rendering_locale.specs.Views.{locale_view}
use Rattle.rendering_style.specs.StyleViews.{style_view}
use Rattle.rendering_context.specs.Contexts.{StyleContext}
use Rattle.rendering_taxonomy.specs.declared.cite.IbidState.{IbidState}
use Rattle.rendering_taxonomy.specs.declared.cite.IdentifierUsage.{IdentifierUsage}
use Rattle.driver_requests.specs.CitedEntries.{index_among, indices_among}
use Rattle.driver_requests.specs.Cites.{Numbered}
use Rattle.driver_requests.specs.Views.{context_of, entries_in, item_view, request_view}
use Rattle.driver_requests.specs.declared.item.CitationItem.{CitationItem}
use Rattle.driver_requests.specs.declared.request.CitationRequest.{CitationRequest}
use Rattle.driver_requests.specs.declared.bibliography_request.BibliographyRequest.{BibliographyRequest}
use Rattle.driver_names.specs.Prints as prints
use Rattle.driver_disambiguation.specs.Classes.{printed_under}
use Rattle.driver_disambiguation.specs.States.{States}
use Rattle.driver_rounds.specs.Documents.{Document}
use Rattle.driver_rounds.specs.FirstPrints.{candidate, first_print, printed_by}
use Rattle.driver_rounds.specs.declared.cite.NumberedCite.{NumberedCite}

-- the style of the bibliography with the language that is asked for, and the files with locales
abbrev pub bibliography_context_of : {T : Type 0} → BibliographyRequest T → StyleContext
bibliography_context_of r = record { style = style_view r.style.now; locale = option_map code_view r.locale; locale_files = map locale_view r.locale_files.now }

-- a document, where entries are the same and answer so
abbrev pub document_view : {T P : Type 0} → (T → T → Bool) → (T → Answers) → List (CitationRequest T P) → ℕ → BibliographyRequest T → Document P
document_view same answers requests offset r = record {
  requests = map (request_view (index_among same (entries_in requests)) answers) requests;
  bibliography_context = bibliography_context_of r;
  wanted = indices_among same (entries_in requests) (borrowed r.order.now);
  offset = offset;
}

-- what is known of a cite with a state of disambiguation, a locator, an ibid state, and which identifiers it printed
abbrev pub properties_with : NumberedCite → DisambiguateState → Option cites.SpecificLocator → IbidState → IdentifierUsage → CiteProperties
properties_with n state locator ibid usage = record {
  note_number = n.note_number;
  first_note_number = n.facts.first_note_number;
  is_near_note = n.facts.is_near_note;
  is_first = n.facts.is_first;
  initial_idx = n.index;
  locator = locator;
  citation_number = n.number;
  ibid = ibid;
  disambiguation = state;
  identifier_usage = usage;
  first_names = lent_names n.first_names;
}

-- a cite with its number and its ibid state, in a style
abbrev pub numbered_view : {T P : Type 0} → (T → Answers) → StyleContext → CitationItem T P → NumberedCite → Numbered P
numbered_view answers x i n = record {
  cite = record {
    item = item_view (λ e. n.entry) answers i;
    index = n.index;
    context = x;
    note_number = n.note_number;
    first_note_number = n.facts.first_note_number;
    is_near_note = n.facts.is_near_note;
    is_first = n.facts.is_first;
  };
  number = n.number;
  ibid = n.ibid;
  first_names = lent_names n.first_names;
}

-- the cites of items
abbrev pub numbered_cites_view : {T P : Type 0} → (T → Answers) → StyleContext → List (CitationItem T P) → List NumberedCite → List (Numbered P)
numbered_cites_view answers x [] ns = []
numbered_cites_view answers x (i ∷ is) [] = []
numbered_cites_view answers x (i ∷ is) (n ∷ ns) = numbered_view answers x i n ∷ numbered_cites_view answers x is ns

-- the cites of requests
abbrev pub all_numbered_cites_view : {T P A : Type 0} → (T → Answers) → List (CitationRequest T P) → List (Vec NumberedCite A) → List (List (Numbered P))
all_numbered_cites_view answers [] vs = []
all_numbered_cites_view answers (r ∷ rs) [] = []
all_numbered_cites_view answers (r ∷ rs) (v ∷ vs) = numbered_cites_view answers (context_of r) r.items.items v.items ∷ all_numbered_cites_view answers rs vs

-- which identifiers a cite prints undisambiguated
abbrev pub usage_of : {P : Type 0} → Numbered P → IdentifierUsage
usage_of p = (printed_by p undisambiguated).usage

-- a cite that is to be disambiguated, as it prints by the states of a round
abbrev pub printed_by_states : {P : Type 0} → States → Numbered P → prints.Printed
printed_by_states states p = printed_under states (candidate (first_print p))
