-- The cites of all requests, in order, and what of their positions never changes.
use Rattle.std.specs.Prelude.{ℕ, ◌-◌, Bool, not, ◌&&◌, ◌||◌, List, [], ◌∷◌, ◌++◌, map, filter_map, length, take, drop, slice_get, is_some, if◌then◌else◌, Option, None}
use Rattle.std.specs.List.{list_any, enumerate_from}
use Rattle.std.specs.Option.{option_map, unwrap_or}
use Rattle.rendering_context.specs.Cites.{CiteProperties, DisambiguateState}
use Rattle.rendering_context.specs.Contexts.{StyleContext}
use Rattle.rendering_people.specs.Properties.{Properties}
use Rattle.driver_requests.specs.Requests.{Item, Request, cites_entry}
use Rattle.rendering_taxonomy.specs.declared.cite.IbidState.{IbidState}
use Rattle.rendering_taxonomy.specs.declared.cite.IdentifierUsage.TheVariants as usages

-- A cite: its item and the index of that in its request, from zero; the style of the request; the number of its note and of the note
-- that cited its entry first; whether an earlier note near it cites its entry, and whether no earlier cite does.
pub record Cite (P : Type 0) : Type 0 where
  pub item : Item P
  pub index : ℕ
  pub context : StyleContext
  pub note_number : Option ℕ
  pub first_note_number : Option ℕ
  pub is_near_note : Bool
  pub is_first : Bool

-- whether a request cites the entry at an index
abbrev pub request_cites : {P : Type 0} → ℕ → Request P → Bool
request_cites entry r = list_any (cites_entry entry) r.items

-- the number of the note of a request, where it has one and cites the entry at an index
abbrev pub note_citing : {P : Type 0} → ℕ → Request P → Option ℕ
note_citing entry r = if request_cites entry r then r.note_number else None

-- The number of the note that cited an entry first: of the earlier ones, or else of the request itself; outside of notes there is none.
abbrev pub first_note : {P : Type 0} → ℕ → List (Request P) → Request P → Option ℕ
first_note entry earlier r = option_map (λ n. unwrap_or (slice_get (filter_map (note_citing entry) earlier) 0) n) r.note_number

-- the last n members
abbrev pub last_n : {X : Type 0} → ℕ → List X → List X
last_n n xs = drop (length xs - n) xs

-- whether one of the last requests before a note, so many as its style says, is a note that cites the entry
abbrev pub is_near : {P : Type 0} → ℕ → List (Request P) → Request P → Bool
is_near entry earlier r =
    is_some r.note_number && list_any (λ q. is_some (note_citing entry q)) (last_n r.context.style.citation.near_note_distance earlier)

-- whether an entry is cited by earlier requests or before an index in this one
abbrev pub is_cited_before : {P : Type 0} → ℕ → List (Request P) → List (Item P) → Bool
is_cited_before entry earlier before = list_any (request_cites entry) earlier || list_any (cites_entry entry) before

-- the cite of an item at an index in a request, after earlier requests
abbrev pub cite_at : {P : Type 0} → List (Request P) → Request P → ℕ × Item P → Cite P
cite_at earlier r (index, i) = record {
  item = i;
  index = index;
  context = r.context;
  note_number = r.note_number;
  first_note_number = first_note i.entry.index earlier r;
  is_near_note = is_near i.entry.index earlier r;
  is_first = not (is_cited_before i.entry.index earlier (take index r.items));
}

-- the cites of each request after earlier ones
abbrev pub cites_after : {P : Type 0} → List (Request P) → List (Request P) → List (List (Cite P))
cites_after earlier [] = []
cites_after earlier (r ∷ rs) = map (cite_at earlier r) (enumerate_from 0 r.items) ∷ cites_after (earlier ++ r ∷ []) rs

-- the cites of each request
abbrev pub cites_of : {P : Type 0} → List (Request P) → List (List (Cite P))
cites_of rs = cites_after [] rs

-- A cite with the number of its entry, from zero, its ibid state after the cite before it, and how much of its first names is printed
-- before cites are compared.
pub record Numbered (P : Type 0) : Type 0 where
  pub cite : Cite P
  pub number : ℕ
  pub ibid : IbidState
  pub first_names : Properties

-- the index of the entry that a cite is of
abbrev pub entry_of : {P : Type 0} → Cite P → ℕ
entry_of c = c.item.entry.index

-- what is known of a cite with a state of disambiguation, without its locator
abbrev pub properties_of : {P : Type 0} → Numbered P → DisambiguateState → CiteProperties
properties_of p state = record {
  note_number = p.cite.note_number;
  first_note_number = p.cite.first_note_number;
  is_near_note = p.cite.is_near_note;
  is_first = p.cite.is_first;
  initial_idx = p.cite.index;
  locator = None;
  citation_number = p.number;
  ibid = p.ibid;
  disambiguation = state;
  identifier_usage = usages.None;
  first_names = p.first_names;
}
