-- Cites from items with indices and what is known of them, and their numbers one after the other.
use Rattle.std.specs.Prelude.{ℕ, ◌+◌, Bool, List, [], ◌∷◌, map, Vec, Option, Some}
use Rattle.std.specs.Option.{option_map}
use Rattle.rendering_entries.specs.Answers.{Answers}
use Rattle.rendering_context.specs.Contexts.{StyleContext}
use Rattle.driver_requests.specs.Cites.{Cite, Numbered, entry_of}
use Rattle.driver_requests.specs.Positions.{counts_at_first, ibid_of, place_of}
use Rattle.driver_requests.specs.Requests.{Item}
use Rattle.driver_requests.specs.Views.{context_of, item_view, last_view}
use Rattle.driver_requests.specs.declared.item.CitationItem.{CitationItem}
use Rattle.driver_requests.specs.declared.position.LastCite.{LastCite}
use Rattle.driver_requests.specs.declared.request.CitationRequest.{CitationRequest}
use Rattle.driver_requests.specs.declared.history.CiteFacts.{CiteFacts}
use Rattle.driver_rounds.specs.declared.cite.NumberedCite.{NumberedCite}

-- an item at an index in its request, whose entry has that index, with what is known of the cite
abbrev pub cite_view : {T P : Type 0} → (T → Answers) → StyleContext → Option ℕ → ℕ → CitationItem T P → ℕ → CiteFacts → Cite P
cite_view answers x number index i entry_index facts = record {
  item = item_view (λ e. entry_index) answers i;
  index = index;
  context = x;
  note_number = number;
  first_note_number = facts.first_note_number;
  is_near_note = facts.is_near_note;
  is_first = facts.is_first;
}

-- the cites of items from an index on
abbrev pub cites_view : {T P : Type 0} → (T → Answers) → StyleContext → Option ℕ → ℕ → List (CitationItem T P) → List ℕ → List CiteFacts → List (Cite P)
cites_view answers x number index [] indices facts = []
cites_view answers x number index (i ∷ is) [] facts = []
cites_view answers x number index (i ∷ is) (p ∷ ps) [] = []
cites_view answers x number index (i ∷ is) (p ∷ ps) (f ∷ fs) = cite_view answers x number index i p f ∷ cites_view answers x number (index + 1) is ps fs

-- the cites of requests
abbrev pub all_cites_view : {T P A B : Type 0} → (T → Answers) → List (CitationRequest T P) → List (Vec ℕ A) → List (Vec CiteFacts B) → List (List (Cite P))
all_cites_view answers [] ps fs = []
all_cites_view answers (r ∷ rs) [] fs = []
all_cites_view answers (r ∷ rs) (p ∷ ps) [] = []
all_cites_view answers (r ∷ rs) (p ∷ ps) (f ∷ fs) = cites_view answers (context_of r) r.note_number 0 r.items.items p.items f.items ∷ all_cites_view answers rs ps fs

-- the last cite, where there is one: its index in its request, and its item
abbrev pub last_item : {T P : Type 0} → (T → Answers) → Option (LastCite T P) → Option (ℕ × Item P)
last_item answers last = option_map (last_view answers) last

-- the last of items from an index on, whose entries have these indices, or the one before them
abbrev pub last_item_among : {T P : Type 0} → (T → Answers) → Option (ℕ × Item P) → ℕ → List (CitationItem T P) → List ℕ → Option (ℕ × Item P)
last_item_among answers last n [] indices = last
last_item_among answers last n (i ∷ is) [] = last
last_item_among answers last n (i ∷ is) (p ∷ ps) = last_item_among answers (Some (n, item_view (λ e. p) answers i)) (n + 1) is ps

-- the index of the entry of a cite
abbrev pub entry_at : NumberedCite → ℕ
entry_at n = n.entry

-- the indices of the entries of cites, request by request
abbrev pub entries_by_request : {A : Type 0} → List (Vec NumberedCite A) → List (List ℕ)
entries_by_request {A} vs = map (λ (v : Vec NumberedCite A). map entry_at v.items) vs

-- a cite with its number, and its ibid state after an item, which has an index in its request
abbrev pub numbered_from : {P : Type 0} → (P → P → Bool) → (ℕ → ℕ) → Option (ℕ × Item P) → Cite P → Numbered P
numbered_from same number last c = record { cite = c; number = number (entry_of c); ibid = ibid_of same counts_at_first last c; first_names = [] }

-- cites with their numbers, each after the one before it
abbrev pub numbering : {P : Type 0} → (P → P → Bool) → (ℕ → ℕ) → Option (ℕ × Item P) → List (Cite P) → List (Numbered P)
numbering same number last [] = []
numbering same number last (c ∷ cs) = numbered_from same number last c ∷ numbering same number (Some (place_of c)) cs

-- the last item of cites, or the one before them
abbrev pub last_after : {P : Type 0} → Option (ℕ × Item P) → List (Cite P) → Option (ℕ × Item P)
last_after last [] = last
last_after last (c ∷ cs) = last_after (Some (place_of c)) cs

-- cites with their numbers request by request, each after the one before it
abbrev pub numbering_all : {P : Type 0} → (P → P → Bool) → (ℕ → ℕ) → Option (ℕ × Item P) → List (List (Cite P)) → List (List (Numbered P))
numbering_all same number last [] = []
numbering_all same number last (cs ∷ css) = numbering same number last cs ∷ numbering_all same number (last_after last cs) css
