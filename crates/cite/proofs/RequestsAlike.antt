-- Requests of markers by the keys of their works alone, and what entries of those keys answer.
use Rattle.std.proofs.Common.{◌≡◌, ℕ, ◌+◌, Bool, true, false, List, [], ◌∷◌, ◌++◌, map, slice_get, Option, Some, None, Result, Ok, refl, sym, ap, ◌∙◌, inl, inr}
use Rattle.std.specs.Prelude.{◌||◌}
use Rattle.std.specs.List.{AllByRecursion, enumerate_from, list_any, zip}
use Rattle.std.specs.Option.{option_map, option_map_or}
use Rattle.std.specs.Str.{bytes_eq}
use Rattle.std.proofs.lemmas.List.{map-append}
use Rattle.std.proofs.lemmas.List.Elements.{Contains-append_cases}
use Rattle.std.proofs.lemmas.Slice.Eq.{bytes_eq-Decides}
use Rattle.laws.specs.Text.{text}
use Rattle.laws.proofs.Results.{bind_ok, ok_is}
use Rattle.literature_entries.specs.EntriesData.{EntryData}
use Rattle.literature.specs.Keys.{with_key}
use Rattle.interop.specs.Library.{key_of}
use Rattle.rendering_entries.specs.Answers.{Answers}
use Rattle.rendering_entries.specs.Library.{answers_of}
use Rattle.rendering_taxonomy.specs.declared.variable.Variable.{Variable}
use Rattle.rendering_taxonomy.specs.declared.variable.Variable.TheVariants as variables
use Rattle.rendering_context.specs.Contexts.{StyleContext}
use Rattle.rendering_nodes.specs.Named.{AnswerAlike, AreAlike, Named, joined_named}
use Rattle.rendering.specs.Alike.{style_named}
use Rattle.driver_requests.specs.CitedEntries.{index_among, once}
use Rattle.driver_requests.specs.Requests.{Item, Request, note_number_in}
use Rattle.driver.specs.Alike.{item_with, request_with, requests_named}
use Rattle.cite_markers.specs.Marker.{Cite}
use Rattle.cite_markers.specs.Document.{Piece}
use Rattle.cite_requests.specs.Cited.{is_among}
use Rattle.cite_requests.specs.Markers.{CitedWork, cited_work, markers_of, with_work}
use Rattle.cite_requests.specs.Requests.{OwnLocator, item_of, locator_of, request_of, works_in}
use Rattle.cite_requests.specs.Steps.{all_ok}
use Rattle.cite_requests.specs.Works.{Works, meaning}
use Rattle.cite_requests.proofs.EntriesIndices.{AreListedWorks}
use Rattle.cite_requests.proofs.KeyLists.{at_once_among, index_mapped, key_at_index}

-- a cite with the key of its work
abbrev pub keyed : CitedWork → Cite × List ℕ
keyed c = (c.cite, key_of c.work)

-- what steps gave, where each can be taken back
all_back : {F X Y : Type 0} (step : X → Result Y F) (back : Y → X) → ((x : X) (y : Y) → step x ≡ Ok y → back y ≡ x) → (xs : List X) (ys : List Y) → all_ok step xs ≡ Ok ys → map back ys ≡ xs
unfolding all_ok
all_back {F} step back h [] ys is = ap (map back) (sym (ok_is {F = F} [] ys is))
all_back {F} step back h (x ∷ xs) ys is =
    let first = bind_ok (step x) _ ys is in
    let others = bind_ok (all_ok step xs) _ ys first.2 in
    ap (map back) (sym (ok_is {F = F} (first.0 ∷ others.0) ys others.2)) ∙ (λ i. h x first.0 first.1 i ∷ all_back step back h xs others.0 others.1 i)

kept_by : (c : Cite) (o : Option EntryData) (found : CitedWork) → with_work c o ≡ Ok found → found.cite ≡ c
kept_by c None found is = absurd cc
kept_by c (Some w) found is = ap (λ (f : CitedWork). f.cite) (sym (ok_is {F = List ℕ} (record { cite = c; work = w }) found is))

-- the cites of the works that are found are those of the document
pub cites_kept : (works : Works) (pieces : List Piece) (ms : List (List CitedWork)) → all_ok (all_ok (cited_work works)) (markers_of pieces) ≡ Ok ms → map (map (λ c. c.cite)) ms ≡ markers_of pieces
cites_kept works pieces ms is =
    all_back (all_ok (cited_work works)) (map (λ c. c.cite))
    (λ cites found e. all_back (cited_work works) (λ c. c.cite) (λ c one g. kept_by c (meaning (text c.name) works) one g) cites found e)
    (markers_of pieces) ms is

-- cites with keys, which stand in one list
past : {X Y : Type 0} → List X → List Y → List Y
past [] ks = ks
past (x ∷ xs) [] = []
past (x ∷ xs) (k ∷ ks) = past xs ks

spread : {X Y : Type 0} → List (List X) → List Y → List (List (X × Y))
spread [] ks = []
spread (xs ∷ xss) ks = zip xs ks ∷ spread xss (past xs ks)

paired : (cs : List CitedWork) (more : List (List ℕ)) → map keyed cs ≡ zip (map (λ c. c.cite) cs) (map key_of (map (λ c. c.work) cs) ++ more)
paired [] more = refl
paired (c ∷ cs) more = ap (λ (ps : List (Cite × List ℕ)). keyed c ∷ ps) (paired cs more)

passed : (cs : List CitedWork) (more : List (List ℕ)) → more ≡ past (map (λ c. c.cite) cs) (map key_of (map (λ c. c.work) cs) ++ more)
unfolding past
passed [] more = refl
passed (c ∷ cs) more = passed cs more

spread_keys : (ms : List (List CitedWork)) → map (map keyed) ms ≡ spread (map (map (λ c. c.cite)) ms) (map key_of (works_in ms))
unfolding spread
spread_keys [] = refl
spread_keys (m ∷ ms) =
    let more = map key_of (works_in ms) in
    (λ i. paired m more i ∷ (spread_keys ms ∙ ap (spread (map (map (λ c. c.cite)) ms)) (passed m more)) i)
    ∙ ap (spread (map (λ c. c.cite) m ∷ map (map (λ c. c.cite)) ms)) (sym (map-append key_of (map (λ c. c.work) m) (works_in ms)))

-- markers with the same cites, whose works have the same keys
pub keyed_alike : (ms ns : List (List CitedWork)) → map (map (λ c. c.cite)) ms ≡ map (map (λ c. c.cite)) ns → map key_of (works_in ms) ≡ map key_of (works_in ns) → map (map keyed) ms ≡ map (map keyed) ns
keyed_alike ms ns cites keys = spread_keys ms ∙ (λ i. spread (cites i) (keys i)) ∙ sym (spread_keys ns)

-- what nothing answers
abbrev pub nothing_answered : Answers
nothing_answered = record { number = λ v. None; pages = None; written = λ v. None; standard = λ form v. None; people = λ v. []; date = λ v. None; kind = λ k. false; english = None; key = [] }

-- what the work of a key in a library answers
abbrev pub answers_at : List EntryData → List ℕ → Answers
answers_at library k = option_map_or answers_of (with_key key_of k library) nothing_answered

-- what the work of an index answers, among the works of cited keys
abbrev pub answers_by : List EntryData → List (List ℕ) → ℕ → Answers
answers_by library keys n = option_map_or (answers_at library) (slice_get (once bytes_eq keys) n) nothing_answered

-- an item and a request, of keys that are cited and of what they answer
abbrev pub item_at : List (List ℕ) → (List ℕ → Answers) → Cite × List ℕ → Item OwnLocator
item_at keys answers p = record {
  entry = record { index = index_among bytes_eq keys p.1; answers = answers p.1 };
  locator = option_map locator_of p.0.locator;
  is_hidden = p.0.hidden;
  purpose = p.0.purpose;
}

abbrev pub request_at : StyleContext → List (List ℕ) → (List ℕ → Answers) → ℕ × List (Cite × List ℕ) → Request OwnLocator
request_at x keys answers p = record { context = x; note_number = note_number_in x.style.class (Some p.0); items = map (item_at keys answers) p.1 }

listed_before : (library vs ws : List EntryData) → AreListedWorks library (vs ++ ws) → AreListedWorks library vs
listed_before library [] ws h = tt
listed_before library (v ∷ vs) ws h = (h.0, listed_before library vs ws h.1)

listed_after : (library vs ws : List EntryData) → AreListedWorks library (vs ++ ws) → AreListedWorks library ws
listed_after library [] ws h = h
listed_after library (v ∷ vs) ws h = listed_after library vs ws h.1

module _ (library cited : List EntryData) (keys : List (List ℕ)) (are : map key_of cited ≡ keys) where
  items_keyed : (cs : List CitedWork) → AreListedWorks library (map (λ c. c.work) cs) → map (item_of cited) cs ≡ map (item_at keys (answers_at library)) (map keyed cs)
  items_keyed [] h = refl
  items_keyed (c ∷ cs) h =
      let index : index_among (λ v w. bytes_eq (key_of v) (key_of w)) cited c.work ≡ index_among bytes_eq keys (key_of c.work) =
      index_mapped key_of bytes_eq cited c.work ∙ ap (λ (ks : List (List ℕ)). index_among bytes_eq ks (key_of c.work)) are in
      let answers : answers_of c.work ≡ answers_at library (key_of c.work) = sym (ap (λ o. option_map_or answers_of o nothing_answered) h.0) in
      λ i. record (item_of cited c) { entry = record { index = index i; answers = answers i } } ∷ items_keyed cs h.1 i

  -- requests by keys
  pub requests_keyed : (x : StyleContext) (n : ℕ) (ms : List (List CitedWork)) → AreListedWorks library (works_in ms)
      → map (request_of x cited) (enumerate_from n ms) ≡ map (request_at x keys (answers_at library)) (enumerate_from n (map (map keyed) ms))
  requests_keyed x n [] h = refl
  requests_keyed x n (m ∷ ms) h =
      λ i. record (request_of x cited (n, m)) { items = items_keyed m (listed_before library (map (λ c. c.work) m) (works_in ms) h) i }
      ∷ requests_keyed x (n + 1) ms (listed_after library (map (λ c. c.work) m) (works_in ms) h) i

-- the works of cites have their keys among those that are cited
pub among_all : (keys : List (List ℕ)) (ws : List EntryData) → ((k : List ℕ) → is_among (map key_of ws) k ≡ true → is_among keys k ≡ true) → AllByRecursion (λ w. is_among keys (key_of w) ≡ true) ws
among_all keys [] h = tt
among_all keys (w ∷ ws) h = (h (key_of w) (ap (λ (b : Bool). b || list_any (bytes_eq (key_of w)) (map key_of ws)) ((bytes_eq-Decides (key_of w) (key_of w)).1 refl)), among_all keys ws (λ k e. h k (later k e)))
  where
    or_true : (b c : Bool) → c ≡ true → (b || c) ≡ true
    or_true true c e = refl
    or_true false c e = e

    later : (k : List ℕ) → is_among (map key_of ws) k ≡ true → is_among (map key_of (w ∷ ws)) k ≡ true
    later k e = or_true (bytes_eq k (key_of w)) (list_any (bytes_eq k) (map key_of ws)) e

all_before : (P : EntryData → Type 0) (vs ws : List EntryData) → AllByRecursion P (vs ++ ws) → AllByRecursion P vs
all_before P [] ws h = tt
all_before P (v ∷ vs) ws h = (h.0, all_before P vs ws h.1)

all_after : (P : EntryData → Type 0) (vs ws : List EntryData) → AllByRecursion P (vs ++ ws) → AllByRecursion P ws
all_after P [] ws h = h
all_after P (v ∷ vs) ws h = all_after P vs ws h.1

-- requests in which the entry of each index has the answers of the work of its key
module _ (keys : List (List ℕ)) (before : List ℕ → Answers) (library : List EntryData) where
  abbrev IsCited : EntryData → Type 0
  IsCited w = is_among keys (key_of w) ≡ true

  given_answers : (w : EntryData) → IsCited w → answers_by library keys (index_among bytes_eq keys (key_of w)) ≡ answers_at library (key_of w)
  given_answers w e = ap (λ o. option_map_or (answers_at library) o nothing_answered) (key_at_index keys (key_of w) e)

  items_given : (cs : List CitedWork) → AllByRecursion IsCited (map (λ c. c.work) cs) → map (item_with (answers_by library keys)) (map (item_at keys before) (map keyed cs)) ≡ map (item_at keys (answers_at library)) (map keyed cs)
  items_given [] h = refl
  items_given (c ∷ cs) h =
      λ i. record (item_at keys before (keyed c)) { entry = record { index = index_among bytes_eq keys (key_of c.work); answers = given_answers c.work h.0 i } } ∷ items_given cs h.1 i

  pub requests_given : (x : StyleContext) (n : ℕ) (ms : List (List CitedWork)) → AllByRecursion IsCited (works_in ms)
      → map (request_with (answers_by library keys)) (map (request_at x keys before) (enumerate_from n (map (map keyed) ms))) ≡ map (request_at x keys (answers_at library)) (enumerate_from n (map (map keyed) ms))
  requests_given x n [] h = refl
  requests_given x n (m ∷ ms) h =
      λ i. record (request_at x keys before (n, map keyed m)) { items = items_given m (all_before IsCited (map (λ c. c.work) m) (works_in ms) h) i }
      ∷ requests_given x (n + 1) ms (all_after IsCited (map (λ c. c.work) m) (works_in ms) h) i

-- what answers alike to itself, and to what two name where it does to each
answer_itself : (a : Answers) (v : Variable) → AnswerAlike a a v
answer_itself a (variables.Standard v) = λ form. refl
answer_itself a (variables.Number v) = refl
answer_itself a variables.Page = refl
answer_itself a (variables.Name v) = refl
answer_itself a (variables.Date v) = refl

pub alike_itself : (n : Named) (a : Answers) → AreAlike n a a
alike_itself n a = record { variables = λ v has. answer_itself a v; written = λ v has. refl; kinds = λ k has. refl; english = refl }

joined_alike : (m n : Named) (a b : Answers) → AreAlike m a b → AreAlike n a b → AreAlike (joined_named m n) a b
joined_alike m n a b h g = record {
  variables = λ v has. elim (Contains-append_cases m.variables n.variables v has) as (λ _. AnswerAlike a b v) [ inl one ↦ h.variables v one | inr other ↦ g.variables v other ];
  written = λ v has. elim (Contains-append_cases m.written n.written v has) as (λ _. a.written v ≡ b.written v) [ inl one ↦ h.written v one | inr other ↦ g.written v other ];
  kinds = λ k has. elim (Contains-append_cases m.kinds n.kinds k has) as (λ _. a.kind k ≡ b.kind k) [ inl one ↦ h.kinds k one | inr other ↦ g.kinds k other ];
  english = h.english;
}

-- what answers alike to a style does so to all requests of that style
pub named_alike : (x : StyleContext) (keys : List (List ℕ)) (answers : List ℕ → Answers) (a b : Answers) → AreAlike (style_named x.style) a b → (n : ℕ) (pss : List (List (Cite × List ℕ)))
    → AreAlike (requests_named (style_named x.style) (map (request_at x keys answers) (enumerate_from n pss))) a b
named_alike x keys answers a b h n [] = h
named_alike x keys answers a b h n (ps ∷ pss) =
    joined_alike (style_named x.style) (requests_named (style_named x.style) (map (request_at x keys answers) (enumerate_from (n + 1) pss))) a b h (named_alike x keys answers a b h (n + 1) pss)

-- the works of each index answer alike, where those of each cited key do
module _ (named : Named) (keys : List (List ℕ)) (first second : List EntryData) (agree : (k : List ℕ) → is_among keys k ≡ true → AreAlike named (answers_at first k) (answers_at second k)) where
  by_key : (o : Option (List ℕ)) → ((k : List ℕ) → o ≡ Some k → is_among keys k ≡ true)
      → AreAlike named (option_map_or (answers_at first) o nothing_answered) (option_map_or (answers_at second) o nothing_answered)
  by_key None among = alike_itself named nothing_answered
  by_key (Some k) among = agree k (among k refl)

  pub each_index : (n : ℕ) → AreAlike named (answers_by first keys n) (answers_by second keys n)
  each_index n = by_key (slice_get (once bytes_eq keys) n) (λ k e. at_once_among keys n k e)
