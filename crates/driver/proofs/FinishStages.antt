-- The stages of a document, from what each of them gives.
use Rattle.std.proofs.Common.{◌≡◌, ℕ, suc, ◌+◌, ◌*◌, ◌≤◌, Bool, true, false, ◌||◌, List, [], ◌∷◌, ◌++◌, fold, length, map, refl, sym, ap, ap₂, subst, ◌∙◌, arith, Option, Some, None, Result, Ok, Err}
use Rattle.std.specs.Prelude.{filter_map, find, if◌then◌else◌, zip}
use Rattle.std.specs.List.{enumerate_from, flat_map, last_or, range_with_len}
use Rattle.std.specs.Option.{option_and_then, option_map, option_map_or, unwrap_or}
use Rattle.std.proofs.Math.Path.{fun_ext}
use Rattle.std.proofs.lemmas.List.{length-append, length-map, length-replicate}
use Rattle.std.proofs.lemmas.List.FromFn.{length-enumerate_from}
use Rattle.laws.specs.Results.{EndsWith, Gives, GivesBack}
use Rattle.rendering_context.specs.Cites.{undisambiguated}
use Rattle.rendering_entries.specs.Answers.{Answers}
use Rattle.driver_requests.specs.Cites.{Numbered, cite_at, cites_after, cites_of}
use Rattle.driver_requests.specs.Errors.{Overflow, overflow}
use Rattle.driver_requests.specs.Order.{cited, numbers_overflow}
use Rattle.driver_requests.specs.Positions.{with_previous}
use Rattle.driver_requests.specs.Requests.{Request}
use Rattle.driver_requests.specs.Views.{request_view}
use Rattle.driver_requests.specs.declared.request.CitationRequest.{CitationRequest}
use Rattle.driver_names.specs.Prints.{Candidate, GivenState}
use Rattle.driver_disambiguation.specs.Classes.{printed_under}
use Rattle.driver_disambiguation.specs.States.{States, joined_for, states_after, suffixes_overflow}
use Rattle.driver_disambiguation.specs.Rounds as rounds
use Rattle.driver_disambiguation.specs.Rounds.{Disambiguation, after_round, disambiguated}
use Rattle.driver_rounds.specs.Documents.{Document, items_count, order_in}
use Rattle.driver.specs.FinalPrints.{finals_from, firsts, listed_as}
use Rattle.driver.specs.Finish.{effort_bound, finish, is_final_of, item_of_entry, rendered_from}
use Rattle.driver_rounds.specs.OrderAndNumbers.{KnownCites, known_in, known_of}
use Rattle.driver.specs.Listing.{bibliography_from, item_first, item_listed, rendered_of}
use Rattle.driver.specs.Stages.{Final, finals_in}
use Rattle.driver_rounds.specs.FirstPrints.{FirstNaming, adds_names, candidate, disambiguated_in, first_print, first_prints_in, first_naming, first_states, first_states_in, flattened, named_after, named_in, numbered_after, numbered_in, with_first_names}
use Rattle.driver_rounds.specs.Naming.{first_effort}
use Rattle.driver_rounds.proofs.KnownIndices.{passed}
use Rattle.driver_rounds.proofs.ListsGrown.{flat_maps}
use Rattle.driver.proofs.Maps.{map_map, maps_of_maps}

-- what is known of cites, where no number overflows
pub known_parts : {P : Type 0} (same : P → P → Bool) (d : Document P) (k : KnownCites P) → known_in same d ≡ Ok k → (numbers_overflow d.offset (cited d.requests) ≡ false) × (known_of same d ≡ k)
known_parts same d k e = passed (numbers_overflow d.offset (cited d.requests)) overflow (known_of same d) k e

-- first prints are those of the cites with their numbers
pub firsts_are : {P : Type 0} (same : P → P → Bool) (d : Document P) → first_prints_in same d ≡ firsts (named_in same d)
firsts_are {P} same d = maps_of_maps (first_print {P = P}) (named_after same d) (with_previous None (cites_of d.requests))

adds_alike : {T P : Type 0} (answers : T → Answers) (p q : T → ℕ) (rs : List (CitationRequest T P)) → adds_names (map (request_view {P = P} p answers) rs) ≡ adds_names (map (request_view {P = P} q answers) rs)
adds_alike answers p q [] = refl
adds_alike answers p q (r ∷ rs) = refl

-- the states of a document
pub states_are : {T P : Type 0} (same : P → P → Bool) (answers : T → Answers) (index : T → ℕ) (rs : List (CitationRequest T P)) (d : Document P) (count : ℕ) (nss : List (List (Numbered P))) → d.requests ≡ map (request_view index answers) rs
    → length (cited d.requests) ≡ count → named_in same d ≡ nss
    → disambiguated (adds_names (map (request_view {P = P} (λ e. 0) answers) rs)) count (map (λ (n : Numbered P). candidate (first_print n)) (flattened nss)) ≡ disambiguated_in d (first_prints_in same d)
states_are {T} {P} same answers index rs d count nss requests many are =
    let cites : map (λ (n : Numbered P). candidate (first_print n)) (flattened nss) ≡ map candidate (flattened (first_prints_in same d)) =
    ap (λ (mss : List (List (Numbered P))). map (λ (n : Numbered P). candidate (first_print n)) (flattened mss)) (sym are)
    ∙ sym (map_map (candidate {P = P}) (first_print {P = P}) (flattened (named_in same d)))
    ∙ ap (map candidate) (sym (flat_maps (first_print {P = P}) (named_in same d)))
    ∙ ap (λ bss. map candidate (flattened bss)) (sym (firsts_are same d)) in
    let adds : adds_names (map (request_view {P = P} (λ e. 0) answers) rs) ≡ adds_names d.requests = adds_alike answers (λ e. 0) index rs ∙ ap adds_names (sym requests) in
    λ k. disambiguated (adds k) (sym many k) (cites k)

states_after_long : (gs : List GivenState) (ms : States) → length (states_after gs ms) ≡ length ms
states_after_long gs ms = length-map (enumerate_from 0 ms) (λ p. unwrap_or (joined_for p.0 gs) p.1) ∙ length-enumerate_from 0 ms

rounds_long : (adds : Bool) (cites : List Candidate) (t : Disambiguation) (ns : List ℕ) → length (fold (after_round adds cites) t ns).states ≡ length t.states
rounds_long adds cites t [] = refl
rounds_long adds cites t (n ∷ ns) = rounds_long adds cites (after_round adds cites t n) ns ∙ states_after_long (rounds.round_given adds n (map (printed_under t.states) cites)) t.states

-- there is a state for each cited entry
pub states_long : (adds : Bool) (n : ℕ) (cites : List Candidate) → length (disambiguated adds n cites).states ≡ n
states_long adds n cites = rounds_long adds cites (rounds.before_rounds n) (range_with_len 0 3) ∙ length-replicate n undisambiguated

-- numbers that overflow
pub numbers_end : {X Y : Type 0} (r : Option Overflow) (b s : Bool) (x : X) (y : Y) → EndsWith r (if b then Err overflow else Ok x) → EndsWith r (if b || s then Err overflow else Ok y)
numbers_end None b s x y h = tt
numbers_end (Some o) true s x y h =
    let same : overflow ≡ o = cc in
    ap (λ q. Err q) same
numbers_end (Some o) false s x y h = absurd cc

-- year suffixes that overflow
pub suffixes_end : {X Y : Type 0} (r : Option Overflow) (b s t : Bool) (x : X) (y : Y) → s ≡ t → EndsWith r (if s then Err overflow else Ok x) → EndsWith r (if b || t then Err overflow else Ok y)
suffixes_end None b s t x y e h = tt
suffixes_end (Some o) true true t x y e h =
    let same : overflow ≡ o = cc in
    ap (λ q. Err q) same
suffixes_end (Some o) false true true x y e h =
    let same : overflow ≡ o = cc in
    ap (λ q. Err q) same
suffixes_end (Some o) false true false x y e h = absurd cc
suffixes_end (Some o) b false t x y e h = absurd cc

-- a value that is given back is what is given
pub back_gives : {E F X Y : Type 0} (refusal : E → Option F) (view : X → Y) (r : Result X E) (v : Y) (read : Result Y F) → read ≡ Ok v → GivesBack refusal view r v → Gives refusal view r read
back_gives refusal view (Ok x) v read e h = e ∙ ap (λ y. Ok y) (sym h)
back_gives refusal view (Err f) v read e h = subst (λ o. EndsWith o read) (sym h) tt

pub and_then_map : {A B C : Type 0} (g : B → Option C) (f : A → B) (o : Option A) → option_and_then (λ (a : A). g (f a)) o ≡ option_and_then g (option_map f o)
and_then_map g f None = refl
and_then_map g f (Some a) = refl

items_alike : {P : Type 0} (d : Document P) (fs : List (Final P)) (index : ℕ) → item_of_entry d fs index ≡ item_first d.bibliography_context fs index
items_alike {P} d fs index = and_then_map (item_listed d.bibliography_context) (listed_as {P = P}) (find (is_final_of index) fs)

-- what is rendered of a document
pub rendered_is : {P : Type 0} (d : Document P) (order : List ℕ) (fss : List (List (Final P))) → order_in d ≡ order → rendered_from d fss ≡ rendered_of d.bibliography_context order d.requests fss
rendered_is {P} d order fss are =
    let items : filter_map (item_of_entry d (flattened fss)) (order_in d) ≡ filter_map (item_first d.bibliography_context (flattened fss)) order =
    ap (λ (f : ℕ → Option _). filter_map f (order_in d)) (fun_ext (items_alike d (flattened fss))) ∙ ap (filter_map (item_first d.bibliography_context (flattened fss))) are in
    λ k. record {
      bibliography = option_map (λ b. bibliography_from b (items k)) d.bibliography_context.style.bibliography;
      citations = (rendered_from d fss).citations;
    }

-- what finishing gives where nothing overflows
pub finish_is : {P : Type 0} (same : P → P → Bool) (d : Document P) (order : List ℕ) (nss : List (List (Numbered P))) (t : Disambiguation) → numbers_overflow d.offset (cited d.requests) ≡ false → order_in d ≡ order → named_in same d ≡ nss
    → disambiguated_in d (first_prints_in same d) ≡ t → suffixes_overflow t.given ≡ false
    → finish same d ≡ Ok (rendered_of d.bibliography_context order d.requests (finals_from same t d.requests (firsts nss)))
finish_is {P} same d order nss t fits in_order are states year_suffixes =
    let bs = first_prints_in same d in
    let none : (numbers_overflow d.offset (cited d.requests) || suffixes_overflow (disambiguated_in d bs).given) ≡ false = (λ k. fits k || suffixes_overflow (states k).given) ∙ year_suffixes in
    let prints : bs ≡ firsts nss = firsts_are same d ∙ ap firsts are in
    (λ k. if none k then Err overflow else Ok (rendered_from d (finals_in same d bs (disambiguated_in d bs))))
    ∙ ap (λ r. Ok r) (rendered_is d order (finals_in same d bs (disambiguated_in d bs)) in_order ∙ (λ k. rendered_of d.bibliography_context order d.requests (finals_from same (states k) d.requests (prints k))))

zip_long : {X : Type 0} (last : Option X) (xs : List X) → length (zip (last ∷ map (λ x. Some x) xs) xs) ≡ length xs
zip_long last [] = refl
zip_long last (x ∷ xs) = ap suc (zip_long (Some x) xs)

previous_long : {X Y : Type 0} (f : Option X × X → Y) (last : Option X) (xss : List (List X)) → length (flattened (map (map f) (with_previous last xss))) ≡ length (flattened xss)
previous_long f last [] = refl
previous_long f last (xs ∷ xss) =
    length-append (map f (zip (last ∷ map (λ x. Some x) xs) xs)) (flattened (map (map f) (with_previous (last_or last xs) xss)))
    ∙ ap₂ (λ m n. m + n) (length-map (zip (last ∷ map (λ x. Some x) xs) xs) f ∙ zip_long last xs) (previous_long f (last_or last xs) xss)
    ∙ sym (length-append xs (flattened xss))

cites_long : {P : Type 0} (earlier rs : List (Request P)) → length (flattened (cites_after earlier rs)) ≡ length (flat_map (λ (r : Request P). r.items) rs)
cites_long earlier [] = refl
cites_long {P} earlier (r ∷ rs) =
    length-append (map (cite_at earlier r) (enumerate_from 0 r.items)) (flattened (cites_after (earlier ++ r ∷ []) rs))
    ∙ ap₂ (λ m n. m + n) (length-map (enumerate_from 0 r.items) (cite_at earlier r) ∙ length-enumerate_from 0 r.items) (cites_long (earlier ++ r ∷ []) rs)
    ∙ sym (length-append r.items (flat_map (λ (q : Request P). q.items) rs))

-- there is a cite for each item
pub all_long : {P : Type 0} (same : P → P → Bool) (d : Document P) → length (flattened (numbered_in same d)) ≡ items_count d
all_long same d = previous_long (numbered_after same d) None (cites_of d.requests) ∙ cites_long [] d.requests

named_long : {P : Type 0} (same : P → P → Bool) (d : Document P) → length (flattened (named_in same d)) ≡ items_count d
named_long same d = previous_long (named_after same d) None (cites_of d.requests) ∙ cites_long [] d.requests

listing_at_most : {B : Type 0} (m n : ℕ) (b : Option B) → m ≡ n → option_map_or (λ s. m) b 0 ≡ option_map_or (λ s. n) b 0
listing_at_most m n None e = refl
listing_at_most m n (Some b) e = e

-- the cites of the code are as many as the items
pub runs_many : {P : Type 0} (same : P → P → Bool) (d : Document P) (nss : List (List (Numbered P))) → numbered_in same d ≡ nss → length (flattened nss) ≡ items_count d
runs_many {P} same d nss are = ap (λ (mss : List (List (Numbered P))). length (flattened mss)) (sym are) ∙ all_long same d

-- so they are with their first names
pub named_many : {P : Type 0} (same : P → P → Bool) (d : Document P) (nss : List (List (Numbered P))) → named_in same d ≡ nss → length (flattened nss) ≡ items_count d
named_many {P} same d nss are = ap (λ (mss : List (List (Numbered P))). length (flattened mss)) (sym are) ∙ named_long same d

pub naming_alike : {T P : Type 0} (answers : T → Answers) (p q : T → ℕ) (rs : List (CitationRequest T P)) → first_naming (map (request_view {P = P} p answers) rs) ≡ first_naming (map (request_view {P = P} q answers) rs)
naming_alike answers p q [] = refl
naming_alike answers p q (r ∷ rs) = refl

-- the cites of a document with their first names, from those with their numbers
pub named_are : {T P : Type 0} (same : P → P → Bool) (answers : T → Answers) (index : T → ℕ) (rs : List (CitationRequest T P)) (d : Document P) (count : ℕ) (nss mss : List (List (Numbered P))) (ss : Option States)
    → d.requests ≡ map (request_view index answers) rs → length (cited d.requests) ≡ count → numbered_in same d ≡ nss → ss ≡ first_states (first_naming (map (request_view {P = P} (λ e. 0) answers) rs)) count (flattened nss)
    → mss ≡ map (map (with_first_names ss)) nss → named_in same d ≡ mss
named_are {T} {P} same answers index rs d count nss mss ss requests many are states made =
    let rule : first_naming (map (request_view {P = P} (λ e. 0) answers) rs) ≡ first_naming d.requests = naming_alike answers (λ e. 0) index rs ∙ ap first_naming (sym requests) in
    let same_states : ss ≡ first_states_in same d = states ∙ (λ k. first_states (rule k) (sym many k) (flattened (sym are k))) in
    sym (made ∙ (λ k. map (map (with_first_names (same_states k))) (sym are k)) ∙ sym (maps_of_maps (with_first_names (first_states_in same d)) (numbered_after same d) (with_previous None (cites_of d.requests))))

-- how much is done, part by part
pub effort_is : {P : Type 0} (d : Document P) (order : List ℕ) (rule : FirstNaming) (start named first after last k l m n : ℕ) → start ≡ 0 → k ≡ items_count d → l ≡ items_count d → m ≡ items_count d → n ≡ items_count d → length order ≡ length (cited d.requests)
    → rule ≡ first_naming d.requests → named ≤ start + first_effort rule k → first ≤ named + l → after ≤ first + 3 * m → last ≤ after + n + option_map_or (λ s. length order) d.bibliography_context.style.bibliography 0 → last ≤ effort_bound d
effort_is d order rule start named first after last k l m n none is_k is_l is_m is_n many is_rule z a b c =
    let asked : first_effort rule k ≡ first_effort (first_naming d.requests) (items_count d) = λ j. first_effort (is_rule j) (is_k j) in
    let listed = listing_at_most (length order) (length (cited d.requests)) d.bibliography_context.style.bibliography many in
    omega (arith, none, is_l, is_m, is_n, listed, asked, z, a, b, c)
