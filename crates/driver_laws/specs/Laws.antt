-- What holds of all documents.
use Rattle.std.specs.Prelude.{◌≡◌, ℕ, ◌+◌, Bool, true, not, nat_eq, List, [], map, filter, length, zip, Contains, Option, Some}
use Rattle.std.specs.List.{IsDistinct, list_any, range_with_len}
use Rattle.rendering_entries.specs.Answers.{Answers}
use Rattle.rendering_style.specs.Styles.{Bibliography}
use Rattle.rendering_tree.specs.Trees.{nothing}
use Rattle.rendering_nodes.specs.Named.{AreAlike}
use Rattle.rendering_context.specs.Cites.{by_suffix}
use Rattle.driver_requests.specs.Requests.{Request}
use Rattle.driver_requests.specs.Suffixes.{Suffix}
use Rattle.driver_requests.specs.Order.{cited, is_index_in}
use Rattle.driver_disambiguation.specs.States.{state_of, suffix_by}
use Rattle.driver_names.specs.Prints as prints
use Rattle.driver_disambiguation.specs.Classes.{printed_under}
use Rattle.driver_disambiguation.specs.Rounds.{Disambiguation, disambiguated, after_rounds, round_given}
use Rattle.driver_rounds.specs.Documents.{Document, order_in, number_of}
use Rattle.driver.specs.Stages.{Final, finals_by_request, finals_of, first_print_of}
use Rattle.driver_rounds.specs.FirstPrints.{entry_of_first}
use Rattle.driver.specs.Finish.{citation_tree, finish, item_of_entry, item_trees, items_in, key_at, keys_in}
use Rattle.driver.specs.Alike.{document_with, document_named}

-- the index of the entry of a cite
abbrev pub entry_final : {P : Type 0} → Final P → ℕ
entry_final f = entry_of_first (first_print_of f.arranged)

-- All cites of an entry have one number, and one state.
abbrev pub EntriesHaveOneNumberAndState : Type 0 → Type 0
EntriesHaveOneNumberAndState P =
    (same : P → P → Bool) (d : Document P) (f g : Final P)
    → Contains (finals_of same d) f → Contains (finals_of same d) g → entry_final f ≡ entry_final g
    → (f.properties.citation_number ≡ g.properties.citation_number) × (f.properties.disambiguation ≡ g.properties.disambiguation)

-- The numbers of the cited entries, taken in the order of these, count on from the offset.
abbrev pub NumbersAreConsecutive : Type 0 → Type 0
NumbersAreConsecutive P = (d : Document P) → map (number_of d) (order_in d) ≡ range_with_len d.offset (length (order_in d))

-- The order has each cited entry once, and no other.
abbrev pub OrderHasTheCited : Type 0 → Type 0
OrderHasTheCited P =
    (d : Document P)
    → IsDistinct nat_eq (order_in d) × ((entry : ℕ) → is_index_in (order_in d) entry ≡ is_index_in (cited d.requests) entry)

-- Where the style has a bibliography, this has one item for each cited entry, in their order.
abbrev pub ItemsAreTheOrder : Type 0 → Type 0
ItemsAreTheOrder P =
    (same : P → P → Bool) (d : Document P) (b : Bibliography)
    → d.bibliography_context.style.bibliography ≡ Some b
    → (length (items_in d (finals_of same d) b) ≡ length (order_in d))
    × (map (item_of_entry d (finals_of same d)) (order_in d) ≡ map (λ tree. Some tree) (item_trees d (finals_of same d)))

-- There is one key for each cited entry, in their order: keys and items go together one by one.
abbrev pub KeysAreTheOrder : Type 0 → Type 0
KeysAreTheOrder P = (d : Document P) → map (key_at d) (order_in d) ≡ map (λ key. Some key) (keys_in d)

-- whether all items of a request are hidden
abbrev pub is_all_hidden : {P : Type 0} → Request P → Bool
is_all_hidden r = not (list_any (λ i. not i.is_hidden) r.items)

-- A request of hidden items alone prints nothing.
abbrev pub HiddenItemsPrintNothing : Type 0 → Type 0
HiddenItemsPrintNothing P =
    (same : P → P → Bool) (d : Document P) (r : Request P) (fs : List (Final P))
    → Contains (zip d.requests (finals_by_request same d)) (r, fs) → is_all_hidden r ≡ true → citation_tree r fs ≡ nothing

-- Year suffixes are final: what has one after some rounds has the same after one more.
abbrev pub YearSuffixesAreFinal : Type 0
YearSuffixesAreFinal =
    (adds_names : Bool) (n : ℕ) (cites : List prints.Candidate) (rounds entry index : ℕ)
    → state_of (after_rounds rounds adds_names n cites).states entry ≡ by_suffix index
    → state_of (after_rounds (rounds + 1) adds_names n cites).states entry ≡ by_suffix index

-- the year suffix of an entry
abbrev pub suffix_of : Disambiguation → ℕ → Option Suffix
suffix_of t entry = suffix_by (state_of t.states entry) entry t.given

-- No two entries have the same year suffix of one class in one round.
abbrev pub YearSuffixesAreDistinct : Type 0
YearSuffixesAreDistinct =
    (adds_names : Bool) (n : ℕ) (cites : List prints.Candidate) (entry other : ℕ) (s : Suffix)
    → suffix_of (disambiguated adds_names n cites) entry ≡ Some s → suffix_of (disambiguated adds_names n cites) other ≡ Some s → entry ≡ other

-- A round that gives nothing changes nothing.
abbrev pub RoundsThatGiveNothingChangeNothing : Type 0
RoundsThatGiveNothingChangeNothing =
    (adds_names : Bool) (n : ℕ) (cites : List prints.Candidate) (rounds : ℕ)
    → round_given adds_names rounds (map (printed_under (after_rounds rounds adds_names n cites).states) cites) ≡ []
    → after_rounds (rounds + 1) adds_names n cites ≡ after_rounds rounds adds_names n cites

-- Entries that are wanted and not cited change nothing.
abbrev pub UncitedEntriesChangeNothing : Type 0 → Type 0
UncitedEntriesChangeNothing P =
    (same : P → P → Bool) (d : Document P)
    → finish same (record d { wanted = filter (is_index_in (cited d.requests)) d.wanted }) ≡ finish same d

-- What cited entries answer to what no style names changes nothing.
abbrev pub AlikeEntriesGiveOne : Type 0 → Type 0
AlikeEntriesGiveOne P =
    (same : P → P → Bool) (d : Document P) (a b : ℕ → Answers)
    → ((entry : ℕ) → AreAlike (document_named d) (a entry) (b entry))
    → finish same (document_with a d) ≡ finish same (document_with b d)
