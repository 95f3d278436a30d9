-- Sections choose the same cited works of two libraries, in the same order, where each holds at both works of a key or at neither.
use Rattle.std.proofs.Common.{arith, ◌≡◌, ℕ, Bool, true, false, cond, List, [], ◌∷◌, ◌++◌, map, filter, refl, sym, ap, ◌∙◌}
use Rattle.std.specs.Prelude.{Contains}
use Rattle.std.specs.Option.{option_map_or}
use Rattle.std.specs.Str.{bytes_eq}
use Rattle.std.proofs.lemmas.List.{map-append}
use Rattle.std.proofs.lemmas.List.Elements.{Contains-append_right, filter-append}
use Rattle.literature_entries.specs.EntriesData.{EntryData}
use Rattle.literature.specs.Holding.{holds_at}
use Rattle.literature.specs.Keys.{with_key}
use Rattle.literature.specs.Trees.{Tree}
use Rattle.interop.specs.Library.{key_of}
use Rattle.driver_requests.specs.CitedEntries.{indices_among}
use Rattle.cite_requests.specs.Cited.{is_among}
use Rattle.cite_requests.specs.Sections.{chosen}
use Rattle.cite_requests.specs.Works.{is_same}
use Rattle.cite_requests.proofs.EntriesIndices.{AreListedWorks}
use Rattle.cite_requests.proofs.KeyLists.{filter_agrees, filter_turned, indices_mapped, indices_of_cited}

-- whether a selector holds at the work of a key
abbrev pub says : List EntryData → Tree → List ℕ → Bool
says library s k = option_map_or (holds_at s) (with_key key_of k library) false

kept_keys : (b : Bool) (w : EntryData) (ws : List EntryData) → map key_of (cond b (w ∷ ws) ws) ≡ cond b (key_of w ∷ map key_of ws) (map key_of ws)
kept_keys true w ws = refl
kept_keys false w ws = refl

filter_says : (library : List EntryData) (s : Tree) (ws : List EntryData) → AreListedWorks library ws → map key_of (filter (holds_at s) ws) ≡ filter (says library s) (map key_of ws)
filter_says library s [] h = refl
filter_says library s (w ∷ ws) h =
    let is : holds_at s w ≡ says library s (key_of w) = sym (ap (λ o. option_map_or (holds_at s) o false) h.0) in
    kept_keys (holds_at s w) w (filter (holds_at s) ws)
    ∙ (λ i. cond (is i) (key_of w ∷ filter_says library s ws h.1 i) (filter_says library s ws h.1 i))

-- Two libraries that list their works, which have those of some keys in one order.
module _ (keys : List (List ℕ)) (first second : List EntryData) (listed : AreListedWorks first first) (listed_too : AreListedWorks second second)
    (order : filter (is_among keys) (map key_of first) ≡ filter (is_among keys) (map key_of second)) where
  -- the works of those keys at which a selector holds
  abbrev AgreeAt : Tree → Type 0
  AgreeAt s = (k : List ℕ) → is_among keys k ≡ true → says first s k ≡ says second s k

  one_section : (s : Tree) → AgreeAt s → filter (is_among keys) (map key_of (filter (holds_at s) first)) ≡ filter (is_among keys) (map key_of (filter (holds_at s) second))
  one_section s agree =
      ap (filter (is_among keys)) (filter_says first s first listed)
      ∙ filter_turned (is_among keys) (says first s) (map key_of first)
      ∙ filter_agrees (is_among keys) (says first s) (says second s) agree (map key_of first)
      ∙ ap (filter (says second s)) order
      ∙ sym (filter_turned (is_among keys) (says second s) (map key_of second))
      ∙ sym (ap (filter (is_among keys)) (filter_says second s second listed_too))

  cited_parts : (vs ws : List EntryData) → filter (is_among keys) (map key_of (vs ++ ws)) ≡ filter (is_among keys) (map key_of vs) ++ filter (is_among keys) (map key_of ws)
  cited_parts vs ws = ap (filter (is_among keys)) (map-append key_of vs ws) ∙ filter-append (is_among keys) (map key_of vs) (map key_of ws)

  chosen_cited : (selectors : List Tree) → ((s : Tree) → Contains selectors s → AgreeAt s)
      → filter (is_among keys) (map key_of (chosen selectors first)) ≡ filter (is_among keys) (map key_of (chosen selectors second))
  chosen_cited [] agree = refl
  chosen_cited (s ∷ selectors) agree =
      let more = chosen_cited selectors (λ t has. agree t (Contains-append_right (s ∷ []) selectors t has)) in
      cited_parts (filter (holds_at s) first) (chosen selectors first)
      ∙ (λ i. one_section s (agree s (0, omega arith, refl)) i ++ more i)
      ∙ sym (cited_parts (filter (holds_at s) second) (chosen selectors second))

  -- the indices of the chosen works among cited ones of those keys
  pub chosen_alike : (selectors : List Tree) (cited cited_too : List EntryData) → map key_of cited ≡ keys → map key_of cited_too ≡ keys → ((s : Tree) → Contains selectors s → AgreeAt s)
      → indices_among is_same cited (chosen selectors first) ≡ indices_among is_same cited_too (chosen selectors second)
  chosen_alike selectors cited cited_too is too agree =
      indices_mapped key_of bytes_eq cited (chosen selectors first)
      ∙ (λ i. indices_among bytes_eq (is i) (map key_of (chosen selectors first)))
      ∙ indices_of_cited keys (map key_of (chosen selectors first))
      ∙ ap (indices_among bytes_eq keys) (chosen_cited selectors agree)
      ∙ sym (indices_of_cited keys (map key_of (chosen selectors second)))
      ∙ (λ i. indices_among bytes_eq (sym too i) (map key_of (chosen selectors second)))
      ∙ sym (indices_mapped key_of bytes_eq cited_too (chosen selectors second))
