-- Ibid states: how a cite repeats the one before it.
use Rattle.std.specs.Prelude.{ℕ, Bool, not, ◌==◌, ◌&&◌, List, [], ◌∷◌, map, zip, is_none, if◌then◌else◌, Option, Some, None}
use Rattle.std.specs.List.{last_or}
use Rattle.driver_requests.specs.Cites.{Cite}
use Rattle.driver_requests.specs.Requests.{Item, same_locator}
use Rattle.rendering_taxonomy.specs.declared.cite.IbidState.{IbidState}
use Rattle.rendering_taxonomy.specs.declared.cite.IbidState.TheVariants as ibids

-- An item after one of the same entry: ibid with equal locators; different where this one has none; else ibid with locator.
abbrev pub ibid_of_same_entry : {P : Type 0} → (P → P → Bool) → Item P → Item P → IbidState
ibid_of_same_entry same last i =
    if same_locator same last i then ibids.Ibid
    else (if is_none i.locator then ibids.Different else ibids.IbidWithLocator)

-- an item after another one: different where they are of two entries
abbrev pub ibid_after_item : {P : Type 0} → (P → P → Bool) → Item P → Item P → IbidState
ibid_after_item same last i = if last.entry.index == i.entry.index then ibid_of_same_entry same last i else ibids.Different

-- an item after the one before it: different where there is none, or one that does not count
abbrev pub ibid_after : {P : Type 0} → (P → P → Bool) → (Item P → Bool) → Option (Item P) → Item P → IbidState
ibid_after same counts None i = ibids.Different
ibid_after same counts (Some last) i = if counts last then ibid_after_item same last i else ibids.Different

-- whether an item at an index in its request follows a request of several items: it is the first, and the item before it is not the first of
-- its own request
abbrev pub follows_several : ℕ → ℕ → Bool
follows_several index before = index == 0 && not (before == 0)

-- An item at an index in its request after the one before it, which has an index there as well: different where ibid is to follow citations of
-- one cite, and it follows one of several.
abbrev pub ibid_at : {P : Type 0} → (P → P → Bool) → (Item P → Bool) → Bool → ℕ → Option (ℕ × Item P) → Item P → IbidState
ibid_at same counts after_one index None i = ibids.Different
ibid_at same counts after_one index (Some (before, last)) i =
    if after_one && follows_several index before then ibids.Different else ibid_after same counts (Some last) i

-- the index of a cite in its request, and its item
abbrev pub place_of : {P : Type 0} → Cite P → ℕ × Item P
place_of c = (c.index, c.item)

-- a cite after the one before it, by its style
abbrev pub ibid_of : {P : Type 0} → (P → P → Bool) → (Item P → Bool) → Option (ℕ × Item P) → Cite P → IbidState
ibid_of same counts last c = ibid_at same counts c.context.style.citation.ibid_after_one c.index last c.item

-- before cites are disambiguated, hidden items do not count
abbrev pub counts_at_first : {P : Type 0} → Item P → Bool
counts_at_first i = not i.is_hidden

-- Each member of lists one after the other with the one before it, in its list or in the last list before that is not empty.
abbrev pub with_previous : {X : Type 0} → Option X → List (List X) → List (List (Option X × X))
with_previous last [] = []
with_previous last (xs ∷ xss) = zip (last ∷ map (λ x. Some x) xs) xs ∷ with_previous (last_or last xs) xss
