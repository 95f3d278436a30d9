-- The indices and the numbers of cited entries.
use Rattle.std.proofs.Common.{◌≡◌, ℕ, ◌+◌, ◌<◌, nat_eq, nat_lt, Bool, true, false, All, List, [], ◌∷◌, ◌++◌, length, map, get_or, refl, sym, ap, ap₂, subst, ◌∙◌, arith, zero-add, Option, Some, None, Vec, Ok, Err}
use Rattle.std.specs.Prelude.{if◌then◌else◌, slice_index}
use Rattle.std.specs.Cmp.{IsEquivalence}
use Rattle.std.specs.List.{flat_map, range_with_len}
use Rattle.std.proofs.lemmas.List.{length-map, map-append}
use Rattle.std.proofs.lemmas.List.Elements.{All-cons, All-head, All-nil, All-tail}
use Rattle.std.proofs.lemmas.List.FromFn.{get_or-map-range_with_len, length-range_with_len}
use Rattle.laws.specs.Results.{EndsWith}
use Rattle.rendering_entries.specs.Answers.{Answers}
use Rattle.driver_requests.specs.CitedEntries.{once, index_among}
use Rattle.driver_requests.specs.Order.{cited, number_in, numbers_overflow}
use Rattle.driver_requests.specs.Indices.{runs}
use Rattle.driver_requests.specs.Requests.{Item, Request}
use Rattle.driver_requests.specs.Views.{entries_in, entries_of, entry_of_item, item_view, request_view}
use Rattle.driver_requests.specs.declared.item.CitationItem.{CitationItem}
use Rattle.driver_requests.specs.declared.request.CitationRequest.{CitationRequest}
use Rattle.driver_requests.proofs.IndicesOnce.{indices_once}
use Rattle.driver_rounds.specs.Numbering.{entry_at, entries_by_request}
use Rattle.driver_rounds.specs.Rounding.{AreWithin}
use Rattle.driver_rounds.specs.declared.cite.NumberedCite.{NumberedCite}

indices_of_items : {T P : Type 0} (index : T → ℕ) (answers : T → Answers) (is : List (CitationItem T P)) → map (λ (i : Item P). i.entry.index) (map (item_view index answers) is) ≡ map index (map entry_of_item is)
indices_of_items index answers [] = refl
indices_of_items index answers (i ∷ is) = ap (λ ps. index i.entry.now ∷ ps) (indices_of_items index answers is)

indices_of_all : {T P : Type 0} (index : T → ℕ) (answers : T → Answers) (rs : List (CitationRequest T P)) → flat_map (λ (r : Request P). map (λ (i : Item P). i.entry.index) r.items) (map (request_view index answers) rs) ≡ map index (entries_in rs)
indices_of_all index answers [] = refl
indices_of_all index answers (r ∷ rs) = ap₂ (λ ps qs. ps ++ qs) (indices_of_items index answers r.items.items) (indices_of_all index answers rs) ∙ sym (map-append index (entries_of r) (entries_in rs))

-- the cited entries by first cite
pub cited_is : {T P : Type 0} {eq : T → T → Bool} (laws : IsEquivalence eq) (answers : T → Answers) (rs : List (CitationRequest T P))
    → cited (map (request_view (index_among eq (entries_in rs)) answers) rs) ≡ range_with_len 0 (length (once eq (entries_in rs)))
cited_is {eq = eq} laws answers rs = ap (once nat_eq) (indices_of_all (index_among eq (entries_in rs)) answers rs) ∙ indices_once laws (entries_in rs)

-- the number at an index
pub number_is : (offset : ℕ) (order numbers : List ℕ) (p : ℕ) → map (number_in offset order) (range_with_len 0 (length order)) ≡ numbers → p < length numbers → slice_index numbers p ≡ number_in offset order p
number_is offset order numbers p e less =
    let long : p < length order = omega (arith, less, sym (ap length e) ∙ length-map (range_with_len 0 (length order)) (number_in offset order) ∙ length-range_with_len 0 (length order)) in
    ap (λ ns. get_or ns p 0) (sym e) ∙ get_or-map-range_with_len (number_in offset order) 0 (length order) p p 0 long (zero-add p)

-- there are as many numbers as entries in the order
pub numbers_long : (offset : ℕ) (order numbers : List ℕ) → map (number_in offset order) (range_with_len 0 (length order)) ≡ numbers → length numbers ≡ length order
numbers_long offset order numbers e = sym (ap length e) ∙ length-map (range_with_len 0 (length order)) (number_in offset order) ∙ length-range_with_len 0 (length order)

-- whether numbers overflow is a matter of how many they are
pub overflow_alike : (offset : ℕ) (ps qs : List ℕ) → length ps ≡ length qs → numbers_overflow offset ps ≡ numbers_overflow offset qs
overflow_alike offset ps qs e = ap (λ n. nat_lt 2147483647 (offset + n)) e

-- what was not refused
pub passed : {F X : Type 0} (b : Bool) (f : F) (x y : X) → (if b then Err f else Ok x) ≡ Ok y → (b ≡ false) × (x ≡ y)
passed true f x y e = absurd cc
passed false f x y e = (refl, cc)

-- two that are refused alike
pub ends_alike : {F X Y : Type 0} (r : Option F) (f : F) (b c : Bool) (x : X) (y : Y) → b ≡ c → EndsWith r (if b then Err f else Ok x) → EndsWith r (if c then Err f else Ok y)
ends_alike None f b c x y e h = tt
ends_alike (Some g) f true true x y e h =
    let same : f ≡ g = cc in
    ap (λ q. Err q) same
ends_alike (Some g) f true false x y e h = absurd cc
ends_alike (Some g) f false true x y e h = absurd cc
ends_alike (Some g) f false false x y e h = absurd cc

-- each run of indices is as long as its request
pub indices_long : {T P A : Type 0} (index : T → ℕ) (rs : List (CitationRequest T P)) (ps : List (Vec ℕ A)) → runs ps ≡ map (λ r. map index (entries_of r)) rs → map (λ (v : Vec ℕ A). length v.items) ps ≡ map (λ (r : CitationRequest T P). length r.items.items) rs
indices_long index [] [] e = refl
indices_long index [] (p ∷ ps) e = absurd cc
indices_long index (r ∷ rs) [] e = absurd cc
indices_long {A = A} index (r ∷ rs) (p ∷ ps) e =
    let first : p.items ≡ map index (entries_of r) = cc in
    let others : runs ps ≡ map (λ q. map index (entries_of q)) rs = cc in
    ap₂ (λ n ns. n ∷ ns) (ap length first ∙ length-map (map entry_of_item r.items.items) index ∙ length-map r.items.items entry_of_item) (indices_long index rs ps others)

-- there are as many runs as requests
pub runs_long : {T P A : Type 0} (index : T → ℕ) (rs : List (CitationRequest T P)) (ps : List (Vec ℕ A)) → runs ps ≡ map (λ r. map index (entries_of r)) rs → length ps ≡ length rs
runs_long {A = A} index rs ps e = sym (length-map ps (λ (v : Vec ℕ A). v.items)) ∙ ap length e ∙ length-map rs (λ r. map index (entries_of r))

run_lengths : {A : Type 0} (ps : List (Vec ℕ A)) → map (λ (v : Vec ℕ A). length v.items) ps ≡ map length (runs ps)
run_lengths [] = refl
run_lengths (p ∷ ps) = ap (λ ns. length p.items ∷ ns) (run_lengths ps)

entry_lengths : {A : Type 0} (vs : List (Vec NumberedCite A)) → map (λ (v : Vec NumberedCite A). length v.items) vs ≡ map length (entries_by_request vs)
entry_lengths [] = refl
entry_lengths (v ∷ vs) = ap₂ (λ n ns. n ∷ ns) (sym (length-map v.items entry_at)) (entry_lengths vs)

-- cites are as many as their indices, request by request
pub cites_long : {A B : Type 0} (vs : List (Vec NumberedCite A)) (ps : List (Vec ℕ B)) (ns : List ℕ) → entries_by_request vs ≡ runs ps → map (λ (v : Vec ℕ B). length v.items) ps ≡ ns → map (λ (v : Vec NumberedCite A). length v.items) vs ≡ ns
cites_long vs ps ns e h = entry_lengths vs ∙ ap (map length) e ∙ sym (run_lengths ps) ∙ h

entries_within : (n : ℕ) (cs : List NumberedCite) → All (λ p. p < n) (map entry_at cs) → All (λ (c : NumberedCite). c.entry < n) cs
entries_within n [] h = All-nil (λ (c : NumberedCite). c.entry < n)
entries_within n (c ∷ cs) h =
    All-cons (λ (m : NumberedCite). m.entry < n) c cs (All-head (λ p. p < n) (entry_at c) (map entry_at cs) h) (entries_within n cs (All-tail (λ p. p < n) (entry_at c) (map entry_at cs) h))

all_within : {A : Type 0} (n : ℕ) (vs : List (Vec NumberedCite A)) → All (All (λ p. p < n)) (entries_by_request vs) → AreWithin n vs
all_within {A} n [] h = All-nil (λ (w : Vec NumberedCite A). All (λ (m : NumberedCite). m.entry < n) w.items)
all_within {A} n (v ∷ vs) h =
    All-cons (λ (w : Vec NumberedCite A). All (λ (m : NumberedCite). m.entry < n) w.items) v vs (entries_within n v.items (All-head (All (λ p. p < n)) (map entry_at v.items) (entries_by_request vs) h))
    (all_within n vs (All-tail (All (λ p. p < n)) (map entry_at v.items) (entries_by_request vs) h))

-- cites are of the entries whose indices they have
pub cites_within : {A : Type 0} (n : ℕ) (vs : List (Vec NumberedCite A)) (ps : List (List ℕ)) → entries_by_request vs ≡ ps → All (All (λ p. p < n)) ps → AreWithin n vs
cites_within n vs ps e h = all_within n vs (subst (λ (qs : List (List ℕ)). All (All (λ p. p < n)) qs) (sym e) h)
