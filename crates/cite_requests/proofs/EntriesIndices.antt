-- Entries of one library are the same where their keys are, so they have the indices of the works that they are.
use Rattle.std.proofs.Common.{◌≡◌, ℕ, suc, ◌+◌, Bool, true, false, not, nat_lt, List, [], ◌∷◌, ◌++◌, map, filter, filter_map, find, length, cond, ◌||◌, refl, sym, ap, subst, ◌∙◌, Option, Some, None, true≢false}
use Rattle.std.specs.Bool.{Decides}
use Rattle.std.specs.List.{position_or_len, list_any}
use Rattle.std.specs.Option.{unwrap_or}
use Rattle.std.specs.Prelude.{position, ◌&&◌}
use Rattle.literature_entries.specs.Views.{key_view}
use Rattle.cite_requests.proofs.WorksKeys.{key_is}
use Rattle.std.specs.Str.{bytes_eq}
use Rattle.std.proofs.lemmas.Bool.Decides.{Decides-like, same_from_decides}
use Rattle.std.proofs.lemmas.Slice.Eq.{bytes_eq-Decides}
use Rattle.literature.specs.Keys.{with_key, are_distinct}
use Rattle.literature_entries.specs.EntriesData.{EntryData, entry_view}
use Rattle.literature_entries.specs.declared.entry.Entry.{Entry}
use Rattle.literature_entries.specs.contracts.entry.EntryPartialEq.TheImpl as entry
use Rattle.literature_entries.proofs.EntriesDataEquality.{Shows-Entry}
use Rattle.interop.specs.Library.{key_of}
use Rattle.driver_requests.specs.CitedEntries.{once, index_among, indices_among}
use Rattle.cite_requests.specs.Works.{is_same}

-- what is found passes the test
passes_if : (p : EntryData → Bool) (x : EntryData) (xs : List EntryData) (w : EntryData) → (find p xs ≡ Some w → p w ≡ true) → (b : Bool) → p x ≡ b → cond b (Some x) (find p xs) ≡ Some w → p w ≡ true
passes_if p x xs w more true is found = ap p (sym (ap (λ o. unwrap_or o x) found)) ∙ is
passes_if p x xs w more false is found = more found

found_passes : (p : EntryData → Bool) (xs : List EntryData) (w : EntryData) → find p xs ≡ Some w → p w ≡ true
found_passes p [] w found = absurd (true≢false (sym (ap (λ (o : Option EntryData). is_there o) found)))
  where
    is_there : Option EntryData → Bool
    is_there None = false
    is_there (Some x) = true
found_passes p (x ∷ xs) w found = passes_if p x xs w (found_passes p xs w) (p x) refl found

-- an index that was found, before others
abbrev extended : Option ℕ → List ℕ → List ℕ
extended None ys = ys
extended (Some y) ys = y ∷ ys

extends : {X : Type 0} (f : X → Option ℕ) (x : X) (xs : List X) (o : Option ℕ) → f x ≡ o → filter_map f (x ∷ xs) ≡ extended o (filter_map f xs)
extends f x xs None is = rw is refl
extends f x xs (Some y) is = rw is refl

module _ (library : List EntryData) where
  -- a work that the library has under its key
  abbrev pub IsListed : EntryData → Type 0
  IsListed w = with_key key_of (key_of w) library ≡ Some w

  -- what is found under a key has that key, and is listed
  pub found_key : (k : List ℕ) (w : EntryData) → with_key key_of k library ≡ Some w → k ≡ key_of w
  found_key k w found = (bytes_eq-Decides k (key_of w)).0 (found_passes (λ x. bytes_eq k (key_of x)) library w found)

  pub found_listed : (k : List ℕ) (w : EntryData) → with_key key_of k library ≡ Some w → IsListed w
  found_listed k w found = subst (λ (n : List ℕ). with_key key_of n library ≡ Some w) (found_key k w found) found

  same_key : (v w : EntryData) → IsListed v → IsListed w → key_of v ≡ key_of w → v ≡ w
  same_key v w hv hw k = ap (λ o. unwrap_or o v) (sym hv ∙ ap (λ (n : List ℕ). with_key key_of n library) k ∙ hw)

  keys_decide : (v w : EntryData) → IsListed v → IsListed w → Decides (is_same v w) (v ≡ w)
  keys_decide v w hv hw = Decides-like (is_same v w) (same_key v w hv hw) (λ e. ap key_of e) (bytes_eq-Decides (key_of v) (key_of w))

  pub same_is : (a b : Entry) → IsListed (entry_view a) → IsListed (entry_view b) → entry.ghosts.eq a b ≡ is_same (entry_view a) (entry_view b)
  same_is a b ha hb = same_from_decides (entry.ghosts.eq a b) (is_same (entry_view a) (entry_view b)) (Shows-Entry a b) (keys_decide (entry_view a) (entry_view b) ha hb)

  -- each entry is one that the library lists
  abbrev pub AreListed : List Entry → Type 0
  AreListed [] = Unit {0}
  AreListed (e ∷ es) = IsListed (entry_view e) × AreListed es

  filtered_if : (b : Bool) (e : Entry) (es : List Entry) → IsListed (entry_view e) → AreListed es → AreListed (cond b (e ∷ es) es)
  filtered_if true e es h hs = (h, hs)
  filtered_if false e es h hs = hs

  filtered : (p : Entry → Bool) (es : List Entry) → AreListed es → AreListed (filter p es)
  filtered p [] h = tt
  filtered p (e ∷ es) h = filtered_if (p e) e (filter p es) h.0 (filtered p es h.1)

  once_listed : (same : Entry → Entry → Bool) (es : List Entry) → AreListed es → AreListed (once same es)
  once_listed same [] h = tt
  once_listed same (e ∷ es) h = (h.0, filtered (λ y. not (same e y)) (once same es) (once_listed same es h.1))

  kept_if : (b : Bool) (f : Entry) (fs : List Entry) (ws : List EntryData) → map entry_view fs ≡ ws → map entry_view (cond b (f ∷ fs) fs) ≡ cond b (entry_view f ∷ ws) ws
  kept_if true f fs ws is = ap (λ vs. entry_view f ∷ vs) is
  kept_if false f fs ws is = is

  filter_is : (e : Entry) → IsListed (entry_view e) → (es : List Entry) → AreListed es
      → map entry_view (filter (λ y. not (entry.ghosts.eq e y)) es) ≡ filter (λ w. not (is_same (entry_view e) w)) (map entry_view es)
  filter_is e he [] h = refl
  filter_is e he (f ∷ fs) h =
      let rest = filter (λ w. not (is_same (entry_view e) w)) (map entry_view fs) in
      kept_if (not (entry.ghosts.eq e f)) f (filter (λ y. not (entry.ghosts.eq e y)) fs) rest (filter_is e he fs h.1)
      ∙ ap (λ (b : Bool). cond (not b) (entry_view f ∷ rest) rest) (same_is e f he h.0)

  once_is : (es : List Entry) → AreListed es → map entry_view (once entry.ghosts.eq es) ≡ once is_same (map entry_view es)
  once_is [] h = refl
  once_is (e ∷ es) h =
      ap (λ (ws : List EntryData). entry_view e ∷ ws)
      (filter_is e h.0 (once entry.ghosts.eq es) (once_listed entry.ghosts.eq es h.1) ∙ ap (filter (λ w. not (is_same (entry_view e) w))) (once_is es h.1))

  position_is : (e : Entry) → IsListed (entry_view e) → (es : List Entry) → AreListed es → position_or_len (entry.ghosts.eq e) es ≡ position_or_len (is_same (entry_view e)) (map entry_view es)
  position_is e he [] h = refl
  position_is e he (f ∷ fs) h = λ i. cond (not (same_is e f he h.0 i)) (1 + position_is e he fs h.1 i) 0

  pub index_is : (cited : List Entry) → AreListed cited → (e : Entry) → IsListed (entry_view e) → index_among entry.ghosts.eq cited e ≡ index_among is_same (map entry_view cited) (entry_view e)
  index_is cited hs e he =
      position_is e he (once entry.ghosts.eq cited) (once_listed entry.ghosts.eq cited hs) ∙ ap (position_or_len (is_same (entry_view e))) (once_is cited hs)

  length_is : (es : List Entry) → length es ≡ length (map entry_view es)
  length_is [] = refl
  length_is (e ∷ es) = ap suc (length_is es)

  found_at : (cited : List Entry) → AreListed cited → (e : Entry) → IsListed (entry_view e) → position (entry.ghosts.eq e) (once entry.ghosts.eq cited) ≡ position (is_same (entry_view e)) (once is_same (map entry_view cited))
  found_at cited hs e he =
      let many : length (once entry.ghosts.eq cited) ≡ length (once is_same (map entry_view cited)) = length_is (once entry.ghosts.eq cited) ∙ ap length (once_is cited hs) in
      λ i. cond (nat_lt (index_is cited hs e he i) (many i)) (Some (index_is cited hs e he i)) None

  pub indices_are : (cited : List Entry) → AreListed cited → (es : List Entry) → AreListed es → indices_among entry.ghosts.eq cited es ≡ indices_among is_same (map entry_view cited) (map entry_view es)
  indices_are cited hs [] h = refl
  indices_are cited hs (e ∷ es) h =
      extends (λ x. position (entry.ghosts.eq x) (once entry.ghosts.eq cited)) e es _ refl
      ∙ (λ i. extended (found_at cited hs e h.0 i) (indices_are cited hs es h.1 i))
      ∙ sym (extends (λ w. position (is_same w) (once is_same (map entry_view cited))) (entry_view e) (map entry_view es) _ refl)

  -- the same of works
  abbrev pub AreListedWorks : List EntryData → Type 0
  AreListedWorks [] = Unit {0}
  AreListedWorks (w ∷ ws) = IsListed w × AreListedWorks ws

  pub listed_entries : (es : List Entry) → AreListedWorks (map entry_view es) → AreListed es
  listed_entries [] h = tt
  listed_entries (e ∷ es) h = (h.0, listed_entries es h.1)

  pub joined : (vs ws : List EntryData) → AreListedWorks vs → AreListedWorks ws → AreListedWorks (vs ++ ws)
  joined [] ws hv hw = hw
  joined (v ∷ vs) ws hv hw = (hv.0, joined vs ws hv.1 hw)

  chosen_if : (b : Bool) (w : EntryData) (ws : List EntryData) → IsListed w → AreListedWorks ws → AreListedWorks (cond b (w ∷ ws) ws)
  chosen_if true w ws h hs = (h, hs)
  chosen_if false w ws h hs = hs

  pub chosen_listed : (test : EntryData → Bool) (ws : List EntryData) → AreListedWorks ws → AreListedWorks (filter test ws)
  chosen_listed test [] h = tt
  chosen_listed test (w ∷ ws) h = chosen_if (test w) w (filter test ws) h.0 (chosen_listed test ws h.1)

  -- a work behind another one is listed as before, where their keys differ
  passed_over : (b : Bool) (v w : EntryData) (ws : List EntryData) → b ≡ false → with_key key_of (key_of v) ws ≡ Some v → cond b (Some w) (with_key key_of (key_of v) ws) ≡ Some v
  passed_over true v w ws is h = absurd (true≢false is)
  passed_over false v w ws is h = h

either_false : (b c : Bool) → (b || c) ≡ false → (b ≡ false) × (c ≡ false)
either_false true c is = absurd (true≢false is)
either_false false c is = (refl, is)

both_true : (b c : Bool) → (not b && c) ≡ true → (b ≡ false) × (c ≡ true)
both_true true c is = absurd (true≢false (sym is))
both_true false c is = (refl, is)

turned : (v w : EntryData) → bytes_eq (key_of w) (key_of v) ≡ false → bytes_eq (key_of v) (key_of w) ≡ false
turned v w is = same_from_decides (bytes_eq (key_of v) (key_of w)) (bytes_eq (key_of w) (key_of v)) (bytes_eq-Decides (key_of v) (key_of w)) (Decides-like (bytes_eq (key_of w) (key_of v)) sym sym (bytes_eq-Decides (key_of w) (key_of v))) ∙ is

behind : (w : EntryData) (ws vs : List EntryData) → list_any (λ y. bytes_eq (key_of w) (key_of y)) vs ≡ false → AreListedWorks ws vs → AreListedWorks (w ∷ ws) vs
behind w ws [] none h = tt
behind w ws (v ∷ vs) none h =
    let parts = either_false (bytes_eq (key_of w) (key_of v)) (list_any (λ y. bytes_eq (key_of w) (key_of y)) vs) none in
    (passed_over ws (bytes_eq (key_of v) (key_of w)) v w ws (turned v w parts.0) h.0, behind w ws vs parts.1 h.1)

first_listed : (w : EntryData) (ws : List EntryData) → IsListed (w ∷ ws) w
first_listed w ws = ap (λ (b : Bool). cond b (Some w) (with_key key_of (key_of w) ws)) ((bytes_eq-Decides (key_of w) (key_of w)).1 refl)

-- where keys are distinct each work is listed
pub all_listed : (ws : List EntryData) → are_distinct key_of ws ≡ true → AreListedWorks ws ws
all_listed [] d = tt
all_listed (w ∷ ws) d =
    let parts = both_true (list_any (λ y. bytes_eq (key_of w) (key_of y)) ws) (are_distinct key_of ws) d in
    (first_listed w ws, behind w ws ws parts.0 (all_listed ws parts.1))

any_key : (k : List ℕ) (es : List Entry) → list_any (λ y. bytes_eq k (key_view y)) es ≡ list_any (λ w. bytes_eq k (key_of w)) (map entry_view es)
any_key k [] = refl
any_key k (e ∷ es) = λ i. bytes_eq k (sym (key_is e) i) || any_key k es i

distinct_works : (es : List Entry) → are_distinct key_view es ≡ are_distinct key_of (map entry_view es)
distinct_works [] = refl
distinct_works (e ∷ es) = λ i. not ((any_key (key_view e) es ∙ ap (λ (k : List ℕ). list_any (λ w. bytes_eq k (key_of w)) (map entry_view es)) (sym (key_is e))) i) && distinct_works es i

-- the works of a library are listed
pub works_listed : (es : List Entry) → are_distinct key_view es ≡ true → AreListedWorks (map entry_view es) (map entry_view es)
works_listed es d = all_listed (map entry_view es) (sym (distinct_works es) ∙ d)
