-- Numbers of texts, one after the other.
use Rattle.std.proofs.Common.{◌≡◌, ℕ, ◌+◌, ◌<◌, Bool, true, false, cond, List, [], ◌∷◌, ◌++◌, map, take, drop, length, get_or, set, Option, Some, None, Ordering, Less, Equal, Greater, nat_cmp, is_eq, All, string_bytes, bytes_eq, true≢false, refl, sym, ap, ◌∙◌, arith}
use Rattle.std.proofs.Math.Path.{fun_ext}
use Rattle.std.specs.BTreeMap.{BTreeMap, get, insert_entry, btree_map_len}
use Rattle.std.specs.Cmp.Lexicographic.{slice_cmp}
use Rattle.std.specs.Option.{is_some}
use Rattle.std.specs.Ordering.{MatchOrdering, ordering_then, match_ordering}
use Rattle.std.proofs.lemmas.Bool.Decides.{same_from_decides}
use Rattle.std.proofs.lemmas.Cmp.{ranked}
use Rattle.std.proofs.lemmas.Map.Text.{is_eq-slice_cmp}
use Rattle.std.specs.List.{zip}
use Rattle.std.specs.Map.{lookup}
use Rattle.std.specs.Cmp.Lexicographic.{bytes_decides}
use Rattle.std.proofs.lemmas.List.{get_or-map, length-map, map-append, map-set, take_more}
use Rattle.std.proofs.lemmas.List.Elements.{All-cons, All-nil}
use Rattle.hashes.specs.Hashes.{text_hash}
use Rattle.driver_disambiguation.specs.Numbered.{AreNumbered, AreNumbers, AreStill, number_of, number_under}
use Rattle.driver_disambiguation.specs.declared.hashed_text.HashedText.{HashedText}
use Rattle.driver_names.specs.declared.printed.Printed.{Printed}

-- whether a text has these bytes
abbrev has_text : List ℕ → HashedText → Bool
has_text q k = bytes_eq q (string_bytes k.text)

-- nothing is something
never : (o : Option ℕ) (n : ℕ) → o ≡ None → o ≡ Some n → ⊥
never o n is_none is = cc

-- where there are no texts none has a number
pub no_texts : (texts : BTreeMap HashedText ℕ) → texts.entries ≡ [] → AreNumbers texts
no_texts texts empty =
    let none : (q : List ℕ) → number_under texts q ≡ None = λ q. ap (lookup (has_text q)) empty in
    (λ q r n e f. absurd (never (number_under texts q) n (none q) e), λ q n e. absurd (never (number_under texts q) n (none q) e))

apart_by : (b c : Bool) (q r text : List ℕ) (x y : Option ℕ) (number n : ℕ) → (b ≡ true → text ≡ q) → (c ≡ true → text ≡ r) → (x ≡ Some n → n < number) → (y ≡ Some n → n < number)
    → (x ≡ Some n → y ≡ Some n → bytes_eq q r ≡ true) → cond b (Some number) x ≡ Some n → cond c (Some number) y ≡ Some n → bytes_eq q r ≡ true
apart_by true true q r text x y number n first second below also both e f = (bytes_decides q r).1 (sym (first refl) ∙ second refl)
apart_by true false q r text x y number n first second below also both e f =
    let same : number ≡ n = cc in
    let less : n < number = also f in
    absurd (omega (arith, same, less))
apart_by false true q r text x y number n first second below also both e f =
    let same : number ≡ n = cc in
    let less : n < number = below e in
    absurd (omega (arith, same, less))
apart_by false false q r text x y number n first second below also both e f = both e f

below_by : (b : Bool) (x : Option ℕ) (number n count : ℕ) → count ≡ number + 1 → (x ≡ Some n → n < number) → cond b (Some number) x ≡ Some n → n < count
below_by true x number n count is below e =
    let same : number ≡ n = cc in omega (arith, is, same)
below_by false x number n count is below e =
    let less : n < number = below e in omega (arith, is, less)

still_by : (b : Bool) (x : Option ℕ) (number n : ℕ) → (b ≡ true → x ≡ None) → x ≡ Some n → cond b (Some number) x ≡ Some n
still_by true x number n none e = absurd (never x n (none refl) e)
still_by false x number n none e = e

module _ (old new : BTreeMap HashedText ℕ) (text : List ℕ) (number : ℕ) where
  -- a text that is new has the next number
  pub next_number : number ≡ btree_map_len old → btree_map_len new ≡ number + 1 → ((q : List ℕ) → number_under new q ≡ cond (bytes_eq text q) (Some number) (number_under old q)) → AreNumbers old
      → AreNumbers new
  next_number is more after numbers =
      let below : (q : List ℕ) (n : ℕ) → number_under old q ≡ Some n → n < number = λ q n e. let less = numbers.1 q n e in omega (arith, is, less) in (
        λ q r n e f. apart_by (bytes_eq text q) (bytes_eq text r) q r text (number_under old q) (number_under old r) number n (bytes_decides text q).0 (bytes_decides text r).0 (below q n) (below r n)
            (numbers.0 q r n) (sym (after q) ∙ e) (sym (after r) ∙ f),
        λ q n e. below_by (bytes_eq text q) (number_under old q) number n (btree_map_len new) more (below q n) (sym (after q) ∙ e),
      )

  -- the others have the numbers that they had
  pub still_number : number_under old text ≡ None → ((q : List ℕ) → number_under new q ≡ cond (bytes_eq text q) (Some number) (number_under old q)) → AreStill old new
  still_number absent after = λ q n e. after q ∙ still_by (bytes_eq text q) (number_under old q) number n (λ h. ap (number_under old) (sym ((bytes_decides text q).0 h)) ∙ absent) e

  pub own_number : ((q : List ℕ) → number_under new q ≡ cond (bytes_eq text q) (Some number) (number_under old q)) → number_under new text ≡ Some number
  own_number after = after text ∙ ap (λ b. cond b (Some number) (number_under old text)) ((bytes_decides text text).1 refl)

module _ (old new : BTreeMap HashedText ℕ) where
  same_look : new.entries ≡ old.entries → (q : List ℕ) → number_under new q ≡ number_under old q
  same_look e = λ q. ap (lookup (has_text q)) e

  -- where a call refused to put a text all are as they were
  pub same_numbers : new.entries ≡ old.entries → AreNumbers old → AreNumbers new
  same_numbers e numbers = (
    λ q r n f g. numbers.0 q r n (sym (same_look e q) ∙ f) (sym (same_look e r) ∙ g),
    λ q n f. let less = numbers.1 q n (sym (same_look e q) ∙ f) in omega (arith, less, ap length e),
  )

  pub same_still : new.entries ≡ old.entries → AreStill old new
  same_still e = λ q n f. same_look e q ∙ f

turned : (xs ys : List ℕ) → bytes_eq xs ys ≡ bytes_eq ys xs
turned xs ys = same_from_decides (bytes_eq xs ys) (bytes_eq ys xs) (bytes_decides xs ys) ((λ e. sym ((bytes_decides ys xs).0 e)), (λ e. (bytes_decides ys xs).1 (sym e)))

differ : (k l : HashedText) → (k.hash ≡ l.hash → ⊥) → (b : Bool) → bytes_eq (string_bytes k.text) (string_bytes l.text) ≡ b → false ≡ b
differ k l apart true is = absurd (apart (k.hashed ∙ (ap text_hash ((bytes_decides (string_bytes k.text) (string_bytes l.text)).0 is) ∙ sym l.hashed)))
differ k l apart false is = refl

by_hash : (k l : HashedText) (o : Ordering) → MatchOrdering o (k.hash < l.hash) (k.hash ≡ l.hash) (l.hash < k.hash)
    → is_eq (ordering_then o (slice_cmp nat_cmp (string_bytes k.text) (string_bytes l.text))) ≡ bytes_eq (string_bytes k.text) (string_bytes l.text)
by_hash k l Less ranks =
    let low : k.hash < l.hash = ranks in
    differ k l (λ same. omega (arith, same, low)) (bytes_eq (string_bytes k.text) (string_bytes l.text)) refl
by_hash k l Equal ranks = is_eq-slice_cmp (string_bytes k.text) (string_bytes l.text)
by_hash k l Greater ranks =
    let high : l.hash < k.hash = ranks in
    differ k l (λ same. omega (arith, same, high)) (bytes_eq (string_bytes k.text) (string_bytes l.text)) refl

-- how texts are ordered: by their hashes, and by their bytes where these are equal
abbrev pub order_of : HashedText → HashedText → Ordering
order_of k l = ordering_then (nat_cmp k.hash l.hash) (slice_cmp nat_cmp (string_bytes k.text) (string_bytes l.text))

-- texts that are equal by this order have the same bytes
pub equal_texts : (k l : HashedText) → is_eq (order_of k l) ≡ has_text (string_bytes k.text) l
equal_texts k l = by_hash k l (nat_cmp k.hash l.hash) (ranked k.hash l.hash (nat_cmp k.hash l.hash) refl)

-- what is looked up by the order is the number under the bytes
pub looked_up : (texts : BTreeMap HashedText ℕ) (k : HashedText) → get order_of texts k ≡ number_under texts (string_bytes k.text)
looked_up texts k = ap (λ test. lookup test texts.entries) (fun_ext (λ l. equal_texts k l))

swapped : (b c : Bool) (x y : ℕ) (o : Option ℕ) → (b ≡ true → c ≡ true → ⊥) → cond b (Some x) (cond c (Some y) o) ≡ cond c (Some y) (cond b (Some x) o)
swapped true true x y o never_both = absurd (never_both refl refl)
swapped true false x y o never_both = refl
swapped false c x y o never_both = refl

covered : (b : Bool) (x y : ℕ) (o : Option ℕ) → cond b (Some x) o ≡ cond b (Some x) (cond b (Some y) o)
covered true x y o = refl
covered false x y o = refl

same_text : (q : List ℕ) (k l : HashedText) → has_text (string_bytes k.text) l ≡ true → has_text q l ≡ has_text q k
same_text q k l is = ap (bytes_eq q) (sym ((bytes_decides (string_bytes k.text) (string_bytes l.text)).0 is))

-- a text that is not equal to another by the order has other bytes
other_text : (q : List ℕ) (k l : HashedText) → is_eq (order_of k l) ≡ false → has_text q l ≡ true → has_text q k ≡ true → ⊥
other_text q k l apart one two =
    true≢false (sym ((bytes_decides (string_bytes k.text) (string_bytes l.text)).1 (sym ((bytes_decides q (string_bytes k.text)).0 two) ∙ (bytes_decides q (string_bytes l.text)).0 one)) ∙ (sym (equal_texts k l) ∙ apart))

put_entry : (key : HashedText) (number : ℕ) (es : List (HashedText × ℕ)) (q : List ℕ) → lookup (has_text q) (insert_entry order_of es key number) ≡ cond (has_text q key) (Some number) (lookup (has_text q) es)
put_entry key number [] q = refl
put_entry key number (e ∷ es) q = by_order (order_of key e.0) refl (put_entry key number es q)
  where
    by_order : (o : Ordering) → order_of key e.0 ≡ o → lookup (has_text q) (insert_entry order_of es key number) ≡ cond (has_text q key) (Some number) (lookup (has_text q) es)
        → lookup (has_text q) (match_ordering o ((key, number) ∷ e ∷ es) ((e.0, number) ∷ es) (e ∷ insert_entry order_of es key number)) ≡ cond (has_text q key) (Some number) (cond (has_text q e.0) (Some e.1) (lookup (has_text q) es))
    by_order Less is more = refl
    by_order Equal is more =
        let same : has_text q e.0 ≡ has_text q key = same_text q key e.0 (sym (equal_texts key e.0) ∙ ap is_eq is) in
        ap (λ (b : Bool). cond b (Some number) (lookup (has_text q) es)) same
        ∙ (covered (has_text q key) number e.1 (lookup (has_text q) es)
        ∙ ap (λ (b : Bool). cond (has_text q key) (Some number) (cond b (Some e.1) (lookup (has_text q) es))) (sym same))
    by_order Greater is more =
        ap (λ (o : Option ℕ). cond (has_text q e.0) (Some e.1) o) more
        ∙ swapped (has_text q e.0) (has_text q key) e.1 number (lookup (has_text q) es) (other_text q key e.0 (ap is_eq is))

-- what a map has after a text was put, by its bytes
pub put_text : (old new : BTreeMap HashedText ℕ) (key : HashedText) (text : List ℕ) (number : ℕ) → string_bytes key.text ≡ text
    → new.entries ≡ insert_entry order_of old.entries key number → (q : List ℕ) → number_under new q ≡ cond (bytes_eq text q) (Some number) (number_under old q)
put_text old new key text number is entries = λ q.
    ap (lookup (has_text q)) entries
    ∙ (put_entry key number old.entries q
    ∙ ap (λ (b : Bool). cond b (Some number) (number_under old q)) (ap (bytes_eq q) is ∙ turned q text))

-- how many texts there are after one was put
pub put_len : (old new : BTreeMap HashedText ℕ) (key : HashedText) (text : List ℕ) (number : ℕ) (before : Option ℕ) → string_bytes key.text ≡ text → number ≡ btree_map_len old
    → number_under old text ≡ None → before ≡ get order_of old key → btree_map_len new ≡ btree_map_len old + cond (is_some before) 0 1 → btree_map_len new ≡ number + 1
put_len old new key text number before is len absent found more =
    more ∙ ap (λ o. btree_map_len old + cond (is_some o) 0 1) (found ∙ looked_up old key ∙ ap (number_under old) is ∙ absent) ∙ ap (λ n. n + 1) (sym len)

module _ {X : Type 0} (f : X → Option ℕ) where
  -- what has numbers has as many
  pub numbers_length : (xs : List X) (ns : List ℕ) → map f xs ≡ map (λ n. Some n) ns → length ns ≡ length xs
  numbers_length xs ns e = sym (length-map ns (λ n. Some n)) ∙ ap length (sym e) ∙ length-map xs f

  -- numbers that are below a count one by one are all below it
  pub numbers_below : (count : ℕ) (xs : List X) (ns : List ℕ) → map f xs ≡ map (λ n. Some n) ns → ((x : X) (n : ℕ) → f x ≡ Some n → n < count) → All (λ n. n < count) ns
  numbers_below count xs [] e below = All-nil (λ n. n < count)
  numbers_below count [] (n ∷ ns) e below = absurd cc
  numbers_below count (x ∷ xs) (n ∷ ns) e below =
      All-cons (λ n. n < count) n ns (below x n (ap (λ os. get_or os 0 None) e)) (numbers_below count xs ns (ap (drop 1) e) below)

  -- each has the number that stands beside it
  pub numbers_beside : (xs : List X) (ns : List ℕ) → map f xs ≡ map (λ n. Some n) ns → All (λ (p : ℕ × X). f p.1 ≡ Some p.0) (zip ns xs)
  numbers_beside xs [] e = All-nil (λ (p : ℕ × X). f p.1 ≡ Some p.0)
  numbers_beside [] (n ∷ ns) e = All-nil (λ (p : ℕ × X). f p.1 ≡ Some p.0)
  numbers_beside (x ∷ xs) (n ∷ ns) e =
      All-cons (λ (p : ℕ × X). f p.1 ≡ Some p.0) (n, x) (zip ns xs) (ap (λ os. get_or os 0 None) e) (numbers_beside xs ns (ap (drop 1) e))

module _ {X : Type 0} (f g : X → Option ℕ) (still : (x : X) (n : ℕ) → f x ≡ Some n → g x ≡ Some n) where
  -- what had numbers has them still
  pub numbers_still : (xs : List X) (ns : List ℕ) → map f xs ≡ map (λ n. Some n) ns → map g xs ≡ map (λ n. Some n) ns
  numbers_still [] ns e = e
  numbers_still (x ∷ xs) [] e = absurd cc
  numbers_still (x ∷ xs) (n ∷ ns) e = λ j. still x n (ap (λ os. get_or os 0 None) e) j ∷ numbers_still xs ns (ap (drop 1) e) j

  -- a loop that numbers each
  pub numbers_step : (xs : List X) (i : ℕ) (x : X) (ns new : List ℕ) (n : ℕ) → i < length xs → x ≡ get_or xs i x → map f (take i xs) ≡ map (λ n. Some n) ns → g x ≡ Some n → new ≡ ns ++ n ∷ []
      → map g (take (i + 1) xs) ≡ map (λ n. Some n) new
  numbers_step xs i x ns new n low is before has after =
      ap (map g) (take_more xs i x low)
      ∙ map-append g (take i xs) (get_or xs i x ∷ [])
      ∙ (λ j. numbers_still (take i xs) ns before j ++ (ap g (sym is) ∙ has) j ∷ [])
      ∙ sym (map-append (λ n. Some n) ns (n ∷ []))
      ∙ ap (map (λ n. Some n)) (sym after)

  -- one that gets another number
  pub numbers_set : (xs : List X) (ns : List ℕ) (i : ℕ) (x : X) (n : ℕ) → map f xs ≡ map (λ n. Some n) ns → g x ≡ Some n → map g (set xs i x) ≡ map (λ n. Some n) (set ns i n)
  numbers_set xs ns i x n before has =
      map-set g xs i x ∙ (λ j. set (numbers_still xs ns before j) i (has j)) ∙ sym (map-set (λ n. Some n) ns i n)

-- numbers that a cite is printed by another text change as the cites do
pub renumbered : (old new : BTreeMap HashedText ℕ) (ns : List ℕ) (ss : List Printed) (i n : ℕ) (s : Printed) → AreNumbered old ns ss → AreNumbers new → AreStill old new
    → number_under new (string_bytes s.text) ≡ Some n → AreNumbered new (set ns i n) (set ss i s)
renumbered old new ns ss i n s before numbers still has =
    (numbers, numbers_set (number_of old) (number_of new) (λ t m e. still (string_bytes t.text) m e) ss ns i s n before.1 has)

-- they stay where the others have the numbers that they had
pub still_numbered : (old new : BTreeMap HashedText ℕ) (ns : List ℕ) (ss : List Printed) → AreNumbered old ns ss → AreNumbers new → AreStill old new → AreNumbered new ns ss
still_numbered old new ns ss before numbers still = (numbers, numbers_still (number_of old) (number_of new) (λ t m e. still (string_bytes t.text) m e) ss ns before.1)

-- cites, viewed, of which one at an index prints another text
pub view_set : {X V : Type 0} (view : X → V) (again : V → V) (xs : List X) (i : ℕ) (x new : X) (d : V) → i < length xs → x ≡ get_or xs i x → view new ≡ again (view x) → map view (set xs i new) ≡ set (map view xs) i (again (get_or (map view xs) i d))
view_set view again xs i x new d low is e =
    map-set view xs i new ∙ ap (set (map view xs) i) (e ∙ ap again (ap view is ∙ sym (get_or-map view xs i x d low)))
