-- Keys are distinct where each is apart by what it means and by the entries after it.
use Rattle.std.proofs.Common.{◌≡◌, ℕ, zero, suc, ◌+◌, ◌<◌, Bool, true, false, not, ◌&&◌, ◌||◌, List, [], ◌∷◌, length, drop, map, get_or, slice_get, string_bytes, bytes_eq, Option, Some, None, drop-cons, true≢false, refl, sym, ap, subst, ◌∙◌, ◌⊎◌, inl, inr, arith}
use Rattle.std.specs.Prelude.{◌==◌}
use Rattle.std.specs.List.{list_any}
use Rattle.std.proofs.lemmas.Bool.{and_parts, and_right, cases_order, eqb-false, eqb-true, not-true, or_right}
use Rattle.std.proofs.lemmas.Slice.Eq.{bytes_eq-Decides}
use Rattle.biblatex_entries.specs.declared.entry.Entry.{Entry}
use Rattle.biblatex_entries.specs.Entries.{Source, sources_view}
use Rattle.biblatex_writing.specs.Settled.{have_distinct_keys}
use Rattle.biblatex_meaning.specs.Listed.{Meaning}
use Rattle.biblatex.specs.Naming.{is_key_of, is_no_key, is_apart, are_apart}

-- one more key is looked at
pub apart_step : (meaning : Meaning) (all : List Source) (es : List Entry) (n : ℕ) (d : Entry) → n < length es
    → are_apart meaning all n (sources_view (drop n es))
    ≡ (is_apart all n (string_bytes (get_or es n d).key) (sources_view (drop (suc n) es)) (meaning (string_bytes (get_or es n d).key)) && are_apart meaning all (suc n) (sources_view (drop (suc n) es)))
apart_step meaning all es n d within = ap (λ (xs : List Entry). are_apart meaning all n (sources_view xs)) (drop-cons es n d within)

pub goes_on : (b x y : Bool) → b ≡ true → x ≡ (b && y) → y ≡ x
goes_on true x y is e = sym e
goes_on false x y is e = absurd (true≢false (sym is))

pub stops : (b x y : Bool) → b ≡ false → x ≡ (b && y) → false ≡ x
stops true x y is e = absurd (true≢false is)
stops false x y is e = sym e

-- some entries are the last of all, from a number on
abbrev StandsFrom : List Source → ℕ → List Source → Type 0
StandsFrom all number es = (k : ℕ) → slice_get es k ≡ slice_get all (number + k)

stands_next : (all : List Source) (number : ℕ) (e : Source) (es : List Source) → StandsFrom all number (e ∷ es) → StandsFrom all (suc number) es
stands_next all number e es stands k =
    let same : number + suc k ≡ suc number + k = omega arith in
    stands (suc k) ∙ ap (λ (n : ℕ). slice_get all n) same

-- the first of them has its own key
own_key : (all : List Source) (number : ℕ) (e : Source) (es : List Source) → StandsFrom all number (e ∷ es) → is_key_of e.key (slice_get all number) ≡ true
own_key all number e es stands =
    let none : number + 0 ≡ number = omega arith in
    ap (is_key_of e.key) (sym (stands 0 ∙ ap (λ (n : ℕ). slice_get all n) none)) ∙ (bytes_eq-Decides e.key e.key).1 refl

-- a key is not apart that means another entry which has it
not_apart : (all : List Source) (number : ℕ) (key : List ℕ) (later : List Source) (index : ℕ) → is_key_of key (slice_get all index) ≡ true → index < number → is_apart all number key later (Some index) ≡ false
not_apart all number key later index has below = by_tests (index == number) (is_key_of key (slice_get all index)) refl has
  where
    by_tests : (b c : Bool) → (index == number) ≡ b → c ≡ true → (b || (not c && is_no_key key later)) ≡ false
    by_tests true c same is = let one = eqb-true index number same in absurd (omega (arith, below, one))
    by_tests false true same is = refl
    by_tests false false same is = absurd (true≢false (sym is))

-- a key that means an entry which has it is the key of none after that entry
none_later : (meaning : Meaning) (all : List Source) (key : List ℕ) (index number : ℕ) (es : List Source) → meaning key ≡ Some index → is_key_of key (slice_get all index) ≡ true → index < number
    → are_apart meaning all number es ≡ true → list_any (bytes_eq key) (map (λ (x : Source). x.key) es) ≡ false
none_later meaning all key index number [] means there below apart = refl
none_later meaning all key index number (e ∷ es) means there below apart =
    let both = and_parts (is_apart all number e.key es (meaning e.key)) (are_apart meaning all (suc number) es) apart in
    by_test (bytes_eq key e.key) refl both.0 (none_later meaning all key index (suc number) es means there (omega (arith, below)) both.1)
  where
    by_test : (b : Bool) → bytes_eq key e.key ≡ b → is_apart all number e.key es (meaning e.key) ≡ true → list_any (bytes_eq key) (map (λ (x : Source). x.key) es) ≡ false
        → (b || list_any (bytes_eq key) (map (λ (x : Source). x.key) es)) ≡ false
    by_test true same here others =
        let equal : key ≡ e.key = (bytes_eq-Decides key e.key).0 same in
        let meant : Some index ≡ meaning e.key = sym means ∙ ap meaning equal in
        let has : is_key_of e.key (slice_get all index) ≡ true = subst (λ (k : List ℕ). is_key_of k (slice_get all index) ≡ true) equal there in
        absurd (true≢false (sym here ∙ (ap (is_apart all number e.key es) (sym meant) ∙ not_apart all number e.key es index has below)))
    by_test false same here others = others

-- keys that are apart are distinct
distinct_from : (meaning : Meaning) (all : List Source) (number : ℕ) (es : List Source) → StandsFrom all number es → are_apart meaning all number es ≡ true → have_distinct_keys es ≡ true
distinct_from meaning all number [] stands apart = refl
distinct_from meaning all number (e ∷ es) stands apart =
    let both = and_parts (is_apart all number e.key es (meaning e.key)) (are_apart meaning all (suc number) es) apart in
    let none = by_meaning (meaning e.key) refl both.0 both.1 in
    ap (λ (b : Bool). not b && have_distinct_keys es) none ∙ distinct_from meaning all (suc number) es (stands_next all number e es stands) both.1
  where
    by_test : (index : ℕ) (b : Bool) → meaning e.key ≡ Some index → (index == number) ≡ b → (b || (not (is_key_of e.key (slice_get all index)) && is_no_key e.key es)) ≡ true → are_apart meaning all (suc number) es ≡ true
        → list_any (bytes_eq e.key) (map (λ (x : Source). x.key) es) ≡ false
    by_test index true is same here rest =
        let means : meaning e.key ≡ Some number = is ∙ ap (λ (n : ℕ). Some n) (eqb-true index number same) in
        none_later meaning all e.key number (suc number) es means (own_key all number e es stands) (omega arith) rest
    by_test index false is same here rest = not-true (list_any (bytes_eq e.key) (map (λ (x : Source). x.key) es)) (and_parts (not (is_key_of e.key (slice_get all index))) (is_no_key e.key es) here).1

    by_meaning : (o : Option ℕ) → meaning e.key ≡ o → is_apart all number e.key es o ≡ true → are_apart meaning all (suc number) es ≡ true → list_any (bytes_eq e.key) (map (λ (x : Source). x.key) es) ≡ false
    by_meaning None is here rest = not-true (list_any (bytes_eq e.key) (map (λ (x : Source). x.key) es)) here
    by_meaning (Some index) is here rest = by_test index (index == number) is refl here rest

-- a key that an entry has is one of the keys
any_at : (key : List ℕ) (es : List Source) (k : ℕ) → is_key_of key (slice_get es k) ≡ true → list_any (bytes_eq key) (map (λ (x : Source). x.key) es) ≡ true
any_at key [] k has = absurd (true≢false (sym has))
any_at key (e ∷ es) zero has = ap (λ (b : Bool). b || list_any (bytes_eq key) (map (λ (x : Source). x.key) es)) has
any_at key (e ∷ es) (suc k) has = or_right (bytes_eq key e.key) (list_any (bytes_eq key) (map (λ (x : Source). x.key) es)) (any_at key es k has)

-- two entries of one key are not distinct
twice : (key : List ℕ) (es : List Source) (i j : ℕ) → is_key_of key (slice_get es i) ≡ true → is_key_of key (slice_get es j) ≡ true → i < j → have_distinct_keys es ≡ false
twice key [] i j one other below = absurd (true≢false (sym one))
twice key (e ∷ es) zero zero one other below = absurd (omega (arith, below))
twice key (e ∷ es) zero (suc j) one other below =
    let same : key ≡ e.key = (bytes_eq-Decides key e.key).0 one in
    ap (λ (b : Bool). not b && have_distinct_keys es) (subst (λ (k : List ℕ). list_any (bytes_eq k) (map (λ (x : Source). x.key) es) ≡ true) same (any_at key es j other))
twice key (e ∷ es) (suc i) zero one other below = absurd (omega (arith, below))
twice key (e ∷ es) (suc i) (suc j) one other below = and_right (is_no_key e.key es) (have_distinct_keys es) (twice key es i j one other (omega (arith, below)))

-- distinct keys are apart
apart_from : (meaning : Meaning) (all : List Source) (number : ℕ) (es : List Source) → StandsFrom all number es → have_distinct_keys all ≡ true → have_distinct_keys es ≡ true → are_apart meaning all number es ≡ true
apart_from meaning all number [] stands whole distinct = refl
apart_from meaning all number (e ∷ es) stands whole distinct =
    let both = and_parts (is_no_key e.key es) (have_distinct_keys es) distinct in
    let here = by_meaning (meaning e.key) both.0 in
    let more = apart_from meaning all (suc number) es (stands_next all number e es stands) whole both.1 in
    λ i. here i && more i
  where
    by_order : (index : ℕ) → (index == number) ≡ false → is_key_of e.key (slice_get all index) ≡ true → (index ≡ number) ⊎ ((index < number) ⊎ (number < index)) → ⊥
    by_order index apart has (inl same) = eqb-false index number apart same
    by_order index apart has (inr (inl below)) = true≢false (sym whole ∙ twice e.key all index number has (own_key all number e es stands) below)
    by_order index apart has (inr (inr above)) = true≢false (sym whole ∙ twice e.key all number index (own_key all number e es stands) has above)

    by_tests : (index : ℕ) (b c : Bool) → (index == number) ≡ b → is_key_of e.key (slice_get all index) ≡ c → is_no_key e.key es ≡ true → (b || (not c && is_no_key e.key es)) ≡ true
    by_tests index true c same has none = refl
    by_tests index false true same has none = absurd (by_order index same has (cases_order index number))
    by_tests index false false same has none = none

    by_meaning : (o : Option ℕ) → is_no_key e.key es ≡ true → is_apart all number e.key es o ≡ true
    by_meaning None none = none
    by_meaning (Some index) none = by_tests index (index == number) (is_key_of e.key (slice_get all index)) refl refl none

agree : (a b : Bool) → (a ≡ true → b ≡ true) → (b ≡ true → a ≡ true) → a ≡ b
agree true true f g = refl
agree true false f g = sym (f refl)
agree false true f g = g refl
agree false false f g = refl

-- whatever keys mean, they are distinct exactly where each is apart
pub apart_is_distinct : (meaning : Meaning) (es : List Source) → are_apart meaning es 0 es ≡ have_distinct_keys es
apart_is_distinct meaning es = agree (are_apart meaning es 0 es) (have_distinct_keys es) (distinct_from meaning es 0 es stands) (λ distinct. apart_from meaning es 0 es stands distinct distinct)
  where
    stands : StandsFrom es 0 es
    stands k = let same : k ≡ 0 + k = omega arith in ap (λ (n : ℕ). slice_get es n) same
