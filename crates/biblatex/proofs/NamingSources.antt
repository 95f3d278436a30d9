-- The names of entries in the order of a file: the first and the last entry that has a name.
use Rattle.std.proofs.Common.{◌≡◌, ℕ, suc, ◌+◌, ◌<◌, ◌≤◌, Bool, true, false, cond, ltb, List, [], ◌∷◌, ◌++◌, length, bytes_eq, Option, Some, None, codes, append-nil, true≢false, refl, sym, ap, ◌∙◌, arith}
use Rattle.std.proofs.Math.Path.{fun_ext}
use Rattle.std.specs.Prelude.{◌||◌, is_some, IfSome}
use Rattle.std.specs.List.{list_any}
use Rattle.std.proofs.lemmas.Bool.Decides.{nat_tests}
use Rattle.std.proofs.lemmas.Slice.Eq.{bytes_eq-Decides}
use Rattle.biblatex_entries.specs.Names.{listed}
use Rattle.biblatex_entries.specs.Entries.{Source, names_of, field_text}
use Rattle.biblatex_meaning.specs.Listed.{Meaning, bound, last_named, after_first}
use Rattle.biblatex.specs.Indices.{Names, meaning_in}
use Rattle.biblatex.specs.Naming.{numbered, names_from, bound_each, is_below, first_repeated}
use Rattle.biblatex_meaning.proofs.ListedNames.{length_last, last_named-last}
use Rattle.biblatex.proofs.NamingOrder.{joined}
use Rattle.biblatex_reading.proofs.ReadingSteps.{moved_over}

-- the names of one more entry
pub names_last : (k : ℕ) (es : List Source) (e : Source) → names_from k (es ++ e ∷ []) ≡ names_from k es ++ numbered (names_of e) (k + length es)
names_last k [] e = append-nil (numbered (names_of e) k) ∙ ap (numbered (names_of e)) (omega arith)
names_last k (d ∷ es) e =
    ap (λ (ns : Names). numbered (names_of d) k ++ ns) (names_last (suc k) es e)
    ∙ (sym (joined (numbered (names_of d) k) (names_from (suc k) es) (numbered (names_of e) (suc k + length es)))
    ∙ ap (λ (n : ℕ). (numbered (names_of d) k ++ names_from (suc k) es) ++ numbered (names_of e) n) (omega arith))

-- the names of one entry are bound together
numbered_bound : (names : List (List ℕ)) (index : ℕ) (rest : Names) (m : Meaning) → bound_each (numbered names index ++ rest) m ≡ bound_each rest (bound names index m)
numbered_bound [] index rest m = refl
numbered_bound (n ∷ names) index rest m = numbered_bound names index rest (bound (n ∷ []) index m) ∙ ap (bound_each rest) (fun_ext (λ q. both (bytes_eq q n) (list_any (bytes_eq q) names) (m q)))
  where
    both : (a b : Bool) (o : Option ℕ) → cond b (Some index) (cond (a || false) (Some index) o) ≡ cond (a || b) (Some index) o
    both true true o = refl
    both true false o = refl
    both false true o = refl
    both false false o = refl

-- after all names are bound, each means the last entry that has it
bound_last_named : (es ds : List Source) → bound_each (names_from (length ds) es) (λ name. last_named name ds) ≡ (λ name. last_named name (ds ++ es))
bound_last_named [] ds = fun_ext (λ name. ap (last_named name) (sym (append-nil ds)))
bound_last_named (e ∷ es) ds =
    numbered_bound (names_of e) (length ds) (names_from (suc (length ds)) es) (λ name. last_named name ds)
    ∙ (ap (bound_each (names_from (suc (length ds)) es)) (fun_ext (λ q. sym (last_named-last q ds e)))
    ∙ (ap (λ (n : ℕ). bound_each (names_from n es) (λ name. last_named name (ds ++ e ∷ []))) (sym (length_last ds e))
    ∙ (bound_last_named es (ds ++ e ∷ []) ∙ fun_ext (λ name. ap (last_named name) (moved_over ds es e)))))

pub all_bound : (es : List Source) → bound_each (names_from 0 es) (λ name. None) ≡ (λ name. last_named name es)
all_bound es = bound_last_named es []

-- a name among those of one entry
numbered_meant : (names : List (List ℕ)) (index : ℕ) (rest : Names) (name : List ℕ) → meaning_in (numbered names index ++ rest) name ≡ cond (list_any (bytes_eq name) names) (Some index) (meaning_in rest name)
numbered_meant [] index rest name = refl
numbered_meant (n ∷ names) index rest name = by_test (bytes_eq name n) (numbered_meant names index rest name)
  where
    by_test : (is : Bool) → meaning_in (numbered names index ++ rest) name ≡ cond (list_any (bytes_eq name) names) (Some index) (meaning_in rest name)
        → cond is (Some index) (meaning_in (numbered names index ++ rest) name) ≡ cond (is || list_any (bytes_eq name) names) (Some index) (meaning_in rest name)
    by_test true more = refl
    by_test false more = more

-- the first entry that has a name is none of those before
from_least : (es : List Source) (k m : ℕ) (name : List ℕ) → m ≤ k → is_below m (meaning_in (names_from k es) name) ≡ false
from_least [] k m name le = refl
from_least (e ∷ es) k m name le =
    ap (is_below m) (numbered_meant (names_of e) k (names_from (suc k) es) name) ∙ by_test (list_any (bytes_eq name) (names_of e)) (from_least es (suc k) m name (omega (arith, le)))
  where
    by_test : (is : Bool) → is_below m (meaning_in (names_from (suc k) es) name) ≡ false → is_below m (cond is (Some k) (meaning_in (names_from (suc k) es) name)) ≡ false
    by_test true more = grind (arith, nat_tests, le)
    by_test false more = more

-- a name has a meaning after some entries where the first of all that has it is one of them
pub known_before : (ds es : List Source) (k n : ℕ) (name : List ℕ) → n ≡ k + length ds → is_some (last_named name ds) ≡ is_below n (meaning_in (names_from k (ds ++ es)) name)
known_before [] es k n name is = sym (from_least es k n name (omega (arith, is)))
known_before (d ∷ ds) es k n name is =
    by_test (list_any (bytes_eq name) (names_of d)) (last_named name ds) (known_before ds es (suc k) n name (omega (arith, is)))
    ∙ sym (ap (is_below n) (numbered_meant (names_of d) k (names_from (suc k) (ds ++ es)) name))
  where
    low : true ≡ ltb k n
    low = grind (arith, nat_tests, is)

    by_test : (has : Bool) (o : Option ℕ) → is_some o ≡ is_below n (meaning_in (names_from (suc k) (ds ++ es)) name) → is_some (after_first o has) ≡ is_below n (cond has (Some k) (meaning_in (names_from (suc k) (ds ++ es)) name))
    by_test true None more = low
    by_test true (Some i) more = low
    by_test false None more = more
    by_test false (Some i) more = more

-- an entry that is meant is there
pub last_within : (es : List Source) (name : List ℕ) → IfSome (last_named name es) (λ i. i < length es)
last_within [] name = tt
last_within (e ∷ es) name = by_answer (last_named name es) (list_any (bytes_eq name) (names_of e)) (last_within es name)
  where
    by_answer : (o : Option ℕ) (has : Bool) → IfSome o (λ i. i < length es) → IfSome (after_first o has) (λ i. i < suc (length es))
    by_answer None true lt = omega arith
    by_answer None false lt = tt
    by_answer (Some i) has lt = omega (arith, lt)

-- the entry whose key is refused is there
pub repeated_within : (names : Names) (k n : ℕ) (es : List Source) → first_repeated names k es ≡ Some n → n < k + length es
repeated_within names k n [] is = absurd cc
repeated_within names k n (e ∷ es) is = by_test (is_below k (meaning_in names e.key)) is (repeated_within names (suc k) n es)
  where
    number : Option ℕ → ℕ
    number None = 0
    number (Some i) = i

    by_test : (b : Bool) → cond b (Some k) (first_repeated names (suc k) es) ≡ Some n → (first_repeated names (suc k) es ≡ Some n → n < suc k + length es) → n < k + suc (length es)
    by_test true e more = let same : k ≡ n = ap number e in omega (arith, same)
    by_test false e more = let low = more e in omega (arith, low)

-- an index that is there and is no less than a number
abbrev IsFrom : ℕ → Option ℕ → Type 0
IsFrom n None = ⊥
IsFrom n (Some i) = n ≤ i

not_below : (n : ℕ) (o : Option ℕ) → IsFrom n o → is_below n o ≡ false
not_below n None from = absurd from
not_below n (Some i) from = grind (arith, nat_tests, from)

-- the last entry that has the key of an entry is none before that one
key_from : (es : List Source) (e : Source) (ds : List Source) → IsFrom (length ds) (last_named e.key (ds ++ e ∷ es))
key_from es e [] = by_answer (last_named e.key es) (bytes_eq e.key e.key) ((bytes_eq-Decides e.key e.key).1 refl)
  where
    by_answer : (o : Option ℕ) (b : Bool) → b ≡ true → IsFrom 0 (after_first o (b || list_any (bytes_eq e.key) (listed (field_text (codes "ids") e.fields))))
    by_answer None true is = omega arith
    by_answer None false is = absurd (true≢false (sym is))
    by_answer (Some i) b is = omega arith
key_from es e (d ∷ ds) = by_answer (last_named e.key (ds ++ e ∷ es)) (list_any (bytes_eq e.key) (names_of d)) (key_from es e ds)
  where
    by_answer : (o : Option ℕ) (b : Bool) → IsFrom (length ds) o → IsFrom (suc (length ds)) (after_first o b)
    by_answer None b from = absurd from
    by_answer (Some i) b from = omega (arith, from)

-- where each name means the last entry that has it, no key is a name of an entry before
pub none_repeated : (names : Names) (ds es : List Source) → ((name : List ℕ) → meaning_in names name ≡ last_named name (ds ++ es)) → first_repeated names (length ds) es ≡ None
none_repeated names ds [] same = refl
none_repeated names ds (e ∷ es) same =
    by_test (is_below (length ds) (meaning_in names e.key)) (ap (is_below (length ds)) (same e.key) ∙ not_below (length ds) (last_named e.key (ds ++ e ∷ es)) (key_from es e ds))
    (ap (λ (n : ℕ). first_repeated names n es) (sym (length_last ds e)) ∙ none_repeated names (ds ++ e ∷ []) es (λ name. same name ∙ ap (last_named name) (sym (moved_over ds es e))))
  where
    by_test : (b : Bool) → b ≡ false → first_repeated names (suc (length ds)) es ≡ None → cond b (Some (length ds)) (first_repeated names (suc (length ds)) es) ≡ None
    by_test true e more = absurd (true≢false e)
    by_test false e more = more
