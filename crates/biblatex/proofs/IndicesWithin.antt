-- Names mean indices of entries that there are, whatever changes.
use Rattle.std.proofs.Common.{◌≡◌, ℕ, suc, ◌+◌, ◌-◌, ◌<◌, ◌++◌, Bool, true, false, cond, eqb, ltb, List, [], ◌∷◌, length, Option, Some, None, Result, Ok, Err, Vec, Global, map, take, drop, refl, sym, ap, subst, ◌∙◌, arith}
use Rattle.std.specs.Prelude.{IfSome, option_and_then, OnOk, OnErr, remove, filter_map}
use Rattle.std.specs.List.{list_any}
use Rattle.std.specs.Str.{bytes_eq}
use Rattle.std.proofs.lemmas.Bool.Decides.{nat_tests}
use Rattle.std.proofs.lemmas.List.{take-map, drop-map, map-append}
use Rattle.biblatex_entries.specs.declared.entry.Entry.{Entry}
use Rattle.biblatex_entries.specs.Entries.{source_view, sources_view, parents_of}
use Rattle.biblatex.specs.declared.indices.NamedIndex.{NamedIndex}
use Rattle.biblatex_meaning.specs.Listed.{Meaning, bound, references}
use Rattle.biblatex.specs.Indices.{meaning_in, names_in, AreWithin, index_without, without_index}

-- names are bound to an index below a count that is no less
pub bound_within : (names : List (List ℕ)) (index n k : ℕ) (m f : Meaning) → f ≡ bound names index m → index < k → n < suc k → AreWithin m n → AreWithin f k
bound_within names index n k m f e lt le within = subst (λ (g : Meaning). AreWithin g k) (sym e) (λ name. by_test (list_any (bytes_eq name) names) (m name) (within name))
  where
    by_test : (b : Bool) (o : Option ℕ) → IfSome o (λ i. i < n) → IfSome (cond b (Some index) o) (λ i. i < k)
    by_test true o w = lt
    by_test false None w = tt
    by_test false (Some i) w = omega (arith, w, le)

-- names are bound to an index below a count, or there was no memory for it
pub bound_or_same : {A E : Type 0} (r : Result A E) (names : List (List ℕ)) (index count : ℕ) (ns ms : List NamedIndex) → OnOk r (meaning_in (names_in ms) ≡ bound names index (meaning_in (names_in ns))) → OnErr r (ms ≡ ns) → index < count
    → AreWithin (meaning_in (names_in ns)) count → AreWithin (meaning_in (names_in ms)) count
bound_or_same (Ok a) names index count ns ms ok err lt within = bound_within names index count count (meaning_in (names_in ns)) (meaning_in (names_in ms)) ok lt (omega arith) within
bound_or_same (Err e) names index count ns ms ok err lt within = subst (λ (xs : List NamedIndex). AreWithin (meaning_in (names_in xs)) count) (sym err) within

-- what a name that means something means
pub known : (meaning : Option ℕ) (index count : ℕ) → Some index ≡ meaning → IfSome meaning (λ i. i < count) → index < count
known meaning index count is within = subst (λ (o : Option ℕ). IfSome o (λ i. i < count)) (sym is) within

-- what follows where a call went well
pub then_ok : {A E : Type 0} (r : Result A E) (P Q : Type 0) → OnOk r P → (P → Q) → OnOk r Q
then_ok (Ok a) P Q p f = f p
then_ok (Err x) P Q p f = tt

-- once an entry is taken out, names mean indices of the entries that are left
pub out_within : (out n k : ℕ) (m f : Meaning) → f ≡ without_index out m → out < n → k + 1 ≡ n → AreWithin m n → AreWithin f k
out_within out n k m f e lt is within = subst (λ (g : Meaning). AreWithin g k) (sym e) (λ name. by_index (m name) (within name))
  where
    by_tests : (v : ℕ) → v < n → (b c : Bool) → eqb v out ≡ b → ltb out v ≡ c → IfSome (cond b None (Some (cond c (v - 1) v))) (λ i. i < k)
    by_tests v w true c p q = tt
    by_tests v w false true p q = grind (arith, nat_tests, p, q, w, lt, is)
    by_tests v w false false p q = grind (arith, nat_tests, p, q, w, lt, is)

    by_index : (o : Option ℕ) → IfSome o (λ i. i < n) → IfSome (option_and_then (index_without out) o) (λ i. i < k)
    by_index None w = tt
    by_index (Some v) w = by_tests v w (eqb v out) (ltb out v) refl refl

-- the view of entries without one is the view of them without that one
pub sources-remove : (es : List Entry) (i : ℕ) → sources_view (remove es i) ≡ remove (sources_view es) i
sources-remove es i = map-append source_view (take i es) (drop (suc i) es) ∙ rw (take-map source_view i es, drop-map source_view (suc i) es) refl

-- the references of one more entry stand after those before
pub refer_more : (f : Meaning) (e : Entry) (before : List (Vec ℕ Global)) (v : Vec ℕ Global) (rest : List Entry) → v.items ≡ filter_map f (parents_of e.fields)
    → map (λ r. r.items) (before ++ v ∷ []) ++ references (record { entries = sources_view rest; index = f }) ≡ map (λ r. r.items) before ++ references (record { entries = sources_view (e ∷ rest); index = f })
refer_more f e [] v rest is = ap (λ (ns : List ℕ). ns ∷ references (record { entries = sources_view rest; index = f })) is
refer_more f e (d ∷ before) v rest is = ap (λ (ns : List (List ℕ)). d.items ∷ ns) (refer_more f e before v rest is)
