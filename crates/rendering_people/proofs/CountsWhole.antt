-- Properties as they lie in memory.
use Rattle.std.proofs.Common.{arith, ◌≡◌, ℕ, suc, zero, ◌+◌, ◌-◌, ◌<◌, ◌≤◌, min, max, Bool, true, false, cond, List, [], ◌∷◌, ◌++◌, map, length, take, drop, refl, sym, ap, ◌∙◌}
use Rattle.std.specs.Prelude.{nat_lt, nat_le, sum_by, slice_set, ◌&&◌, ◌||◌}
use Rattle.std.specs.List.{list_any, list_all}
use Rattle.std.proofs.lemmas.List.{length-take-le, length-drop, take-append-drop, take-set-le, drop-set-lt, drop-set-add}
use Rattle.std.proofs.lemmas.Bool.Decides.{nat_tests}
use Rattle.std.proofs.lemmas.List.Sums.{sum_by-cons}
use Rattle.rendering_people.specs.Properties.{VariableProperties, Properties, showing, adds_name, all_forms, all_shown, with_form}
use Rattle.rendering_people.specs.Counts.{cut, counts_of, all_people, is_within, IsWhole, counted}
use Rattle.rendering_people.specs.declared.properties.PeopleCount.{PeopleCount}
use Rattle.rendering_taxonomy.specs.declared.name.DisambiguatedNameForm.{DisambiguatedNameForm}

abbrev Forms : Type 0
Forms = List DisambiguatedNameForm

-- what is printed of the people of a variable
abbrev pub of_count : PeopleCount → Forms → VariableProperties
of_count c fs = record { variable = c.variable; forms = fs; shown = c.shown }

-- there are as many forms as people of the first variable and of the others
pub first_fits : (n m : ℕ) (fs : Forms) → length fs ≡ n + m → length (take n fs) ≡ n
first_fits n m fs e = let low : n ≤ length fs = omega arith in length-take-le n fs low

pub others_fit : (n m : ℕ) (fs : Forms) → length fs ≡ n + m → length (drop n fs) ≡ m
others_fit n m fs e = let f : length (drop n fs) ≡ length fs - n = length-drop n fs in omega arith

-- each form stands once
pub all_forms-cut : (cs : List PeopleCount) (fs : Forms) → length fs ≡ all_people cs → all_forms (cut cs fs) ≡ fs
all_forms-cut [] [] e = refl
all_forms-cut [] (f ∷ fs) e = absurd (omega arith)
all_forms-cut (c ∷ cs) fs e = ap (λ gs. take c.people fs ++ gs) (all_forms-cut cs (drop c.people fs) (others_fit c.people (all_people cs) fs e)) ∙ take-append-drop c.people fs

-- the numbers stand with the forms
pub counts_of-cut : (cs : List PeopleCount) (fs : Forms) → length fs ≡ all_people cs → counts_of (cut cs fs) ≡ cs
counts_of-cut [] fs e = refl
counts_of-cut (c ∷ cs) fs e =
    λ i. record { variable = c.variable; people = first_fits c.people (all_people cs) fs e i; shown = c.shown }
    ∷ counts_of-cut cs (drop c.people fs) (others_fit c.people (all_people cs) fs e) i

-- the numbers are those of the variables
pub all_shown-cut : (cs : List PeopleCount) (fs : Forms) → all_shown (cut cs fs) ≡ sum_by (λ c. c.shown) cs
all_shown-cut [] fs = refl
all_shown-cut (c ∷ cs) fs =
    sum_by-cons (λ (p : VariableProperties). p.shown) (record { variable = c.variable; forms = take c.people fs; shown = c.shown }) (cut cs (drop c.people fs))
    ∙ ap (λ n. c.shown + n) (all_shown-cut cs (drop c.people fs))
    ∙ sym (sum_by-cons (λ (d : PeopleCount). d.shown) c cs)

-- more people are shown of each variable
pub cut-counted : (n : ℕ) (cs : List PeopleCount) (fs : Forms) → length fs ≡ all_people cs → cut (map (counted n) cs) fs ≡ map (showing n) (cut cs fs)
cut-counted n [] fs e = refl
cut-counted n (c ∷ cs) fs e = λ i.
    record { variable = c.variable; forms = take c.people fs; shown = min (sym (first_fits c.people (all_people cs) fs e) i) (max c.shown n) }
    ∷ cut-counted n cs (drop c.people fs) (others_fit c.people (all_people cs) fs e) i

-- and that is more than before
pub adds-counted : (n : ℕ) (cs : List PeopleCount) (fs : Forms) → length fs ≡ all_people cs → list_any (λ c. nat_lt c.shown (counted n c).shown) cs ≡ adds_name n (cut cs fs)
adds-counted n [] fs e = refl
adds-counted n (c ∷ cs) fs e = λ i.
    nat_lt c.shown (min (sym (first_fits c.people (all_people cs) fs e) i) (max c.shown n))
    || adds-counted n cs (drop c.people fs) (others_fit c.people (all_people cs) fs e) i

people-counted : (n : ℕ) (cs : List PeopleCount) → all_people (map (counted n) cs) ≡ all_people cs
people-counted n [] = refl
people-counted n (c ∷ cs) = ap (λ k. c.people + k) (people-counted n cs)

pub min_within : (m n : ℕ) → nat_le (min m n) m ≡ true
min_within m n = grind (arith, nat_tests)

within-counted : (n : ℕ) (cs : List PeopleCount) → list_all is_within (map (counted n) cs) ≡ true
within-counted n [] = refl
within-counted n (c ∷ cs) = λ i. min_within c.people (max c.shown n) i && within-counted n cs i

-- it is whole still
pub whole-counted : (n : ℕ) (cs : List PeopleCount) (fs : Forms) → IsWhole cs fs → IsWhole (map (counted n) cs) fs
whole-counted n cs fs w = record { people = w.people ∙ sym (people-counted n cs); shown = within-counted n cs }

-- those who are shown are among those who are there
pub shown-within : (cs : List PeopleCount) → list_all is_within cs ≡ true → sum_by (λ c. c.shown) cs ≤ all_people cs
shown-within [] all = omega arith
shown-within (c ∷ cs) all =
    let here : c.shown ≤ c.people = le_of c.shown c.people (first_true (is_within c) (list_all is_within cs) all) in
    let others : sum_by (λ (d : PeopleCount). d.shown) cs ≤ all_people cs = shown-within cs (second_true (is_within c) (list_all is_within cs) all) in
    let sum : sum_by (λ (d : PeopleCount). d.shown) (c ∷ cs) ≡ c.shown + sum_by (λ (d : PeopleCount). d.shown) cs = sum_by-cons (λ (d : PeopleCount). d.shown) c cs in
    omega arith
  where
    le_of : (m n : ℕ) → nat_le m n ≡ true → m ≤ n
    le_of m n e = grind (arith, nat_tests)

    first_true : (a b : Bool) → a && b ≡ true → a ≡ true
    first_true true b e = refl
    first_true false b e = absurd cc

    second_true : (a b : Bool) → a && b ≡ true → b ≡ true
    second_true true b e = e
    second_true false b e = absurd cc

-- one form changes in the run
take-set : (n : ℕ) (fs : Forms) (i : ℕ) (f : DisambiguatedNameForm) → i < n → take n (slice_set fs i f) ≡ slice_set (take n fs) i f
take-set zero fs i f low = absurd (omega arith)
take-set (suc n) [] i f low = refl
take-set (suc n) (g ∷ fs) zero f low = refl
take-set (suc n) (g ∷ fs) (suc i) f low = ap (λ gs. g ∷ gs) (take-set n fs i f (omega arith))

pub cut-set : (i : ℕ) (f : DisambiguatedNameForm) (cs : List PeopleCount) (fs : Forms) → length fs ≡ all_people cs → with_form i f (cut cs fs) ≡ cut cs (slice_set fs i f)
cut-set i f [] fs e = refl
cut-set i f (c ∷ cs) fs e =
    ap (λ n. cond (nat_lt i n) changed_here (c_shown ∷ with_form (i - n) f (cut cs (drop c.people fs)))) (first_fits c.people (all_people cs) fs e)
    ∙ by_index (cut-set (i - c.people) f cs (drop c.people fs) (others_fit c.people (all_people cs) fs e)) (nat_lt i c.people) refl
  where
    c_shown : VariableProperties
    c_shown = record { variable = c.variable; forms = take c.people fs; shown = c.shown }

    changed_here : Properties
    changed_here = record { variable = c.variable; forms = slice_set (take c.people fs) i f; shown = c.shown } ∷ cut cs (drop c.people fs)

    by_index : with_form (i - c.people) f (cut cs (drop c.people fs)) ≡ cut cs (slice_set (drop c.people fs) (i - c.people) f)
        → (b : Bool) → nat_lt i c.people ≡ b → cond b changed_here (c_shown ∷ with_form (i - c.people) f (cut cs (drop c.people fs))) ≡ cut (c ∷ cs) (slice_set fs i f)
    by_index others true low =
        let under : i < c.people = grind (arith, nat_tests) in
        λ j. record { variable = c.variable; forms = sym (take-set c.people fs i f under) j; shown = c.shown } ∷ cut cs (sym (drop-set-lt c.people fs i f under) j)
    by_index others false high =
        let over : c.people ≤ i = grind (arith, nat_tests) in
        let split : c.people + (i - c.people) ≡ i = omega arith in
        λ j. record { variable = c.variable; forms = sym (take-set-le c.people fs i f over) j; shown = c.shown }
        ∷ (others
        ∙ ap (cut cs) (sym (drop-set-add c.people fs (i - c.people) f) ∙ ap (λ k. drop c.people (slice_set fs k f)) split)) j
