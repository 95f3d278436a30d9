-- Numbers and forms that are raised in the run are those of the properties that are raised.
use Rattle.std.proofs.Common.{arith, ◌≡◌, ℕ, suc, zero, ◌+◌, ◌<◌, ◌≤◌, min, max, Bool, true, false, cond, List, [], ◌∷◌, ◌++◌, map, length, take, drop, get_or, Option, Some, None, refl, sym, ap, ◌∙◌}
use Rattle.std.specs.Prelude.{◌==◌, ◌&&◌, find, slice_get}
use Rattle.std.specs.List.{list_all}
use Rattle.std.proofs.lemmas.List.{append_assoc, length-append, take_at, drop_at, take_more, take_all, at_drop_more}
use Rattle.std.specs.Borrow.{Bor}
use Rattle.std.specs.Option.{option_map, IfSome, MatchOption}
use Rattle.std.proofs.lemmas.Option.{slice_get_past, slice_get-get_or}
use Rattle.rendering_taxonomy.specs.Variables.{is_name_variable}
use Rattle.rendering_people.specs.Properties.{is_of_same, at_least, greater_forms, raised_to}
use Rattle.rendering_people.specs.Counts.{cut, all_people, is_within, IsWhole}
use Rattle.rendering_people.specs.Raised.{is_same_count, raised_by, raised_count, forms_like, raised_forms, greater_or}
use Rattle.rendering_people.specs.declared.properties.PeopleCount.{PeopleCount}
use Rattle.rendering_people.proofs.CountsWhole.{first_fits, min_within, of_count, others_fit}
use Rattle.rendering_taxonomy.specs.declared.name.DisambiguatedNameForm.{DisambiguatedNameForm}

abbrev Forms : Type 0
Forms = List DisambiguatedNameForm

greater-nil : (fs : Forms) → greater_forms fs [] ≡ fs
greater-nil [] = refl
greater-nil (f ∷ fs) = refl

pub length-greater : (fs gs : Forms) → length (greater_forms fs gs) ≡ length fs
length-greater [] gs = refl
length-greater (f ∷ fs) [] = refl
length-greater (f ∷ fs) (g ∷ gs) = ap suc (length-greater fs gs)

greater_at : (fs gs : Forms) (i : ℕ) (d : DisambiguatedNameForm) → i < length fs → get_or (greater_forms fs gs) i d ≡ greater_or (get_or fs i d) (slice_get gs i)
greater_at [] gs i d low = absurd (omega arith)
greater_at (f ∷ fs) [] i d low = refl
greater_at (f ∷ fs) (g ∷ gs) zero d low = refl
greater_at (f ∷ fs) (g ∷ gs) (suc i) d low = greater_at fs gs i d (omega arith)

-- the greater form at one more index
pub greater_more : (fs gs start old new : Forms) (i : ℕ) (d f : DisambiguatedNameForm) → i < length fs → old ≡ start ++ take i (greater_forms fs gs)
    → f ≡ greater_or (get_or fs i d) (slice_get gs i) → new ≡ old ++ f ∷ [] → new ≡ start ++ take (i + 1) (greater_forms fs gs)
greater_more fs gs start old new i d f low before is_f after =
    let there : i < length (greater_forms fs gs) = omega (arith, length-greater fs gs) in
    after
    ∙ (λ k. before k ++ (is_f ∙ sym (greater_at fs gs i d low)) k ∷ [])
    ∙ append_assoc start (take i (greater_forms fs gs)) (get_or (greater_forms fs gs) i d ∷ [])
    ∙ ap (λ hs. start ++ hs) (sym (take_more (greater_forms fs gs) i d there))

-- the form of others at an index
pub other_at : (gs : Forms) (i : ℕ) (o : Option (Bor DisambiguatedNameForm)) (P : Bor DisambiguatedNameForm → Type 0) → IfSome o (λ x. x.now ≡ get_or gs i x.now)
    → MatchOption o (length gs ≤ i) (λ x. (i < length gs) × P x) → option_map (λ f. f.now) o ≡ slice_get gs i
other_at gs i None P there bounds = sym (slice_get_past gs i bounds)
other_at gs i (Some x) P there bounds = ap (λ (f : DisambiguatedNameForm). Some f) there ∙ sym (slice_get-get_or gs i x.now bounds.0)

-- the greater forms at all indices
pub greater_all : (fs gs start old : Forms) (i : ℕ) → length fs ≤ i → old ≡ start ++ take i (greater_forms fs gs) → old ≡ start ++ greater_forms fs gs
greater_all fs gs start old i past before =
    let long : length (greater_forms fs gs) ≤ i = omega (arith, length-greater fs gs) in
    before ∙ ap (λ hs. start ++ hs) (take_all i (greater_forms fs gs) long)

-- the forms of one more variable
pub run_goes_on : (cs : List PeopleCount) (ds : List PeopleCount) (gs rest others own like old new all : Forms) (i : ℕ) (d : PeopleCount) → i < length cs
    → own ≡ take (get_or cs i d).people rest → others ≡ drop (get_or cs i d).people rest → like ≡ forms_like (get_or cs i d) ds gs
    → old ++ raised_forms (drop i cs) rest ds gs ≡ all → new ≡ old ++ greater_forms own like
    → new ++ raised_forms (drop (i + 1) cs) others ds gs ≡ all
run_goes_on cs ds gs rest others own like old new all i d low is_own is_others is_like before after =
    let c = get_or cs i d in
    (λ k. (after ∙ (λ j. old ++ greater_forms (is_own j) (is_like j))) k ++ raised_forms (drop (i + 1) cs) (is_others k) ds gs)
    ∙ append_assoc old (greater_forms (take c.people rest) (forms_like c ds gs)) (raised_forms (drop (i + 1) cs) (drop c.people rest) ds gs)
    ∙ sym (at_drop_more (λ es. old ++ raised_forms es rest ds gs) cs i d low)
    ∙ before

-- the forms of the first that is alike are not those of one that is not
pub like_goes_on : (c : PeopleCount) (ds : List PeopleCount) (rest after : Forms) (i : ℕ) (d : PeopleCount) → i < length ds → is_same_count c (get_or ds i d) ≡ false
    → after ≡ drop (get_or ds i d).people rest → forms_like c (drop (i + 1) ds) after ≡ forms_like c (drop i ds) rest
like_goes_on c ds rest after i d low differs is_after =
    let e = get_or ds i d in
    ap (forms_like c (drop (i + 1) ds)) is_after
    ∙ ap (λ b. cond b (take e.people rest) (forms_like c (drop (i + 1) ds) (drop e.people rest))) (sym differs)
    ∙ sym (at_drop_more (λ es. forms_like c es rest) ds i d low)

pub like_is : (c : PeopleCount) (ds : List PeopleCount) (rest own : Forms) (i : ℕ) (d : PeopleCount) → i < length ds → is_same_count c (get_or ds i d) ≡ true
    → own ≡ take (get_or ds i d).people rest → own ≡ forms_like c (drop i ds) rest
like_is c ds rest own i d low agrees is_own =
    let e = get_or ds i d in
    is_own
    ∙ ap (λ b. cond b (take e.people rest) (forms_like c (drop (i + 1) ds) (drop e.people rest))) (sym agrees)
    ∙ sym (at_drop_more (λ es. forms_like c es rest) ds i d low)

people-raised : (c : PeopleCount) (o : Option PeopleCount) → (raised_by c o).people ≡ c.people
people-raised c None = refl
people-raised c (Some d) = refl

within-raised : (c : PeopleCount) (o : Option PeopleCount) → is_within c ≡ true → is_within (raised_by c o) ≡ true
within-raised c None e = e
within-raised c (Some d) e = min_within c.people (max c.shown d.shown)

-- one variable
one-raised : (c : PeopleCount) (fs : Forms) (ds : List PeopleCount) (gs : Forms) → length fs ≡ c.people → length gs ≡ all_people ds
    → at_least (of_count c fs) (find (is_of_same (of_count c fs)) (cut ds gs)) ≡ of_count (raised_count ds c) (greater_forms fs (forms_like c ds gs))
one-raised c fs [] gs own all = ap (of_count c) (sym (greater-nil fs))
one-raised c fs (d ∷ ds) gs own all =
    ap (λ b. at_least (of_count c fs) (cond b (Some (of_count d (take d.people gs))) (find (is_of_same (of_count c fs)) (cut ds (drop d.people gs)))))
    (λ i. is_name_variable c.variable d.variable && (own i == first_fits d.people (all_people ds) gs all i))
    ∙ by_same (one-raised c fs ds (drop d.people gs) own (others_fit d.people (all_people ds) gs all)) (is_same_count c d)
  where
    by_same : at_least (of_count c fs) (find (is_of_same (of_count c fs)) (cut ds (drop d.people gs))) ≡ of_count (raised_count ds c) (greater_forms fs (forms_like c ds (drop d.people gs)))
        → (b : Bool)
        → at_least (of_count c fs) (cond b (Some (of_count d (take d.people gs))) (find (is_of_same (of_count c fs)) (cut ds (drop d.people gs))))
        ≡ of_count (raised_by c (cond b (Some d) (find (is_same_count c) ds))) (greater_forms fs (cond b (take d.people gs) (forms_like c ds (drop d.people gs))))
    by_same others true = λ i. record { variable = c.variable; forms = greater_forms fs (take d.people gs); shown = min (own i) (max c.shown d.shown) }
    by_same others false = others

-- as many forms as people, raised
fits : (c : PeopleCount) (fs : Forms) (o : Option PeopleCount) (gs : Forms) (n : ℕ) → length fs ≡ c.people + n → length (greater_forms (take c.people fs) gs) ≡ (raised_by c o).people
fits c fs o gs n all = length-greater (take c.people fs) gs ∙ first_fits c.people n fs all ∙ sym (people-raised c o)

pub cut-raised : (cs : List PeopleCount) (fs : Forms) (ds : List PeopleCount) (gs : Forms) → length fs ≡ all_people cs → length gs ≡ all_people ds
    → cut (map (raised_count ds) cs) (raised_forms cs fs ds gs) ≡ raised_to (cut ds gs) (cut cs fs)
cut-raised [] fs ds gs own all = refl
cut-raised (c ∷ cs) fs ds gs own all =
    let first = greater_forms (take c.people fs) (forms_like c ds gs) in
    let rest = raised_forms cs (drop c.people fs) ds gs in
    let n = (raised_count ds c).people in
    let long : length first ≡ n = fits c fs (find (is_same_count c) ds) (forms_like c ds gs) (all_people cs) own in
    λ i. (ap (of_count (raised_count ds c)) (take_at first rest n long) ∙ sym (one-raised c (take c.people fs) ds gs (first_fits c.people (all_people cs) fs own) all)) i
    ∷ (ap (cut (map (raised_count ds) cs)) (drop_at first rest n long) ∙ cut-raised cs (drop c.people fs) ds gs (others_fit c.people (all_people cs) fs own) all) i

length-run : (cs : List PeopleCount) (fs : Forms) (ds : List PeopleCount) (gs : Forms) → length fs ≡ all_people cs → length (raised_forms cs fs ds gs) ≡ all_people (map (raised_count ds) cs)
length-run [] fs ds gs own = refl
length-run (c ∷ cs) fs ds gs own =
    length-append (greater_forms (take c.people fs) (forms_like c ds gs)) (raised_forms cs (drop c.people fs) ds gs)
    ∙ (λ i. fits c fs (find (is_same_count c) ds) (forms_like c ds gs) (all_people cs) own i + length-run cs (drop c.people fs) ds gs (others_fit c.people (all_people cs) fs own) i)

all-within : (ds cs : List PeopleCount) → list_all is_within cs ≡ true → list_all is_within (map (raised_count ds) cs) ≡ true
all-within ds [] all = refl
all-within ds (c ∷ cs) all = λ i.
    within-raised c (find (is_same_count c) ds) (first_true (is_within c) (list_all is_within cs) all) i
    && all-within ds cs (second_true (is_within c) (list_all is_within cs) all) i
  where
    first_true : (a b : Bool) → a && b ≡ true → a ≡ true
    first_true true b e = refl
    first_true false b e = absurd cc

    second_true : (a b : Bool) → a && b ≡ true → b ≡ true
    second_true true b e = e
    second_true false b e = absurd cc

-- it is whole still
pub whole-raised : (cs : List PeopleCount) (fs : Forms) (ds : List PeopleCount) (gs : Forms) → IsWhole cs fs → IsWhole (map (raised_count ds) cs) (raised_forms cs fs ds gs)
whole-raised cs fs ds gs w = record { people = length-run cs fs ds gs w.people; shown = all-within ds cs w.shown }
