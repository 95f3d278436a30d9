-- Namesakes in other cites, by how many people there are of each name in all cites and in the cite itself.
use Rattle.std.proofs.Common.{◌≡◌, ℕ, ◌+◌, ◌-◌, ◌<◌, Bool, true, false, cond, not, ◌&&◌, ◌||◌, nat_eq, nat_lt, List, [], ◌∷◌, ◌++◌, map, length, get_or, drop, replicate, refl, sym, ap, ◌∙◌, Option, Some, None, arith}
use Rattle.std.specs.Prelude.{◌==◌, count_by, filter, slice_get}
use Rattle.std.specs.List.{flat_map, list_any, sum_by}
use Rattle.std.specs.Option.{option_and_then, option_eq}
use Rattle.std.specs.Str.{bytes_eq}
use Rattle.std.proofs.Math.Path.{fun_ext}
use Rattle.std.proofs.lemmas.Bool.{or_parts}
use Rattle.std.proofs.lemmas.List.{drop_more, get_or-map, map-append}
use Rattle.std.proofs.lemmas.List.Sums.{sum_by-append, sum_by-cons}
use Rattle.std.proofs.lemmas.Simd.{splat_is_map}
use Rattle.std.proofs.lemmas.Slice.Eq.{bytes_eq-Decides}
use Rattle.laws.specs.Text.{is_filled}
use Rattle.laws.proofs.Equality.{Decides-moved}
use Rattle.literature_values.specs.PersonViews.{Named}
use Rattle.rendering_tree.specs.Metas.{is_person}
use Rattle.rendering_tree.proofs.SameDecided.{Decides-is_person}
use Rattle.rendering_tree.proofs.ViewsEquality.{agreed}
use Rattle.driver_names.specs.Keys.{IsTally, tallied}
use Rattle.driver_names.specs.Names.{Member, form_against, form_wanted, initials, is_by_entry, is_namesake, is_of_entry, namesakes, others}
use Rattle.driver_names.specs.Namesakes.{IsCount, all_people, form_after, form_among, form_at, form_counted, forms_after, has_more, has_same, is_raised, is_raised_after, is_same_scoped, part_of, parts_within, people_within, scoped_parts, scoped_view}
use Rattle.driver_names.specs.NamesViews.{is_alike_namesake}
use Rattle.driver_names.specs.Shared.{AreInOrder, compared_name_view, shared_people}
use Rattle.driver_names.specs.contracts.names_compared.ComparedNamePartialEq.TheImpl as name
use Rattle.driver_names.specs.declared.names_compared.ComparedName.{ComparedName}
use Rattle.driver_names.specs.declared.namesakes.NamePart.{NamePart}
use Rattle.driver_names.specs.declared.namesakes.NamePart.TheVariants as parts
use Rattle.driver_names.specs.declared.same_keys.Tally.{Tally}
use Rattle.driver_names.proofs.Counting.{any_count, counts-among, some_more, weigh_apart, weigh_others}
use Rattle.driver_names.proofs.NamesDistinguished.{any-filter}
use Rattle.driver_names.proofs.NamesShared.{names_agree, none_more}
use Rattle.rendering_taxonomy.specs.declared.name.DisambiguatedNameForm.{DisambiguatedNameForm}
use Rattle.rendering_taxonomy.specs.declared.name.DisambiguatedNameForm.TheVariants as forms

and_yes : (a : Bool) → a ≡ (a && true)
and_yes true = refl
and_yes false = refl

three_yes : (a : Bool) → (((a && true) && true) && true) ≡ a
three_yes true = refl
three_yes false = refl

two_yes : (a : Bool) → ((a && true) && true) ≡ a
two_yes true = refl
two_yes false = refl

-- as many pass a test in all parts as in each together
count_flat : {X Y : Type 0} (test : Y → Bool) (parts : X → List Y) (xs : List X) → count_by test (flat_map parts xs) ≡ sum_by (λ x. count_by test (parts x)) xs
count_flat test parts [] = refl
count_flat test parts (x ∷ xs) =
    sum_by-append (λ y. cond (test y) 1 0) (parts x) (flat_map parts xs)
    ∙ ap (λ n. count_by test (parts x) + n) (count_flat test parts xs)
    ∙ sym (sum_by-cons (λ z. count_by test (parts z)) x xs)

-- some people of some cites pass a test where more do in all cites than in others
more_people : (test : Named → Bool) (ms left : List Member) (own : ℕ) → sum_by (λ o. count_by test o.people) ms ≡ sum_by (λ o. count_by test o.people) left + own
    → list_any test (flat_map (λ o. o.people) left) ≡ nat_lt own (count_by test (all_people ms))
more_people test ms left own whole =
    let apart = count_by test (flat_map (λ o. o.people) left) in
    let all : count_by test (all_people ms) ≡ apart + own =
    count_flat test (λ o. o.people) ms ∙ whole ∙ ap (λ n. n + own) (sym (count_flat test (λ o. o.people) left)) in
    any_count test (flat_map (λ o. o.people) left) ∙ some_more own apart (nat_lt 0 apart) refl ∙ ap (nat_lt own) (sym all)

person_cases : (test : Named → Bool) (ms : List Member) (i : ℕ) (m : Member) → AreInOrder ms → i < length ms → get_or ms i m ≡ m → (b : Bool)
    → list_any test (flat_map (λ o. o.people) (filter (λ o. not (cond b (is_of_entry m.cite.entry o) (o.index == m.index))) ms))
    ≡ nat_lt (count_by test (cond b (people_within (Some m.cite.entry) ms) m.people)) (count_by test (all_people ms))
person_cases test ms i m order low at true =
    let own : List Member = filter (is_of_entry m.cite.entry) ms in
    let left : List Member = filter (λ o. not (is_of_entry m.cite.entry o)) ms in
    more_people test ms left (count_by test (all_people own))
    (weigh_apart (is_of_entry m.cite.entry) (λ o. count_by test o.people) ms ∙ ap (λ n. sum_by (λ o. count_by test o.people) left + n) (sym (count_flat test (λ o. o.people) own)))
person_cases test ms i m order low at false =
    more_people test ms (filter (λ o. not (o.index == m.index)) ms) (count_by test m.people) (weigh_others (λ o. o.index) (λ o. count_by test o.people) ms i m order low at)

-- a person of a cite that a cite is compared with passes a test where more do in all cites than in those that it is not compared with
another_person : (test : Named → Bool) (ms : List Member) (i : ℕ) (m : Member) → AreInOrder ms → i < length ms → get_or ms i m ≡ m
    → list_any test (flat_map (λ o. o.people) (others ms m)) ≡ has_more test ms m
another_person test ms i m order low at = person_cases test ms i m order low at (is_by_entry m)

one_kind : (f p : Bool) (n a b : ℕ) → (p ≡ true → f ≡ true) → n ≡ a + b → cond f 1 0 + n ≡ (cond (f && not p) 1 0 + a) + (cond p 1 0 + b)
one_kind true true n a b h e = omega (arith, e)
one_kind true false n a b h e = omega (arith, e)
one_kind false true n a b h e = absurd (let no : false ≡ true = h refl in cc)
one_kind false false n a b h e = omega (arith, e)

-- those that pass one test and not another are as many as pass the one, less those that pass the other, which is the narrower
counted_apart : {X : Type 0} (wide narrow : X → Bool) → ((x : X) → narrow x ≡ true → wide x ≡ true) → (xs : List X) → count_by wide xs ≡ count_by (λ x. wide x && not (narrow x)) xs + count_by narrow xs
counted_apart wide narrow within [] = refl
counted_apart wide narrow within (x ∷ xs) =
    sum_by-cons (λ y. cond (wide y) 1 0) x xs
    ∙ one_kind (wide x) (narrow x) (count_by wide xs) (count_by (λ y. wide y && not (narrow y)) xs) (count_by narrow xs) (within x) (counted_apart wide narrow within xs)
    ∙ (λ k. sym (sum_by-cons (λ y. cond (wide y && not (narrow y)) 1 0) x xs) k + sym (sum_by-cons (λ y. cond (narrow y) 1 0) x xs) k)

less_these : (n wide narrow all few : ℕ) → n ≡ all - few → all ≡ wide → few ≡ narrow → (rest : ℕ) → wide ≡ rest + narrow → n ≡ rest
less_these n wide narrow all few is a f rest whole = omega (arith, is, a, f, whole)

texts_refl : (cs : List ℕ) → bytes_eq cs cs ≡ true
texts_refl cs = (bytes_eq-Decides cs cs).1 refl

texts_symm : (cs ds : List ℕ) → bytes_eq cs ds ≡ bytes_eq ds cs
texts_symm cs ds =
    agreed (bytes_eq cs ds) (bytes_eq ds cs) (bytes_eq-Decides cs ds) (Decides-moved (bytes_eq ds cs) (bytes_eq-Decides ds cs) (λ e. sym e) (λ e. sym e))

-- people who are one have the same of each part of their names
part_refl : (part : NamePart) (p : Named) → has_same part p p ≡ true
part_refl parts.Family p = texts_refl p.name
part_refl parts.FamilyAndInitials p = λ k. texts_refl p.name k && texts_refl (initials p) k
part_refl parts.Whole p = (Decides-is_person p p).1 refl

one_person : (part : NamePart) (p q : Named) → is_person p q ≡ true → has_same part p q ≡ true
one_person part p q same = ap (has_same part p) (sym ((Decides-is_person p q).0 same)) ∙ part_refl part p

-- people of the same family name less those of the same name are namesakes
pub namesakes_left : (p : Named) (all : List Named) (n families same : ℕ) → n ≡ families - same → families ≡ count_by (has_same parts.Family p) all → same ≡ count_by (is_person p) all
    → n ≡ count_by (is_namesake p) all
namesakes_left p all n families same is many few =
    less_these n (count_by (has_same parts.Family p) all) (count_by (is_person p) all) families same is many few (count_by (is_namesake p) all) (counted_apart (has_same parts.Family p) (is_person p) (one_person parts.Family p) all)

alike_cases : (f i n : Bool) → ((f && i) && not n) ≡ ((f && not n) && i)
alike_cases true true n = λ k. and_yes (not n) k
alike_cases true false true = refl
alike_cases true false false = refl
alike_cases false i n = refl

alike_is : (p q : Named) → (has_same parts.FamilyAndInitials p q && not (is_person p q)) ≡ is_alike_namesake p q
alike_is p q =
    alike_cases (bytes_eq p.name q.name) (bytes_eq (initials p) (initials q)) (is_person p q) ∙ ap (λ b. is_namesake p q && b) (texts_symm (initials p) (initials q))

-- the same of those with the same initials
pub alike_left : (p : Named) (all : List Named) (n families same : ℕ) → n ≡ families - same → families ≡ count_by (has_same parts.FamilyAndInitials p) all → same ≡ count_by (is_person p) all
    → n ≡ count_by (is_alike_namesake p) all
alike_left p all n families same is many few =
    less_these n (count_by (has_same parts.FamilyAndInitials p) all) (count_by (is_person p) all) families same is many few (count_by (is_alike_namesake p) all)
    (counted_apart (has_same parts.FamilyAndInitials p) (is_person p) (one_person parts.FamilyAndInitials p) all
    ∙ ap (λ t. count_by t all + count_by (is_person p) all) (fun_ext (alike_is p)))

-- people of whom a part of the names is one have the same part
part_agrees : (part : NamePart) (p q : Named) → is_person (part_of part p) (part_of part q) ≡ has_same part p q
part_agrees parts.Family p q = three_yes (bytes_eq p.name q.name)
part_agrees parts.FamilyAndInitials p q = two_yes (bytes_eq p.name q.name && bytes_eq (initials p) (initials q))
part_agrees parts.Whole p q = refl

count_part : (part : NamePart) (p : Named) (all : List Named) → count_by (is_person (part_of part p)) (map (part_of part) all) ≡ count_by (has_same part p) all
count_part part p all = counts-among (λ q. Unit {0}) (part_of part) is_person (has_same part) (λ x y h g. part_agrees part x y) p tt all (λ k d low. tt)

-- whether two names among all people, or those of an entry, are equal
abbrev pub equal_scoped : Option ℕ × ComparedName → Option ℕ × ComparedName → Bool
equal_scoped k l = option_eq nat_eq k.0 l.0 && name.ghosts.eq k.1 l.1

-- whether a name among those is that of a person
abbrev names_person : Option ℕ → Named → Option ℕ × Named → Bool
names_person scope q v = option_eq nat_eq scope v.0 && is_person q v.1

-- names are the same as the people that they name
same_names : equal_scoped ≡ is_same_scoped
same_names = fun_ext (λ k. fun_ext (λ l. ap (λ b. option_eq nat_eq k.0 l.0 && b) (names_agree k.1 l.1)))

parts_counted : (part : NamePart) (scope s : Option ℕ) (q : Named) (people : List Named) (b : Bool) → option_eq nat_eq scope s ≡ b
    → count_by (names_person scope q) (parts_within part s people) ≡ cond b (count_by (is_person q) (map (part_of part) people)) 0
parts_counted part scope s q [] true h = refl
parts_counted part scope s q [] false h = refl
parts_counted part scope s q (p ∷ ps) true h =
    sum_by-cons (λ v. cond (names_person scope q v) 1 0) (s, part_of part p) (parts_within part s ps)
    ∙ (λ k. cond (h k && is_person q (part_of part p)) 1 0 + parts_counted part scope s q ps true h k)
    ∙ sym (sum_by-cons (λ v. cond (is_person q v) 1 0) (part_of part p) (map (part_of part) ps))
parts_counted part scope s q (p ∷ ps) false h =
    sum_by-cons (λ v. cond (names_person scope q v) 1 0) (s, part_of part p) (parts_within part s ps)
    ∙ (λ k. cond (h k && is_person q (part_of part p)) 1 0 + parts_counted part scope s q ps false h k)

none_extra : (part : NamePart) (entry : ℕ) (q : Named) (people : List Named) (by : Bool) → count_by (names_person None q) (cond by (parts_within part (Some entry) people) []) ≡ 0
none_extra part entry q people true = parts_counted part None (Some entry) q people false refl
none_extra part entry q people false = refl

some_extra : (part : NamePart) (entry other : ℕ) (q : Named) (people : List Named) (by near : Bool) → nat_eq entry other ≡ near
    → count_by (names_person (Some entry) q) (cond by (parts_within part (Some other) people) []) ≡ count_by (is_person q) (map (part_of part) (cond (by && near) people []))
some_extra part entry other q people true true h = parts_counted part (Some entry) (Some other) q people true h
some_extra part entry other q people true false h = parts_counted part (Some entry) (Some other) q people false h
some_extra part entry other q people false near h = refl

-- the people of a cite that are among all, or among those of an entry
abbrev people_of : Option ℕ → Member → List Named
people_of None m = m.people
people_of (Some entry) m = cond (is_of_entry entry m) m.people []

one_member : (part : NamePart) (scope : Option ℕ) (q : Named) (m : Member) → count_by (names_person scope q) (scoped_parts part m) ≡ count_by (is_person q) (map (part_of part) (people_of scope m))
one_member part None q m =
    let all = count_by (is_person q) (map (part_of part) m.people) in
    let e : all + 0 ≡ all = omega arith in
    sum_by-append (λ v. cond (names_person None q v) 1 0) (parts_within part None m.people) (cond (is_by_entry m) (parts_within part (Some m.cite.entry) m.people) [])
    ∙ (λ k. parts_counted part None None q m.people true refl k + none_extra part m.cite.entry q m.people (is_by_entry m) k)
    ∙ e
one_member part (Some entry) q m =
    sum_by-append (λ v. cond (names_person (Some entry) q v) 1 0) (parts_within part None m.people) (cond (is_by_entry m) (parts_within part (Some m.cite.entry) m.people) [])
    ∙ (λ k. parts_counted part (Some entry) None q m.people false refl k + some_extra part entry m.cite.entry q m.people (is_by_entry m) (nat_eq entry m.cite.entry) refl k)
    ∙ none_more (count_by (is_person q) (map (part_of part) (people_of (Some entry) m)))

within_step : (b : Bool) (m : Member) (ys : List Member) → all_people (cond b (m ∷ ys) ys) ≡ cond b m.people [] ++ all_people ys
within_step true m ys = refl
within_step false m ys = refl

within_cons : (scope : Option ℕ) (m : Member) (ms : List Member) → people_within scope (m ∷ ms) ≡ people_of scope m ++ people_within scope ms
within_cons None m ms = refl
within_cons (Some entry) m ms = within_step (is_of_entry entry m) m (filter (is_of_entry entry) ms)

scope_counted : (part : NamePart) (scope : Option ℕ) (q : Named) (ms : List Member)
    → count_by (names_person scope q) (flat_map (scoped_parts part) ms) ≡ count_by (is_person q) (map (part_of part) (people_within scope ms))
scope_counted part None q [] = refl
scope_counted part (Some entry) q [] = refl
scope_counted part scope q (m ∷ ms) =
    sum_by-append (λ v. cond (names_person scope q v) 1 0) (scoped_parts part m) (flat_map (scoped_parts part) ms)
    ∙ (λ k. one_member part scope q m k + scope_counted part scope q ms k)
    ∙ sym (sum_by-append (λ v. cond (is_person q v) 1 0) (map (part_of part) (people_of scope m)) (map (part_of part) (people_within scope ms)))
    ∙ ap (count_by (is_person q)) (sym (map-append (part_of part) (people_of scope m) (people_within scope ms)) ∙ ap (map (part_of part)) (sym (within_cons scope m ms)))

-- a tally of a part of names says how many people have the same
pub tally_counts : (part : NamePart) (counts : Tally (Option ℕ × ComparedName)) (names : List (Option ℕ × ComparedName)) (ms : List Member) → map scoped_view names ≡ flat_map (scoped_parts part) ms
    → IsTally equal_scoped counts names → IsCount part counts ms
tally_counts part counts names ms are tally = λ scope c p is.
    ap (λ same. tallied same counts (scope, c)) (sym same_names)
    ∙ tally (scope, c)
    ∙ sym (counts-among (λ d. Unit {0}) scoped_view (λ v w. option_eq nat_eq v.0 w.0 && is_person v.1 w.1) equal_scoped (λ d e h g. ap (λ b. option_eq nat_eq d.0 e.0 && b) (sym (names_agree d.1 e.1))) (scope, c) tt names (λ k d low. tt))
    ∙ (λ k. count_by (names_person scope (is k)) (are k))
    ∙ scope_counted part scope (part_of part p) ms
    ∙ count_part part p (people_within scope ms)

-- what a tally says of a part of a name
pub part_counted : (part : NamePart) (counts : Tally (Option ℕ × ComparedName)) (ms : List Member) (scope : Option ℕ) (c : ComparedName) (p : Named) (n : ℕ) → IsCount part counts ms
    → compared_name_view c ≡ part_of part p → n ≡ tallied equal_scoped counts (scope, c) → n ≡ count_by (has_same part p) (people_within scope ms)
part_counted part counts ms scope c p n says is found = found ∙ ap (λ same. tallied same counts (scope, c)) same_names ∙ says scope c p is

-- the form by whether there are namesakes with the same initials, and whether there are any
abbrev form_by : Bool → Bool → Option DisambiguatedNameForm
form_by same some = cond same (Some forms.LongFull) (cond some (Some forms.LongInitialized) None)

form_cases : (b : Bool) → Some (cond b forms.LongFull forms.LongInitialized) ≡ form_by b true
form_cases true = refl
form_cases false = refl

form_against_is : (p : Named) (qs : List Named) → form_against p qs ≡ form_by (list_any (λ q. bytes_eq (initials q) (initials p)) qs) (is_filled qs)
form_against_is p [] = refl
form_against_is p (q ∷ qs) = form_cases (list_any (λ r. bytes_eq (initials r) (initials p)) (q ∷ qs))

filled_cond : {X : Type 0} (b : Bool) (x : X) (xs : List X) → is_filled (cond b (x ∷ xs) xs) ≡ (b || is_filled xs)
filled_cond true x xs = refl
filled_cond false x xs = refl

filled-filter : {X : Type 0} (p : X → Bool) (xs : List X) → is_filled (filter p xs) ≡ list_any p xs
filled-filter p [] = refl
filled-filter p (x ∷ xs) = filled_cond (p x) x (filter p xs) ∙ ap (λ b. p x || b) (filled-filter p xs)

-- the form against namesakes in other cites, by how many there are
form_is : (ms : List Member) (i : ℕ) (m : Member) (p : Named) → AreInOrder ms → i < length ms → get_or ms i m ≡ m → form_among ms m p ≡ form_against p (namesakes ms m p)
form_is ms i m p order low at =
    let people : List Named = flat_map (λ o. o.people) (others ms m) in
    sym (
    form_against_is p (namesakes ms m p)
    ∙ (λ k. form_by
    ((any-filter (λ q. bytes_eq (initials q) (initials p)) (is_namesake p) people ∙ another_person (is_alike_namesake p) ms i m order low at) k)
    ((filled-filter (is_namesake p) people ∙ another_person (is_namesake p) ms i m order low at) k)))

-- the form of a cite by how many people have each name is the one that is wanted
pub form_counted_is : (most : ℕ) (ms : List Member) (i : ℕ) (m : Member) → AreInOrder ms → i < length ms → get_or ms i m ≡ m → form_counted ms most (shared_people most ms m) m ≡ form_after most ms m
form_counted_is most ms i m order low at =
    ap (λ f. cond (is_raised most (shared_people most ms m) m) (option_and_then f (slice_get m.people (shared_people most ms m))) None)
    (fun_ext (λ p. form_is ms i m p order low at))

unraised_one : (most : ℕ) (all : List Member) (m : Member) → is_raised_after most all m ≡ false → None ≡ form_after most all m
unraised_one most all m is = sym (ap (λ b. cond b (form_wanted all m (shared_people most all m)) None) is)

unraised_each : (most : ℕ) (all ms : List Member) → list_any (is_raised_after most all) ms ≡ false → map (λ m. None) ms ≡ map (form_after most all) ms
unraised_each most all [] none = refl
unraised_each most all (m ∷ ms) none =
    let both = or_parts (is_raised_after most all m) (list_any (is_raised_after most all) ms) none in λ k. unraised_one most all m both.0 k ∷ unraised_each most all ms both.1 k

-- where no name may be raised, no cite has a form
pub unraised : (most : ℕ) (ms : List Member) (n : ℕ) (forms : List (Option DisambiguatedNameForm)) → n ≡ length ms → list_any (is_raised_after most ms) ms ≡ false → forms ≡ replicate n None → forms ≡ forms_after most ms
unraised most ms n forms many none are = are ∙ splat_is_map ms n None (sym many) ∙ unraised_each most ms ms none

-- how many people a cite shares, among the numbers of all cites
pub shared_of : (most : ℕ) (ms : List Member) (shared : List ℕ) (i : ℕ) (m : Member) → shared ≡ map (shared_people most ms) ms → i < length ms → m ≡ get_or ms i m → get_or shared i 0 ≡ shared_people most ms m
shared_of most ms shared i m is low at = ap (λ ns. get_or ns i 0) is ∙ get_or-map (shared_people most ms) ms i m 0 low ∙ ap (shared_people most ms) (sym at)

module _ {M X : Type 0} (view : M → X) (test : X → Bool) (ms : List M) (i : ℕ) (m : M) (b : Bool) where
  any_turn : i < length ms → m ≡ get_or ms i m → test (view m) ≡ b → list_any test (map view (drop i ms)) ≡ (b || list_any test (map view (drop (i + 1) ms)))
  any_turn low at is =
      ap (λ xs. list_any test (map view xs)) (drop_more ms i m low ∙ ap (λ x. x ∷ drop (i + 1) ms) (sym at))
      ∙ ap (λ c. c || list_any test (map view (drop (i + 1) ms))) is

-- a loop finds one that passes
pub any_found : {M X : Type 0} (view : M → X) (test : X → Bool) (ms : List M) (i : ℕ) (m : M) → i < length ms → m ≡ get_or ms i m → test (view m) ≡ true
    → list_any test (map view (drop i ms)) ≡ list_any test (map view ms) → true ≡ list_any test (map view ms)
any_found view test ms i m low at is before = sym (any_turn view test ms i m true low at is) ∙ before

-- it goes on where one does not
pub any_later : {M X : Type 0} (view : M → X) (test : X → Bool) (ms : List M) (i : ℕ) (m : M) → i < length ms → m ≡ get_or ms i m → test (view m) ≡ false
    → list_any test (map view (drop i ms)) ≡ list_any test (map view ms) → list_any test (map view (drop (i + 1) ms)) ≡ list_any test (map view ms)
any_later view test ms i m low at is before = sym (any_turn view test ms i m false low at is) ∙ before

-- the form where there are more namesakes with the same initials than in the cite
pub form_whole : (ms : List Member) (m : Member) (p : Named) (alike : Bool) → alike ≡ has_more (is_alike_namesake p) ms m → alike ≡ true → Some forms.LongFull ≡ form_among ms m p
form_whole ms m p alike is so = sym (ap (λ b. form_by b (has_more (is_namesake p) ms m)) (sym is ∙ so))

-- the form where there are not
pub form_less : (ms : List Member) (m : Member) (p : Named) (alike some : Bool) → alike ≡ has_more (is_alike_namesake p) ms m → some ≡ has_more (is_namesake p) ms m → alike ≡ false
    → cond some (Some forms.LongInitialized) None ≡ form_among ms m p
form_less ms m p alike some is_alike is_some none = sym (λ k. form_by ((sym is_alike ∙ none) k) (sym is_some k))

-- the form of the person at an index
pub form_there : (ms : List Member) (index : ℕ) (m : Member) (p : Named) (form : Option DisambiguatedNameForm) → slice_get m.people index ≡ Some p → form ≡ form_among ms m p → form ≡ form_at ms index m
form_there ms index m p form there is = is ∙ ap (option_and_then (form_among ms m)) (sym there)

pub no_form_there : (ms : List Member) (index : ℕ) (m : Member) → slice_get m.people index ≡ None → None ≡ form_at ms index m
no_form_there ms index m none = ap (option_and_then (form_among ms m)) (sym none)

-- the form of a cite whose names may be raised
pub form_raised_so : (ms : List Member) (most shared : ℕ) (m : Member) (raised : Bool) (form : Option DisambiguatedNameForm) → raised ≡ is_raised most shared m → raised ≡ true → form ≡ form_at ms shared m → form ≡ form_counted ms most shared m
form_raised_so ms most shared m raised form is so same = same ∙ sym (ap (λ b. cond b (form_at ms shared m) None) (sym is ∙ so))

pub form_not_raised : (ms : List Member) (most shared : ℕ) (m : Member) (raised : Bool) → raised ≡ is_raised most shared m → raised ≡ false → None ≡ form_counted ms most shared m
form_not_raised ms most shared m raised is so = sym (ap (λ b. cond b (form_at ms shared m) None) (sym is ∙ so))
