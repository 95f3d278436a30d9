-- Classes by what the code has of cites.
use Rattle.std.specs.Global.{Global}
use Rattle.std.proofs.Common.{◌≡◌, ℕ, Bool, true, false, cond, not, ◌||◌, List, [], ◌∷◌, ◌++◌, map, suc, length, Some, Vec, string_bytes, bytes_eq, refl, sym, ap, ◌∙◌, arith}
use Rattle.std.proofs.Math.Path.{fun_ext}
use Rattle.std.proofs.lemmas.Grind.{common_steps}
use Rattle.std.specs.Prelude.{filter, nat_eq, nat_lt, unwrap_or}
use Rattle.std.specs.Borrow.{Bor}
use Rattle.std.specs.BTreeMap.{BTreeMap}
use Rattle.std.specs.List.{flat_map, list_any, zip}
use Rattle.std.specs.Cmp.Lexicographic.{bytes_decides}
use Rattle.std.proofs.lemmas.Bool.{eqb-true, eq-eqb}
use Rattle.std.proofs.lemmas.Cmp.{nat_eq_equiv}
use Rattle.std.proofs.lemmas.List.Elements.{All-filter}
use Rattle.std.proofs.lemmas.Simd.{map-map}
use Rattle.std.proofs.lemmas.Slice.Zip.{seconds-zip}
use Rattle.laws.specs.Text.{characters}
use Rattle.laws.proofs.Equality.{Shows-strings}
use Rattle.rendering_tree.proofs.ViewsEquality.{agreed}
use Rattle.driver_requests.specs.CitedEntries.{once}
use Rattle.driver_names.specs.Prints as prints
use Rattle.driver_names.specs.Prints.{may_be_alike}
use Rattle.driver_disambiguation.specs.Classes as classes
use Rattle.driver_disambiguation.specs.Classes.{is_mixed, parts}
use Rattle.driver_disambiguation.specs.Grouping.{allowing, if_mixed, is_alike, of_number, seconds, under}
use Rattle.driver_disambiguation.specs.Numbered.{AreInjective, AreNumbered, number_of, number_under}
use Rattle.driver_disambiguation.specs.declared.hashed_text.HashedText.{HashedText}
use Rattle.driver_names.specs.Views.{class_view, printed_view}
use Rattle.driver_names.specs.declared.printed.Printed.{Printed}
use Rattle.driver_disambiguation.proofs.Groups.{seconds_parts}
use Rattle.driver_disambiguation.proofs.Lists.{map-filter, parts-among}
use Rattle.driver_disambiguation.proofs.Numbering.{numbers_beside, numbers_length}

-- cites print one text where the bytes of it are the same
alike : (s t : Printed) → bytes_eq (string_bytes s.text) (string_bytes t.text) ≡ classes.is_alike (printed_view s) (printed_view t)
alike s t =
    agreed (bytes_eq (string_bytes s.text) (string_bytes t.text)) (bytes_eq (characters s.text) (characters t.text)) (Shows-strings s.text t.text) (bytes_decides (characters s.text) (characters t.text))

-- two tests that imply each other
same_test : (b c : Bool) → (b ≡ true → c ≡ true) → (c ≡ true → b ≡ true) → b ≡ c
same_test true c to from = sym (to refl)
same_test false true to from = from refl
same_test false false to from = refl

-- cites have one number where they print one text
numbered_alike : (texts : BTreeMap HashedText ℕ) → AreInjective texts → (p q : ℕ × Printed) → number_of texts p.1 ≡ Some p.0 → number_of texts q.1 ≡ Some q.0
    → is_alike p q ≡ classes.is_alike (printed_view p.1) (printed_view q.1)
numbered_alike texts apart p q first second =
    let one = string_bytes p.1.text in
    let other = string_bytes q.1.text in
    same_test (nat_eq p.0 q.0) (bytes_eq one other) (λ e. apart one other q.0 (first ∙ ap (λ n. Some n) (eqb-true p.0 q.0 e)) second)
    (λ e. eq-eqb p.0 q.0 (ap (λ o. unwrap_or o 0) (sym first ∙ ap (number_under texts) ((bytes_decides one other).0 e) ∙ second)))
    ∙ alike p.1 q.1

one_mixed : (b : Bool) (ss : List (Bor Printed)) (rest : List (List (Bor Printed))) (all : List (List prints.Printed)) → map class_view rest ≡ all
    → map class_view (cond b (ss ∷ []) [] ++ rest) ≡ cond b (class_view ss ∷ all) all
one_mixed true ss rest all e = ap (λ cs. class_view ss ∷ cs) e
one_mixed false ss rest all e = e

-- the groups that are of more than one entry, viewed
mixed : (ps : List (List (Bor Printed))) → map class_view (flat_map if_mixed ps) ≡ filter is_mixed (map class_view ps)
mixed [] = refl
mixed (p ∷ ps) = one_mixed (is_mixed (class_view p)) p (flat_map if_mixed ps) (filter is_mixed (map class_view ps)) (mixed ps)

view_items : (cs : List (Vec (Bor Printed) Global)) → map (λ c. class_view c.items) cs ≡ map class_view (map (λ c. c.items) cs)
view_items [] = refl
view_items (c ∷ cs) = ap (λ ds. class_view c.items ∷ ds) (view_items cs)

-- a group, viewed, has the cites of its number
group_view : (xs : List (ℕ × Printed)) (n : ℕ) (group : List (Bor Printed)) → map (λ s. s.now) group ≡ of_number n xs → class_view group ≡ map (λ p. printed_view p.1) (filter (λ p. nat_eq n p.0) xs)
group_view xs n group is = sym (map-map printed_view (λ s. s.now) group) ∙ ap (map printed_view) is ∙ map-map printed_view (λ p. p.1) (filter (λ p. nat_eq n p.0) xs)

-- the classes that the code makes
pub classes_are : (texts : BTreeMap HashedText ℕ) (numbers : List ℕ) (cites : List Printed) (groups : List (Vec (Bor Printed) Global)) (shared : List ℕ) (cs : List (Vec (Bor Printed) Global))
    → AreNumbered texts numbers cites → ((n : ℕ) → map (λ s. s.now) (under groups n) ≡ of_number n (allowing (zip numbers cites))) → shared ≡ seconds (allowing (zip numbers cites))
    → map (λ c. c.items) cs ≡ flat_map if_mixed (map (under groups) shared) → map (λ c. class_view c.items) cs ≡ classes.classes (map printed_view cites)
classes_are texts numbers cites groups shared cs numbered members seconds_are are_mixed =
    let zs : List (ℕ × Printed) = zip numbers cites in
    let xs : List (ℕ × Printed) = allowing zs in
    let f : ℕ × Printed → prints.Printed = λ p. printed_view p.1 in
    let G : ℕ × Printed → Type 0 = λ p. number_of texts p.1 ≡ Some p.0 in
    let h : ℕ → List (ℕ × Printed) = λ n. filter (λ p. nat_eq n p.0) xs in
    let each : (λ n. class_view (under groups n)) ≡ (λ n. map f (h n)) = fun_ext (λ n. group_view xs n (under groups n) (members n)) in
    let all : map class_view (map (under groups) shared) ≡ map (map f) (parts is_alike xs) =
    map-map class_view (under groups) shared ∙ (λ j. map (each j) (seconds_are j)) ∙ sym (map-map (map f) h (seconds xs)) ∙ ap (map (map f)) (seconds_parts xs) in
    let beside = All-filter (λ p. may_be_alike (printed_view p.1)) G zs (numbers_beside (number_of texts) cites numbers numbered.1) in
    let viewed : map f xs ≡ filter may_be_alike (map printed_view cites) =
    map-filter f (λ p. may_be_alike (printed_view p.1)) may_be_alike (λ p. refl) zs
    ∙ ap (filter may_be_alike) (sym (map-map printed_view (λ p. p.1) zs) ∙ ap (map printed_view) (seconds-zip numbers cites (sym (numbers_length (number_of texts) cites numbers numbered.1)))) in
    view_items cs
    ∙ ap (map class_view) are_mixed
    ∙ mixed (map (under groups) shared)
    ∙ ap (filter is_mixed) (all ∙ parts-among G f is_alike classes.is_alike (numbered_alike texts numbered.0.0) xs beside ∙ ap (parts classes.is_alike) viewed)

longer_or_not : (x y : ℕ) (rest : List ℕ) (t : Bool) → nat_lt 1 (suc (length (cond t (y ∷ rest) rest))) ≡ (t || nat_lt 1 (suc (length rest)))
longer_or_not x y rest true =
    let more : nat_lt 1 (suc (suc (length rest))) ≡ true = grind (arith, common_steps) in more
longer_or_not x y rest false = refl

one_is_none : nat_lt 1 1 ≡ false
one_is_none = refl

others_of : (x : ℕ) (ys : List ℕ) → nat_lt 1 (suc (length (filter (λ y. not (nat_eq x y)) ys))) ≡ list_any (λ y. not (nat_eq x y)) ys
others_of x [] = one_is_none
others_of x (y ∷ ys) =
    longer_or_not x y (filter (λ z. not (nat_eq x z)) ys) (not (nat_eq x y)) ∙ ap (λ b. not (nat_eq x y) || b) (others_of x ys)

-- a number that is gone passed no test
gone : (p : ℕ → Bool) (x z : ℕ) (passed all : List ℕ) → p x ≡ false → list_any p passed ≡ list_any p all → (b : Bool) → nat_eq x z ≡ b
    → list_any p (cond (not b) (z ∷ passed) passed) ≡ (p z || list_any p all)
gone p x z passed all fails same true e = same ∙ (λ k. sym (ap p (sym (eqb-true x z e)) ∙ fails) k || list_any p all)
gone p x z passed all fails same false e = ap (λ b. p z || b) same

without : (p : ℕ → Bool) (x : ℕ) → p x ≡ false → (zs : List ℕ) → list_any p (filter (λ z. not (nat_eq x z)) zs) ≡ list_any p zs
without p x fails [] = refl
without p x fails (z ∷ zs) = gone p x z (filter (λ y. not (nat_eq x y)) zs) zs fails (without p x fails zs) (nat_eq x z) refl

first_or : (p : ℕ → Bool) (x : ℕ) (passed all : List ℕ) (b : Bool) → p x ≡ b → (b ≡ false → list_any p passed ≡ list_any p all) → (p x || list_any p passed) ≡ (p x || list_any p all)
first_or p x passed all true e same = (λ k. e k || list_any p passed) ∙ (λ k. sym e k || list_any p all)
first_or p x passed all false e same = ap (λ b. p x || b) (same refl)

-- each number once has the same
any_once : (p : ℕ → Bool) (xs : List ℕ) → list_any p (once nat_eq xs) ≡ list_any p xs
any_once p [] = refl
any_once p (x ∷ xs) =
    first_or p x (filter (λ y. not (nat_eq x y)) (once nat_eq xs)) (once nat_eq xs) (p x) refl (λ e. without p x e (once nat_eq xs))
    ∙ ap (λ b. p x || b) (any_once p xs)

-- there is more than one number where one differs from the first
pub more_than_one : (x : ℕ) (xs : List ℕ) → nat_lt 1 (length (once nat_eq (x ∷ xs))) ≡ list_any (λ y. not (nat_eq x y)) xs
more_than_one x xs = others_of x (once nat_eq xs) ∙ any_once (λ y. not (nat_eq x y)) xs

entries_view : (ss : List (Bor Printed)) → map (λ s. s.entry) (class_view ss) ≡ map (λ s. s.now.cite.entry) ss
entries_view [] = refl
entries_view (s ∷ ss) = ap (λ es. s.now.cite.entry ∷ es) (entries_view ss)

any_other : (x : ℕ) (ss : List (Bor Printed)) → list_any (λ y. not (nat_eq x y)) (map (λ s. s.now.cite.entry) ss) ≡ list_any (λ s. not (nat_eq s.entry x)) (class_view ss)
any_other x [] = refl
any_other x (s ∷ ss) = λ k. not (nat_eq_equiv.symm x s.now.cite.entry k) || any_other x ss k

-- a part is of more than one entry where an entry differs from the first
pub mixed_others : (part : List (Bor Printed)) (first : Bor Printed) (others : List (Bor Printed)) → part ≡ first ∷ others
    → is_mixed (class_view part) ≡ list_any (λ s. not (nat_eq s.entry first.now.cite.entry)) (class_view others)
mixed_others part first others is =
    ap (λ ss. is_mixed (class_view ss)) is
    ∙ more_than_one first.now.cite.entry (map (λ s. s.entry) (class_view others))
    ∙ ap (list_any (λ y. not (nat_eq first.now.cite.entry y))) (entries_view others)
    ∙ any_other first.now.cite.entry others
