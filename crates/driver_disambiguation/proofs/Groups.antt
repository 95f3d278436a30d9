-- Cites in groups of those that print one text, by its number.
use Rattle.std.specs.Global.{Global}
use Rattle.std.proofs.Common.{◌≡◌, ℕ, zero, suc, ◌+◌, ◌<◌, ◌≤◌, Bool, true, false, cond, List, [], ◌∷◌, ◌++◌, map, take, length, get_or, replicate, set, All, Vec, refl, sym, ap, ◌∙◌, arith}
use Rattle.std.specs.Prelude.{◌==◌, count_by, filter, nat_eq}
use Rattle.std.specs.Borrow.{Bor}
use Rattle.std.specs.List.{flat_map, enumerate_from, zip}
use Rattle.std.proofs.lemmas.List.{append-nil, append_assoc, get_or-map, get_or_default, get_or-set_other, get_or-set_same, length-append, length-map, map-append, map-set, take_all, take_at, take_more}
use Rattle.std.proofs.lemmas.Slice.Zip.{get_or-zip, seconds-zip}
use Rattle.std.proofs.lemmas.List.Elements.{All-append, All-cons, All-filter, All-head, All-nil, All-tail, filter-append}
use Rattle.std.proofs.lemmas.List.Sums.{length-filter}
use Rattle.std.proofs.lemmas.Bool.{eqb-true, eq-eqb}
use Rattle.driver_disambiguation.specs.Classes.{part_at}
use Rattle.driver_disambiguation.specs.Grouping.{allowing, is_alike, number_if_second, of_number, put_where, second_where, seconds, seconds_after, under}
use Rattle.driver_names.specs.Prints.{may_be_alike}
use Rattle.driver_names.specs.Views.{printed_view}
use Rattle.driver_names.specs.declared.printed.Printed.{Printed}
use Rattle.driver_disambiguation.proofs.Lists.{map-cond}

-- whether a cite may be alike to those of other entries
abbrev pub allows : ℕ × Printed → Bool
allows p = may_be_alike (printed_view p.1)

-- one cite more, where it may be alike to others
allowing_more : (zs : List (ℕ × Printed)) (i : ℕ) (p : ℕ × Printed) (b : Bool) → i < length zs → p ≡ get_or zs i p → b ≡ allows p
    → allowing (take (i + 1) zs) ≡ allowing (take i zs) ++ cond b (p ∷ []) []
allowing_more zs i p b low is allowed =
    ap allowing (take_more zs i p low)
    ∙ filter-append allows (take i zs) (get_or zs i p ∷ [])
    ∙ ap (λ q. allowing (take i zs) ++ cond (allows q) (q ∷ []) []) (sym is)
    ∙ ap (λ c. allowing (take i zs) ++ cond c (p ∷ []) []) (sym allowed)

one_put : (c : Bool) (s : Bor Printed) (p : ℕ × Printed) → s.now ≡ p.1 → map (λ t. t.now) (cond c (s ∷ []) []) ≡ map (λ q. q.1) (cond c (p ∷ []) [])
one_put true s p is = λ j. is j ∷ []
one_put false s p is = refl

-- what is put into a group
put_view : (b : Bool) (n : ℕ) (s : Bor Printed) (p : ℕ × Printed) → s.now ≡ p.1 → map (λ t. t.now) (put_where b p.0 s n) ≡ of_number n (cond b (p ∷ []) [])
put_view true n s p is = one_put (nat_eq n p.0) s p is
put_view false n s p is = refl

of_both : (n : ℕ) (ps qs : List (ℕ × Printed)) → of_number n (ps ++ qs) ≡ of_number n ps ++ of_number n qs
of_both n ps qs =
    ap (map (λ p. p.1)) (filter-append (λ p. nat_eq n p.0) ps qs) ∙ map-append (λ p. p.1) (filter (λ p. nat_eq n p.0) ps) (filter (λ p. nat_eq n p.0) qs)

-- a loop that puts each cite into its group
pub members_step : (zs : List (ℕ × Printed)) (i : ℕ) (p : ℕ × Printed) (b : Bool) (s : Bor Printed) (n : ℕ) (old new : List (Bor Printed)) → i < length zs → p ≡ get_or zs i p → b ≡ allows p → s.now ≡ p.1
    → map (λ t. t.now) old ≡ of_number n (allowing (take i zs)) → new ≡ old ++ put_where b p.0 s n → map (λ t. t.now) new ≡ of_number n (allowing (take (i + 1) zs))
members_step zs i p b s n old new low is allowed viewed before after =
    ap (map (λ t. t.now)) after
    ∙ map-append (λ t. t.now) old (put_where b p.0 s n)
    ∙ (λ j. before j ++ put_view b n s p viewed j)
    ∙ sym (of_both n (allowing (take i zs)) (cond b (p ∷ []) []))
    ∙ ap (of_number n) (sym (allowing_more zs i p b low is allowed))

-- one cite after some others
seconds_append : (before ps : List (ℕ × Printed)) (p : ℕ × Printed) → seconds_after before (ps ++ p ∷ []) ≡ seconds_after before ps ++ number_if_second (before ++ ps) p
seconds_append before [] p = append-nil (number_if_second before p) ∙ ap (λ qs. number_if_second qs p) (sym (append-nil before))
seconds_append before (q ∷ ps) p =
    ap (λ ns. number_if_second before q ++ ns) (seconds_append (before ++ q ∷ []) ps p)
    ∙ sym (append_assoc (number_if_second before q) (seconds_after (before ++ q ∷ []) ps) (number_if_second ((before ++ q ∷ []) ++ ps) p))
    ∙ ap (λ qs. (number_if_second before q ++ seconds_after (before ++ q ∷ []) ps) ++ number_if_second qs p) (append_assoc before (q ∷ []) ps)

seconds_more : (b : Bool) (ps : List (ℕ × Printed)) (p : ℕ × Printed) → seconds (ps ++ cond b (p ∷ []) []) ≡ seconds ps ++ cond b (number_if_second ps p) []
seconds_more true ps p = seconds_append [] ps p
seconds_more false ps p = ap seconds (append-nil ps) ∙ sym (append-nil (seconds ps))

-- a number is put last where one cite of it came before
second_view : (b : Bool) (ps : List (ℕ × Printed)) (p : ℕ × Printed) (group : List (Bor Printed)) → map (λ t. t.now) group ≡ of_number p.0 ps → second_where b p.0 group ≡ cond b (number_if_second ps p) []
second_view b ps p group is =
    let counts : length group ≡ count_by (is_alike p) ps =
    sym (length-map group (λ t. t.now)) ∙ ap length is ∙ length-map (filter (is_alike p) ps) (λ q. q.1) ∙ length-filter (is_alike p) ps in
    λ j. cond b (cond (counts j == 1) (p.0 ∷ []) []) []

-- a loop that puts last the numbers of second cites
pub seconds_step : (zs : List (ℕ × Printed)) (i : ℕ) (p : ℕ × Printed) (b : Bool) (group : List (Bor Printed)) (old new : List ℕ) → i < length zs → p ≡ get_or zs i p → b ≡ allows p
    → map (λ t. t.now) group ≡ of_number p.0 (allowing (take i zs)) → old ≡ seconds (allowing (take i zs)) → new ≡ old ++ second_where b p.0 group → new ≡ seconds (allowing (take (i + 1) zs))
seconds_step zs i p b group old new low is allowed members before after =
    after
    ∙ (λ j. before j ++ second_view b (allowing (take i zs)) p group members j)
    ∙ sym (seconds_more b (allowing (take i zs)) p)
    ∙ ap seconds (sym (allowing_more zs i p b low is allowed))

one_below : (count n : ℕ) (b : Bool) → n < count → All (λ m. m < count) (cond b (n ∷ []) [])
one_below count n true less = All-cons (λ m. m < count) n [] less (All-nil (λ m. m < count))
one_below count n false less = All-nil (λ m. m < count)

after_below : (count : ℕ) (before ps : List (ℕ × Printed)) → All (λ (p : ℕ × Printed). p.0 < count) ps → All (λ m. m < count) (seconds_after before ps)
after_below count before [] below = All-nil (λ m. m < count)
after_below count before (p ∷ ps) below =
    All-append (λ m. m < count) (number_if_second before p) (seconds_after (before ++ p ∷ []) ps)
    (one_below count p.0 (count_by (is_alike p) before == 1) (All-head (λ (p : ℕ × Printed). p.0 < count) p ps below))
    (after_below count (before ++ p ∷ []) ps (All-tail (λ (p : ℕ × Printed). p.0 < count) p ps below))

beside_below : (count : ℕ) (ns : List ℕ) (ss : List Printed) → All (λ n. n < count) ns → All (λ (p : ℕ × Printed). p.0 < count) (zip ns ss)
beside_below count [] ss below = All-nil (λ (p : ℕ × Printed). p.0 < count)
beside_below count (n ∷ ns) [] below = All-nil (λ (p : ℕ × Printed). p.0 < count)
beside_below count (n ∷ ns) (s ∷ ss) below =
    All-cons (λ (p : ℕ × Printed). p.0 < count) (n, s) (zip ns ss) (All-head (λ n. n < count) n ns below) (beside_below count ns ss (All-tail (λ n. n < count) n ns below))

-- the numbers of second cites are below what all numbers are below
pub seconds_below : (count : ℕ) (ns : List ℕ) (ss : List Printed) → All (λ n. n < count) ns → All (λ n. n < count) (seconds (allowing (zip ns ss)))
seconds_below count ns ss below =
    after_below count [] (allowing (zip ns ss)) (All-filter allows (λ (p : ℕ × Printed). p.0 < count) (zip ns ss) (beside_below count ns ss below))

-- the cites of the numbers of second cites are the parts of cites of one number
parts_after : (xs before ps : List (ℕ × Printed)) → xs ≡ before ++ ps
    → map (λ n. filter (λ p. nat_eq n p.0) xs) (seconds_after before ps) ≡ flat_map (part_at is_alike xs) (enumerate_from (length before) ps)
parts_after xs before [] is = refl
parts_after xs before (p ∷ ps) is =
    let h : ℕ → List (ℕ × Printed) = λ n. filter (λ q. nat_eq n q.0) xs in
    let leading : before ≡ take (length before) xs = sym (take_at before (p ∷ ps) (length before) refl) ∙ ap (take (length before)) (sym is) in
    let first : map h (number_if_second before p) ≡ part_at is_alike xs (length before, p) =
    map-cond h (count_by (is_alike p) before == 1) (p.0 ∷ []) [] ∙ ap (λ qs. cond (count_by (is_alike p) qs == 1) (filter (is_alike p) xs ∷ []) []) leading in
    let others : map h (seconds_after (before ++ p ∷ []) ps) ≡ flat_map (part_at is_alike xs) (enumerate_from (length before + 1) ps) =
    parts_after xs (before ++ p ∷ []) ps (is ∙ sym (append_assoc before (p ∷ []) ps)) ∙ ap (λ n. flat_map (part_at is_alike xs) (enumerate_from n ps)) (length-append before (p ∷ [])) in
    map-append h (number_if_second before p) (seconds_after (before ++ p ∷ []) ps) ∙ (λ j. first j ++ others j)

pub seconds_parts : (xs : List (ℕ × Printed)) → map (λ n. filter (λ p. nat_eq n p.0) xs) (seconds xs) ≡ flat_map (part_at is_alike xs) (enumerate_from 0 xs)
seconds_parts xs = parts_after xs [] xs refl

other_under : (groups new : List (Vec (Bor Printed) Global)) (number n : ℕ) (s : Bor Printed) (b : Bool) → nat_eq n number ≡ b → number < length groups
    → map (λ g. g.items) new ≡ set (map (λ g. g.items) groups) number (under groups number ++ s ∷ []) → under new n ≡ under groups n ++ cond b (s ∷ []) []
other_under groups new number n s true e less is =
    let same : n ≡ number = eqb-true n number e in
    let long : number < length (map (λ (g : Vec (Bor Printed) Global). g.items) groups) = omega (arith, less, length-map groups (λ (g : Vec (Bor Printed) Global). g.items)) in
    ap (under new) same
    ∙ ap (λ gs. get_or gs number []) is
    ∙ get_or-set_same (map (λ g. g.items) groups) number (under groups number ++ s ∷ []) [] long
    ∙ ap (λ m. under groups m ++ s ∷ []) (sym same)
other_under groups new number n s false e less is =
    let apart : n ≡ number → ⊥ = λ h. let hit : nat_eq n number ≡ true = eq-eqb n number h in cc in
    ap (λ gs. get_or gs n []) is ∙ get_or-set_other (map (λ g. g.items) groups) number n (under groups number ++ s ∷ []) [] apart ∙ sym (append-nil (under groups n))

-- a group with one cite more
pub put_under : (groups new : List (Vec (Bor Printed) Global)) (number n : ℕ) (s : Bor Printed) → number < length groups
    → map (λ g. g.items) new ≡ set (map (λ g. g.items) groups) number (under groups number ++ s ∷ []) → under new n ≡ under groups n ++ cond (nat_eq n number) (s ∷ []) []
put_under groups new number n s less is = other_under groups new number n s (nat_eq n number) refl less is

-- as many stand beside numbers
pub beside_length : (ns : List ℕ) (ss : List Printed) → length ns ≡ length ss → length (zip ns ss) ≡ length ss
beside_length ns ss many = sym (length-map (zip ns ss) (λ p. p.1)) ∙ ap length (seconds-zip ns ss (sym many))

-- a cite beside its number
pub beside_at : (ns : List ℕ) (ss : List Printed) (i : ℕ) (s : Printed) → i < length ss → length ns ≡ length ss → s ≡ get_or ss i s → (get_or ns i 0, s) ≡ get_or (zip ns ss) i (get_or ns i 0, s)
beside_at ns ss i s low many is =
    let also : i < length ns = omega (arith, low, many) in
    (λ j. (get_or_default ns i 0 (get_or ns i 0) also j, is j)) ∙ sym (get_or-zip ns ss i (get_or ns i 0, s) also low)

-- past the cites all are in their groups
pub members_all : (ns : List ℕ) (ss : List Printed) (i n : ℕ) (group : List (Bor Printed)) → length ss ≤ i → length ns ≡ length ss → map (λ s. s.now) group ≡ of_number n (allowing (take i (zip ns ss)))
    → map (λ s. s.now) group ≡ of_number n (allowing (zip ns ss))
members_all ns ss i n group past many is = is ∙ ap (λ ps. of_number n (allowing ps)) (take_all i (zip ns ss) (omega (arith, past, beside_length ns ss many)))

pub seconds_all : (ns : List ℕ) (ss : List Printed) (i : ℕ) (shared : List ℕ) → length ss ≤ i → length ns ≡ length ss → shared ≡ seconds (allowing (take i (zip ns ss))) → shared ≡ seconds (allowing (zip ns ss))
seconds_all ns ss i shared past many is = is ∙ ap (λ ps. seconds (allowing ps)) (take_all i (zip ns ss) (omega (arith, past, beside_length ns ss many)))

none_at : (count n : ℕ) → get_or (replicate {A = List (Bor Printed)} count []) n [] ≡ []
none_at zero n = refl
none_at (suc count) zero = refl
none_at (suc count) (suc n) = none_at count n

-- so many groups without cites have none
pub none_under : (count n : ℕ) (groups : List (Vec (Bor Printed) Global)) → map (λ g. g.items) groups ≡ replicate count [] → under groups n ≡ []
none_under count n groups is = ap (λ gs. get_or gs n []) is ∙ none_at count n

-- a group is what its number has
pub at_number : (groups : List (Vec (Bor Printed) Global)) (n : ℕ) (g : Vec (Bor Printed) Global) → n < length groups → g ≡ get_or groups n g → g.items ≡ under groups n
at_number groups n g less is = ap (λ (v : Vec (Bor Printed) Global). v.items) is ∙ sym (get_or-map (λ (v : Vec (Bor Printed) Global). v.items) groups n g [] less)

-- a group with one cite more, by what its number has
pub set_under : (groups : List (Vec (Bor Printed) Global)) (number n : ℕ) (g new : Vec (Bor Printed) Global) (s : Bor Printed) → number < length groups → g ≡ get_or groups number g → new.items ≡ g.items ++ s ∷ []
    → under (set groups number new) n ≡ under groups n ++ cond (nat_eq n number) (s ∷ []) []
set_under groups number n g new s less is after =
    put_under groups (set groups number new) number n s less
    (map-set (λ (v : Vec (Bor Printed) Global). v.items) groups number new
    ∙ ap (set (map (λ (v : Vec (Bor Printed) Global). v.items) groups) number) (after ∙ ap (λ xs. xs ++ s ∷ []) (at_number groups number g less is)))
