-- How many of the first people of a cite are those of another one.
use Rattle.std.proofs.Common.{◌≡◌, ℕ, zero, suc, ◌+◌, ◌<◌, ◌≤◌, Bool, true, false, cond, ◌&&◌, ◌||◌, nat_eq, nat_lt, List, [], ◌∷◌, ◌++◌, All, map, length, get_or, take, replicate, String, string_eq, refl, sym, ap, ◌∙◌, Option, Some, None, arith, rules}
use Rattle.std.specs.Prelude.{not, ◌==◌, count_by, filter, slice_get}
use Rattle.std.specs.Borrow.{Bor}
use Rattle.std.specs.Global.{Global}
use Rattle.std.specs.Cmp.{IsEquivalence}
use Rattle.std.specs.Cmp.Lexicographic.{pointwise}
use Rattle.std.specs.List.{enumerate_from, flat_map, list_any, position_or_len, zip}
use Rattle.std.specs.Option.{option_copied, option_eq, option_map, unwrap_or}
use Rattle.std.proofs.Math.Path.{fun_ext}
use Rattle.std.proofs.lemmas.Bool.{and_parts, or_parts}
use Rattle.std.proofs.lemmas.Bool.Decides.{Decides-and}
use Rattle.std.proofs.lemmas.Cmp.{lists_equiv}
use Rattle.std.proofs.lemmas.List.Elements.{All-head, All-tail}
use Rattle.std.proofs.lemmas.List.Sums.{sum_by-cons}
use Rattle.std.proofs.lemmas.List.Concat.{flat_map-append}
use Rattle.std.proofs.lemmas.List.{append-nil, get_or-map, get_or_default, length-map, map-append, map_more, take_all, take_more}
use Rattle.std.proofs.lemmas.Simd.{splat_is_map}
use Rattle.std.proofs.lemmas.Slice.Zip.{get_or-zip, length-zip}
use Rattle.laws.specs.Equality.{Shows}
use Rattle.laws.specs.Text.{characters}
use Rattle.laws.proofs.Equality.{Decides-moved, Decides-never, Shows-strings}
use Rattle.literature_values.specs.PersonViews.{Named}
use Rattle.rendering_tree.specs.Metas.{is_person}
use Rattle.rendering_tree.proofs.SameDecided.{Decides-is_person}
use Rattle.rendering_tree.proofs.ViewsEquality.{agreed}
use Rattle.driver_names.specs.Names.{Member, compared, compared_first, is_by_entry, is_of_entry, others, rule_for}
use Rattle.driver_names.specs.Shared.{AreInOrder, agrees_by, all_shared_where, compared_at, first_agreeing, groups_by, is_key, is_own_key, is_rule, key_at, key_view, last_passing, compared_name_view, own_key, own_keys, own_size, shared_people, shared_where, shares}
use Rattle.driver_names.specs.contracts.names_compared.ComparedNamePartialEq.TheImpl as name
use Rattle.driver_names.specs.declared.names_compared.ComparedName.{ComparedName}
use Rattle.driver_names.proofs.Counting.{and_true, another, apart_some, first-same, firsts-among, last-is, members_found, pointwise_next, sizes}
use Rattle.rendering_taxonomy.specs.declared.style.DisambiguationRule.{DisambiguationRule}
use Rattle.rendering_taxonomy.specs.declared.style.DisambiguationRule.TheVariants as variants

and_false : (b : Bool) → (b && false) ≡ false
and_false true = refl
and_false false = refl

pub none_more : (n : ℕ) → 0 + n ≡ n
none_more n = omega arith

-- whether two people are the same is an equivalence
person_equiv : IsEquivalence is_person
person_equiv = record {
  refl = λ p. (Decides-is_person p p).1 refl;
  symm = λ p q. agreed (is_person p q) (is_person q p) (Decides-is_person p q) (Decides-moved (is_person q p) (Decides-is_person q p) (λ e. sym e) (λ e. sym e));
  congr = λ p q r h. ap (λ s. is_person s r) ((Decides-is_person p q).0 h);
}

people_equiv : IsEquivalence (pointwise is_person)
people_equiv = lists_equiv person_equiv

-- whether the first people of two cites are the same is one too
agrees_equiv : (rule : Option DisambiguationRule) (n : ℕ) → IsEquivalence (agrees_by rule n)
agrees_equiv rule n = record {
  refl = λ m. people_equiv.refl (compared_first rule n m.people);
  symm = λ m o. people_equiv.symm (compared_first rule n m.people) (compared_first rule n o.people);
  congr = λ m o p. people_equiv.congr (compared_first rule n m.people) (compared_first rule n o.people) (compared_first rule n p.people);
}

compared_from-at : (rule : Option DisambiguationRule) (ps : List Named) (a n : ℕ)
    → slice_get (map (λ p. compared rule p.0 p.1) (enumerate_from a ps)) n ≡ option_map (compared rule (a + n)) (slice_get ps n)
compared_from-at rule [] a n = refl
compared_from-at rule (p ∷ ps) a zero =
    let e : a ≡ a + 0 = omega arith in ap (λ k. Some (compared rule k p)) e
compared_from-at rule (p ∷ ps) a (suc n) =
    let e : (a + 1) + n ≡ a + suc n = omega arith in compared_from-at rule ps (a + 1) n ∙ ap (λ k. option_map (compared rule k) (slice_get ps n)) e

slice-compared : (rule : Option DisambiguationRule) (n : ℕ) (m : Member) → slice_get (map (λ p. compared rule p.0 p.1) (enumerate_from 0 m.people)) n ≡ compared_at rule n m
slice-compared rule n m =
    let e : 0 + n ≡ n = omega arith in compared_from-at rule m.people 0 n ∙ ap (λ k. option_map (compared rule k) (slice_get m.people n)) e

-- one person more is compared
agrees_next : (rule : Option DisambiguationRule) (n : ℕ) (m o : Member) → agrees_by rule (n + 1) m o ≡ (agrees_by rule n m o && option_eq is_person (compared_at rule n m) (compared_at rule n o))
agrees_next rule n m o =
    let e : n + 1 ≡ suc n = omega arith in
    let ps : List Named = map (λ p. compared rule p.0 p.1) (enumerate_from 0 m.people) in
    let qs : List Named = map (λ p. compared rule p.0 p.1) (enumerate_from 0 o.people) in
    ap (λ k. pointwise is_person (take k ps) (take k qs)) e
    ∙ pointwise_next is_person n ps qs
    ∙ (λ k. agrees_by rule n m o && option_eq is_person (slice-compared rule n m k) (slice-compared rule n o k))

any_first : (a b c d : Bool) → (a ≡ true → b ≡ true) → (c ≡ true → d ≡ true) → (a || c) ≡ true → (b || d) ≡ true
any_first true b c d one rest h = ap (λ z. z || d) (one refl)
any_first false true c d one rest h = refl
any_first false false c d one rest h = rest h

any_of : {X : Type 0} (p q : X → Bool) → ((x : X) → p x ≡ true → q x ≡ true) → (xs : List X) → list_any p xs ≡ true → list_any q xs ≡ true
any_of p q each [] h = h
any_of p q each (x ∷ xs) h = any_first (p x) (q x) (list_any p xs) (list_any q xs) (each x) (any_of p q each xs) h

-- people that are shared are so without the last of them
shares_less : (rule : Option DisambiguationRule) (ms : List Member) (m : Member) (n : ℕ) → shares rule ms m (suc n) ≡ true → shares rule ms m n ≡ true
shares_less rule ms m n h =
    let e : suc n ≡ n + 1 = omega arith in
    any_of (agrees_by rule (suc n + 1) m) (agrees_by rule (n + 1) m)
    (λ o g. ap (λ k. agrees_by rule k m o) (sym e) ∙ (and_parts (agrees_by rule (suc n) m o) (option_eq is_person (compared_at rule (suc n) m) (compared_at rule (suc n) o)) (sym (agrees_next rule (suc n) m o) ∙ g)).0)
    (others ms m) h

-- a cite shares so many people with another one where they are below the number that it shares
pub shared_below : (most n : ℕ) (ms : List Member) (m : Member) → n < most → nat_lt n (shared_people most ms m) ≡ shares (rule_for m) ms m n
shared_below most n ms m low = last-is (shares (rule_for m) ms m) (shares_less (rule_for m) ms m) most n low

-- the same of all cites of a class
pub shared_at : (index most : ℕ) (ms : List Member) (shared : List ℕ) (i : ℕ) (m : Member) → index < most → shared ≡ map (shared_people most ms) ms → i < length ms → m ≡ get_or ms i m
    → nat_lt index (get_or shared i 0) ≡ shares (rule_for m) ms m index
shared_at index most ms shared i m low is within at =
    ap (nat_lt index) (ap (λ ns. get_or ns i 0) is ∙ get_or-map (shared_people most ms) ms i m 0 within ∙ ap (shared_people most ms) (sym at)) ∙ shared_below most index ms m low

-- whether two borrowed texts are the same
abbrev same_text : Bor (String Global) → Bor (String Global) → Bool
same_text s t = string_eq s.now t.now

texts_lent : Shows (option_eq same_text) (λ o. option_map characters (option_copied o))
texts_lent None None = (λ h. refl, λ e. refl)
texts_lent None (Some t) = Decides-never (λ e. search rules)
texts_lent (Some s) None = Decides-never (λ e. search rules)
texts_lent (Some s) (Some t) = Decides-moved (string_eq s.now t.now) (Shows-strings s.now t.now) (ap (λ v. Some v)) (ap (λ o. unwrap_or o (characters s.now)))

-- names are equal where the view of them is one
Shows-ComparedName : Shows name.ghosts.eq compared_name_view
Shows-ComparedName c d =
    let same = option_eq same_text in
    let affixes = Decides-and (same c.prefix d.prefix) (same c.suffix d.suffix) (texts_lent c.prefix d.prefix) (texts_lent c.suffix d.suffix) in
    let following = Decides-and (same c.given_name d.given_name) (same c.prefix d.prefix && same c.suffix d.suffix) (texts_lent c.given_name d.given_name) affixes in
    Decides-moved (name.ghosts.eq c d)
    (Decides-and (string_eq c.name.now d.name.now) (same c.given_name d.given_name && (same c.prefix d.prefix && same c.suffix d.suffix)) (Shows-strings c.name.now d.name.now) following)
    (λ e i. record { name = e.0 i; given_name = e.1.0 i; prefix = e.1.1.0 i; suffix = e.1.1.1 i })
    (λ e. (ap (λ v. v.name) e, (ap (λ v. v.given_name) e, (ap (λ v. v.prefix) e, ap (λ v. v.suffix) e))))

-- they are equal where the people that they name are the same
pub names_agree : (c d : ComparedName) → name.ghosts.eq c d ≡ is_person (compared_name_view c) (compared_name_view d)
names_agree c d = agreed (name.ghosts.eq c d) (is_person (compared_name_view c) (compared_name_view d)) (Shows-ComparedName c d) (Decides-is_person (compared_name_view c) (compared_name_view d))

maybe_agree : (c d : Option ComparedName) → option_eq name.ghosts.eq c d ≡ option_eq is_person (option_map compared_name_view c) (option_map compared_name_view d)
maybe_agree None None = refl
maybe_agree None (Some d) = refl
maybe_agree (Some c) None = refl
maybe_agree (Some c) (Some d) = names_agree c d

-- whether two groups beside names are equal
abbrev pub same_key : ℕ × Option ComparedName → ℕ × Option ComparedName → Bool
same_key k l = nat_eq k.0 l.0 && option_eq name.ghosts.eq k.1 l.1

module _ (r : Option DisambiguationRule) (ms : List Member) (n : ℕ) where
  -- a cite's group by its first people, and the next of them
  abbrev key_of : Member → ℕ × Option Named
  key_of m = key_at r n (first_agreeing r ms n m) m

  beside_members : (xs : List Member) → map (λ p. key_at r n p.0 p.1) (zip (map (first_agreeing r ms n) xs) xs) ≡ map key_of xs
  beside_members [] = refl
  beside_members (x ∷ xs) = ap (λ ks. key_of x ∷ ks) (beside_members xs)

  keys_of_members : (groups : List ℕ) → groups ≡ groups_by r ms n → map (λ p. key_at r n p.0 p.1) (zip groups ms) ≡ map key_of ms
  keys_of_members groups is = ap (λ gs. map (λ p. key_at r n p.0 p.1) (zip gs ms)) is ∙ beside_members ms

  keys_agree : (x y : Member) → list_any (agrees_by r n x) ms ≡ true → list_any (agrees_by r n y) ms ≡ true → is_key (key_of x) (key_of y) ≡ agrees_by r (n + 1) x y
  keys_agree x y here there =
      ap (λ b. b && option_eq is_person (compared_at r n x) (compared_at r n y)) (first-same (agrees_equiv r n) ms x y here there) ∙ sym (agrees_next r n x y)

  -- groups by one person more
  pub parted : (keys : List (ℕ × Option ComparedName)) (groups new : List ℕ) → map key_view keys ≡ map (λ p. key_at r n p.0 p.1) (zip groups ms) → groups ≡ groups_by r ms n
      → new ≡ map (λ k. position_or_len (same_key k) keys) keys → new ≡ groups_by r ms (n + 1)
  parted keys groups new are is firsts =
      firsts
      ∙ sym (firsts-among (λ k. Unit {0}) key_view is_key same_key (λ k l h g. sym (ap (λ b. nat_eq k.0 l.0 && b) (maybe_agree k.1 l.1))) keys (λ k d low. tt))
      ∙ ap (λ vs. map (λ v. position_or_len (is_key v) vs) vs) (are ∙ keys_of_members groups is)
      ∙ firsts-among (λ m. list_any (agrees_by r n m) ms ≡ true) key_of is_key (agrees_by r (n + 1)) keys_agree ms (members_found (agrees_equiv r n) ms)

own_step : (by near : Bool) (k : ℕ × ℕ) (q : ℕ × ℕ → Bool) (t : Member → Bool) (x : Member) (ks : List (ℕ × ℕ)) (ys : List Member) → q k ≡ (t x && near) → count_by q ks ≡ count_by t ys
    → count_by q (cond by (k ∷ []) [] ++ ks) ≡ count_by t (cond (by && near) (x ∷ ys) ys)
own_step false near k q t x ks ys same rest = rest
own_step true true k q t x ks ys same rest =
    sum_by-cons (λ l. cond (q l) 1 0) k ks ∙ (λ j. cond ((same ∙ and_true (t x)) j) 1 0 + rest j) ∙ sym (sum_by-cons (λ y. cond (t y) 1 0) x ys)
own_step true false k q t x ks ys same rest = sum_by-cons (λ l. cond (q l) 1 0) k ks ∙ (λ j. cond ((same ∙ and_false (t x)) j) 1 0 + rest j) ∙ none_more (count_by t ys)

module _ (r : Option DisambiguationRule) (ms : List Member) (n : ℕ) where
  own_each : (xs : List Member) → own_keys (map (first_agreeing r ms n) xs) xs ≡ flat_map (λ x. own_key (first_agreeing r ms n x) x) xs
  own_each [] = refl
  own_each (x ∷ xs) = ap (λ ks. own_key (first_agreeing r ms n x) x ++ ks) (own_each xs)

  own_among : (m : Member) → list_any (agrees_by r n m) ms ≡ true → (xs : List Member) → All (λ x. list_any (agrees_by r n x) ms ≡ true) xs
      → count_by (is_own_key (first_agreeing r ms n m, m.cite.entry)) (flat_map (λ x. own_key (first_agreeing r ms n x) x) xs) ≡ count_by (agrees_by r n m) (filter (is_of_entry m.cite.entry) xs)
  own_among m here [] all = refl
  own_among m here (x ∷ xs) all =
      let G : Member → Type 0 = λ y. list_any (agrees_by r n y) ms ≡ true in
      own_step (is_by_entry x) (nat_eq m.cite.entry x.cite.entry) (first_agreeing r ms n x, x.cite.entry) (is_own_key (first_agreeing r ms n m, m.cite.entry)) (agrees_by r n m) x
      (flat_map (λ y. own_key (first_agreeing r ms n y) y) xs) (filter (is_of_entry m.cite.entry) xs)
      (ap (λ b. b && nat_eq m.cite.entry x.cite.entry) (first-same (agrees_equiv r n) ms m x here (All-head G x xs all))) (own_among m here xs (All-tail G x xs all))

-- whether a cite shares people, by how many cites are in its group, and how many of these are its own
share_cases : (r : Option DisambiguationRule) (ms : List Member) (n i : ℕ) (m : Member) (groups : List ℕ) → AreInOrder ms → i < length ms → get_or ms i m ≡ m
    → groups ≡ groups_by r ms n → list_any (agrees_by r n m) ms ≡ true → (b : Bool)
    → nat_lt (cond b (count_by (is_own_key (first_agreeing r ms n m, m.cite.entry)) (own_keys groups ms)) 1) (count_by (agrees_by r n m) ms)
    ≡ list_any (agrees_by r n m) (filter (λ o. not (cond b (is_of_entry m.cite.entry o) (o.index == m.index))) ms)
share_cases r ms n i m groups order low at is here true =
    let own = is_own_key (first_agreeing r ms n m, m.cite.entry) in
    ap (λ k. nat_lt k (count_by (agrees_by r n m) ms))
    (ap (λ gs. count_by own (own_keys gs ms)) is ∙ ap (count_by own) (own_each r ms n ms) ∙ own_among r ms n m here ms (members_found (agrees_equiv r n) ms))
    ∙ sym (apart_some (is_of_entry m.cite.entry) (agrees_by r n m) ms)
share_cases r ms n i m groups order low at is here false = sym (another (λ o. o.index) (agrees_by r n m) ms i m order low at ((agrees_equiv r n).refl m))

pub shares_in_group : (r : Option DisambiguationRule) (ms : List Member) (n i : ℕ) (m : Member) (groups : List ℕ) (own size : ℕ) → AreInOrder ms → i < length ms → m ≡ get_or ms i m
    → groups ≡ groups_by r ms (n + 1) → own ≡ own_size (own_keys groups ms) (get_or groups i 0) m → size ≡ count_by (nat_eq (get_or groups i 0)) groups → nat_lt own size ≡ shares r ms m n
shares_in_group r ms n i m groups own size order low at is owns many =
    let laws = agrees_equiv r (n + 1) in
    let at_same : get_or ms i m ≡ m = sym at in
    let group : get_or groups i 0 ≡ first_agreeing r ms (n + 1) m =
    ap (λ gs. get_or gs i 0) is ∙ get_or-map (first_agreeing r ms (n + 1)) ms i m 0 low ∙ ap (first_agreeing r ms (n + 1)) at_same in
    let here : list_any (agrees_by r (n + 1) m) ms ≡ true = ap (λ x. list_any (agrees_by r (n + 1) x) ms) at ∙ members_found laws ms i m low in
    let as_many : size ≡ count_by (agrees_by r (n + 1) m) ms = many ∙ (λ k. count_by (nat_eq (group k)) (is k)) ∙ sizes laws ms m here in
    (λ k. nat_lt ((owns ∙ ap (λ g. own_size (own_keys groups ms) g m) group) k) (as_many k)) ∙ share_cases r ms (n + 1) i m groups order low at_same is here (is_by_entry m)

set_one : (t : ℕ → Bool) (n v : ℕ) (b : Bool) → cond (b && t n) (n + 1) (cond b (last_passing v t n) v) ≡ cond b (last_passing v t (n + 1)) v
set_one t n v true =
    let e : n + 1 ≡ suc n = omega arith in (λ k. cond (t n) (e k) (last_passing v t n)) ∙ ap (last_passing v t) (sym e)
set_one t n v false = refl

set_each : (h : Member → Bool) (f g : Member → ℕ → ℕ) (n : ℕ) → ((m : Member) (v : ℕ) → cond (h m) n (f m v) ≡ g m v) → (ms : List Member) (vs : List ℕ)
    → map (λ p. cond p.0 n p.1) (zip (map h ms) (map (λ p. f p.0 p.1) (zip ms vs))) ≡ map (λ p. g p.0 p.1) (zip ms vs)
set_each h f g n same [] vs = refl
set_each h f g n same (m ∷ ms) [] = refl
set_each h f g n same (m ∷ ms) (v ∷ vs) = λ k. same m v k ∷ set_each h f g n same ms vs k

-- numbers of people that are shared, by one person more
pub shared_next : (r : Option DisambiguationRule) (ms : List Member) (n : ℕ) (known old new : List ℕ) (wanted : List Bool) → wanted ≡ map (λ m. is_rule (rule_for m) r && shares r ms m n) ms
    → old ≡ all_shared_where r n ms known → new ≡ map (λ p. cond p.0 (n + 1) p.1) (zip wanted old) → new ≡ all_shared_where r (n + 1) ms known
shared_next r ms n known old new wanted are before after =
    after
    ∙ (λ k. map (λ p. cond p.0 (n + 1) p.1) (zip (are k) (before k)))
    ∙ set_each (λ m. is_rule (rule_for m) r && shares r ms m n) (shared_where r n ms) (shared_where r (n + 1) ms) (n + 1) (λ m v. set_one (shares r ms m) n v (is_rule (rule_for m) r)) ms known

same_cond : (b : Bool) (v : ℕ) → cond b v v ≡ v
same_cond true v = refl
same_cond false v = refl

-- nobody is shared before people are compared
pub shared_none : (r : Option DisambiguationRule) (all ms : List Member) (known : List ℕ) → length known ≡ length ms → known ≡ map (λ p. shared_where r 0 all p.0 p.1) (zip ms known)
shared_none r all [] [] long = refl
shared_none r all [] (v ∷ vs) long = absurd (omega (arith, long))
shared_none r all (m ∷ ms) [] long = absurd (omega (arith, long))
shared_none r all (m ∷ ms) (v ∷ vs) long = λ k. sym (same_cond (is_rule (rule_for m) r) v) k ∷ shared_none r all ms vs (omega (arith, long)) k

unused_one : (b : Bool) (n v : ℕ) → b ≡ false → v ≡ cond b n v
unused_one b n v h = sym (ap (λ c. cond c n v) h)

-- where no style has a rule, nothing is known by it
pub shared_unused : (r : Option DisambiguationRule) (most : ℕ) (all ms : List Member) (known : List ℕ) → length known ≡ length ms → list_any (λ m. is_rule (rule_for m) r) ms ≡ false
    → known ≡ map (λ p. shared_where r most all p.0 p.1) (zip ms known)
shared_unused r most all [] [] long none = refl
shared_unused r most all [] (v ∷ vs) long none = absurd (omega (arith, long))
shared_unused r most all (m ∷ ms) [] long none = absurd (omega (arith, long))
shared_unused r most all (m ∷ ms) (v ∷ vs) long none =
    λ k. unused_one (is_rule (rule_for m) r) (last_passing v (shares r all m) most) v (or_parts (is_rule (rule_for m) r) (list_any (λ o. is_rule (rule_for o) r) ms) none).0 k
    ∷ shared_unused r most all ms vs (omega (arith, long)) (or_parts (is_rule (rule_for m) r) (list_any (λ o. is_rule (rule_for o) r) ms) none).1 k

-- all cites are in one group before people are compared
pub grouped_none : (r : Option DisambiguationRule) (ms : List Member) → replicate (length ms) 0 ≡ groups_by r ms 0
grouped_none r [] = refl
grouped_none r (m ∷ ms) = splat_is_map (m ∷ ms) (length (m ∷ ms)) 0 refl

where_mapped : (r : Option DisambiguationRule) (most : ℕ) (all ms : List Member) (g : Member → ℕ) → map (λ p. shared_where r most all p.0 p.1) (zip ms (map g ms)) ≡ map (λ m. shared_where r most all m (g m)) ms
where_mapped r most all [] g = refl
where_mapped r most all (m ∷ ms) g = ap (λ ns. shared_where r most all m (g m) ∷ ns) (where_mapped r most all ms g)

-- one rule after the other
abbrev one_by_one : (Option DisambiguationRule → Bool) → (Option DisambiguationRule → ℕ → ℕ) → ℕ → ℕ
one_by_one is by v =
    let then : Option DisambiguationRule → ℕ → ℕ = λ r n. cond (is r) (by r n) n in
    then (Some variants.PrimaryNameWithInitials) (then (Some variants.PrimaryName) (then (Some variants.AllNamesWithInitials) (then (Some variants.AllNames) (then (Some variants.ByCite) (then None v)))))

own_rule : (r : Option DisambiguationRule) (by : Option DisambiguationRule → ℕ → ℕ) (v : ℕ) → one_by_one (is_rule r) by v ≡ by r v
own_rule None by v = refl
own_rule (Some variants.ByCite) by v = refl
own_rule (Some variants.AllNames) by v = refl
own_rule (Some variants.AllNamesWithInitials) by v = refl
own_rule (Some variants.PrimaryName) by v = refl
own_rule (Some variants.PrimaryNameWithInitials) by v = refl

-- after all rules each cite has the number by its own
pub shared_by_all : (most : ℕ) (ms : List Member) (v0 v1 v2 v3 v4 v5 v6 : List ℕ) → v0 ≡ replicate (length ms) 0 → v1 ≡ all_shared_where None most ms v0 → v2 ≡ all_shared_where (Some variants.ByCite) most ms v1
    → v3 ≡ all_shared_where (Some variants.AllNames) most ms v2 → v4 ≡ all_shared_where (Some variants.AllNamesWithInitials) most ms v3 → v5 ≡ all_shared_where (Some variants.PrimaryName) most ms v4
    → v6 ≡ all_shared_where (Some variants.PrimaryNameWithInitials) most ms v5 → v6 ≡ map (shared_people most ms) ms
shared_by_all most ms v0 v1 v2 v3 v4 v5 v6 e0 e1 e2 e3 e4 e5 e6 =
    let by : Option DisambiguationRule → Member → ℕ → ℕ = λ r m v. shared_where r most ms m v in
    let next : (r : Option DisambiguationRule) (old new : List ℕ) (g : Member → ℕ) → new ≡ all_shared_where r most ms old → old ≡ map g ms → new ≡ map (λ m. by r m (g m)) ms =
    λ r old new g is was. is ∙ ap (all_shared_where r most ms) was ∙ where_mapped r most ms ms g in
    let f0 : Member → ℕ = λ m. 0 in
    let f1 : Member → ℕ = λ m. by None m (f0 m) in
    let f2 : Member → ℕ = λ m. by (Some variants.ByCite) m (f1 m) in
    let f3 : Member → ℕ = λ m. by (Some variants.AllNames) m (f2 m) in
    let f4 : Member → ℕ = λ m. by (Some variants.AllNamesWithInitials) m (f3 m) in
    let f5 : Member → ℕ = λ m. by (Some variants.PrimaryName) m (f4 m) in
    next (Some variants.PrimaryNameWithInitials) v5 v6 f5 e6
    (next (Some variants.PrimaryName) v4 v5 f4 e5 (next (Some variants.AllNamesWithInitials) v3 v4 f3 e4 (next (Some variants.AllNames) v2 v3 f2 e3 (next (Some variants.ByCite) v1 v2 f1 e2 (next None v0 v1 f0 e1 (e0 ∙ splat_is_map ms (length ms) 0 refl))))))
    ∙ ap (λ f. map f ms) (fun_ext (λ m. own_rule (rule_for m) (λ r v. last_passing v (shares r ms m) most) 0))

-- two lists of the same length side by side have at an index what each of them has there
beside_at : {M X : Type 0} (view : M → X) (gs : List ℕ) (ms : List M) (i : ℕ) (m : M) → length gs ≡ length ms → i < length ms → m ≡ get_or ms i m
    → (i < length (zip gs (map view ms))) × (get_or (zip gs (map view ms)) i (get_or gs i 0, view m) ≡ (get_or gs i 0, view m))
beside_at {X = X} view gs ms i m same low at =
    let xs : List X = map view ms in
    let viewed : length xs ≡ length ms = length-map ms view in
    let low_view : i < length xs = omega (arith, viewed, low) in
    let low_beside : i < length gs = omega (arith, same, low) in
    let g = get_or gs i 0 in
    let there : i < length (zip gs xs) = omega (arith, length-zip gs xs, same, viewed, low) in
    let x : get_or xs i (view m) ≡ view m = get_or-map view ms i m (view m) low ∙ ap view (sym at) in
    let pair : get_or (zip gs xs) i (g, view m) ≡ (g, view m) =
    get_or-zip gs xs i (g, view m) low_beside low_view ∙ (λ k. (get_or_default gs i g 0 low_beside k, x k)) in
    (there, pair)

-- a loop over members that makes something of each
pub push_step : {M X Y : Type 0} (view : M → X) (h : X → Y) (ms : List M) (i : ℕ) (m : M) (old new : List Y) (y : Y) → i < length ms → m ≡ get_or ms i m → old ≡ map h (map view (take i ms)) → y ≡ h (view m)
    → new ≡ old ++ y ∷ [] → new ≡ map h (map view (take (i + 1) ms))
push_step view h ms i m old new y low at before is after =
    after
    ∙ (λ k. before k ++ is k ∷ [])
    ∙ sym (ap (λ os. map h (map view os)) (take_more ms i m low ∙ ap (λ o. take i ms ++ o ∷ []) (sym at)) ∙ ap (map h) (map-append view (take i ms) (m ∷ [])) ∙ map-append h (map view (take i ms)) (view m ∷ []))

-- the same with what stands beside each
pub beside_step : {M X Y : Type 0} (view : M → X) (f : ℕ → X → Y) (gs : List ℕ) (ms : List M) (i : ℕ) (m : M) (old new : List Y) (y : Y) → length gs ≡ length ms → i < length ms → m ≡ get_or ms i m
    → old ≡ map (λ p. f p.0 p.1) (take i (zip gs (map view ms))) → y ≡ f (get_or gs i 0) (view m) → new ≡ old ++ y ∷ [] → new ≡ map (λ p. f p.0 p.1) (take (i + 1) (zip gs (map view ms)))
beside_step {X = X} view f gs ms i m old new y same low at before is after =
    let xs : List X = map view ms in
    let g = get_or gs i 0 in
    let found = beside_at view gs ms i m same low at in
    after
    ∙ (λ k. before k ++ is k ∷ [])
    ∙ sym (map_more (λ p. f p.0 p.1) (zip gs xs) i (g, view m) found.0 ∙ ap (λ p. map (λ q. f q.0 q.1) (take i (zip gs xs)) ++ f p.0 p.1 ∷ []) found.1)

-- the same of what is made of each and appended
pub beside_more : {M X Y : Type 0} (view : M → X) (f : ℕ → X → List Y) (gs : List ℕ) (ms : List M) (i : ℕ) (m : M) (old new : List Y) → length gs ≡ length ms → i < length ms → m ≡ get_or ms i m
    → old ≡ flat_map (λ p. f p.0 p.1) (take i (zip gs (map view ms))) → new ≡ old ++ f (get_or gs i 0) (view m) → new ≡ flat_map (λ p. f p.0 p.1) (take (i + 1) (zip gs (map view ms)))
beside_more {X = X} view f gs ms i m old new same low at before after =
    let xs : List X = map view ms in
    let g = get_or gs i 0 in
    let found = beside_at view gs ms i m same low at in
    after
    ∙ (λ k. before k ++ f g (view m))
    ∙ sym (
    ap (flat_map (λ p. f p.0 p.1)) (take_more (zip gs xs) i (g, view m) found.0 ∙ ap (λ p. take i (zip gs xs) ++ p ∷ []) found.1)
    ∙ flat_map-append (λ p. f p.0 p.1) (take i (zip gs xs)) ((g, view m) ∷ [])
    ∙ ap (λ ys. flat_map (λ p. f p.0 p.1) (take i (zip gs xs)) ++ ys) (append-nil (f g (view m))))

pub beside_each : {X Y : Type 0} (f : ℕ → X → List Y) (gs : List ℕ) (xs : List X) (i : ℕ) (out : List Y) → length gs ≡ length xs → length xs ≤ i → out ≡ flat_map (λ p. f p.0 p.1) (take i (zip gs xs))
    → out ≡ flat_map (λ p. f p.0 p.1) (zip gs xs)
beside_each f gs xs i out same past is =
    let past_pairs : length (zip gs xs) ≤ i = omega (arith, length-zip gs xs, same, past) in is ∙ ap (flat_map (λ p. f p.0 p.1)) (take_all i (zip gs xs) past_pairs)

-- after all of them
pub beside_all : {X Y : Type 0} (f : ℕ → X → Y) (gs : List ℕ) (xs : List X) (i : ℕ) (out : List Y) → length gs ≡ length xs → length xs ≤ i → out ≡ map (λ p. f p.0 p.1) (take i (zip gs xs))
    → out ≡ map (λ p. f p.0 p.1) (zip gs xs)
beside_all f gs xs i out same past is =
    let past_pairs : length (zip gs xs) ≤ i = omega (arith, length-zip gs xs, same, past) in is ∙ ap (map (λ p. f p.0 p.1)) (take_all i (zip gs xs) past_pairs)
