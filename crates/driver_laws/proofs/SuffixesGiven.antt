-- Year suffixes are final, and no two entries have the same of one class in one round.
use Rattle.std.proofs.Common.{arith, ◌≡◌, ℕ, zero, suc, ◌+◌, ◌<◌, Bool, true, false, true≢false, not-suc-le-zero, cond, not, ◌&&◌, nat_eq, eqb-true, List, [], ◌∷◌, ◌++◌, append-nil, length, map, get_or, filter, find, fold, take, is_some, Contains, inl, inr, refl, sym, ap, subst, ◌∙◌, Option, Some, None}
use Rattle.std.specs.Prelude.{◌==◌, count_by}
use Rattle.std.specs.List.{AllByRecursion, enumerate_from, flat_map, list_any, range_with_len, reduce, slice_get}
use Rattle.std.specs.Option.{option_and_then, option_map, option_map_or, unwrap_or}
use Rattle.std.proofs.lemmas.Bool.{and_parts}
use Rattle.std.proofs.lemmas.List.{get_or-map}
use Rattle.std.proofs.lemmas.List.Elements.{All-contains, All-from_recursion, Contains-append_cases, Contains-append_right, recursion_from_All}
use Rattle.std.proofs.lemmas.List.FromFn.{get_or-enumerate_from, length-enumerate_from}
use Rattle.std.proofs.lemmas.List.Sums.{fold-append}
use Rattle.sorting.specs.Sorted.{sorted}
use Rattle.sorting.proofs.Sorts.{sorted_all}
use Rattle.rendering_people.specs.Properties.{Properties, prints_more}
use Rattle.rendering_context.specs.Cites.{DisambiguateState, undisambiguated, by_names, by_choose, by_suffix, allows_suffix, greater_state, may_change}
use Rattle.driver_requests.specs.CitedEntries.{once}
use Rattle.driver_requests.specs.Suffixes.{Origin, Suffix}
use Rattle.driver_names.specs.Prints.{GivenState, given_to, Candidate, Printed, may_be_alike, only_repeats, prints_date}
use Rattle.driver_disambiguation.specs.States.{States, giver_of, is_given_to, is_suffix, joined_for, state_of, states_after, suffix_given, suffix_index}
use Rattle.driver_disambiguation.specs.Classes.{classes, entries_of, is_alike, is_mixed, part_at, parts, printed_under}
use Rattle.driver_names.specs.Names.{Member, all_shown_up_to, distinguished, distinguished_at, distinguished_by, is_newly_distinguished, states_by_names, states_by_names_of, member, members, names_may_change, own_names, people_compared, raises, rule_for, showing_up_to, with_raised}
use Rattle.driver_disambiguation.specs.Rounds.{Disambiguation, after_giving, after_round, after_rounds, before_rounds, by_number, choose_beside, chosen, disambiguated, given_by, given_with_class, in_suffix_order, is_given_to_class, suffixes_for, states_by_branches, states_by_choose, states_by_suffixes, round_given, unless_given}
use Rattle.driver_laws.specs.Laws.{YearSuffixesAreDistinct, YearSuffixesAreFinal, RoundsThatGiveNothingChangeNothing}
use Rattle.driver.proofs.Members.{append_all, either_all, enumerate_all, every_all, filter_all, flat_all, map_all, weaker_all}

-- of those that pass a test it holds, where it follows from that
passed_all : {A : Type 0} (P : A → Type 0) (p : A → Bool) (xs : List A) → AllByRecursion (λ a. p a ≡ true → P a) xs → AllByRecursion P (filter p xs)
passed_all P p [] h = tt
passed_all {A} P p (x ∷ xs) h = by_value (p x) refl (passed_all P p xs h.1)
  where
    by_value : (b : Bool) → p x ≡ b → AllByRecursion P (filter p xs) → AllByRecursion P (cond b (x ∷ filter p xs) (filter p xs))
    by_value true e others = (h.0 e, others)
    by_value false e others = others

-- What holds of the entries of a class holds of the entries that it gives states to.
module _ (E : ℕ → Type 0) where
  -- it holds of the entry of a cite
  abbrev OfPrinted : Printed → Type 0
  OfPrinted s = E s.entry

  -- of the entry of a member
  abbrev OfMember : Member → Type 0
  OfMember m = E m.cite.entry

  -- and of the entry that a state is given to
  abbrev OfGiven : GivenState → Type 0
  OfGiven g = E g.entry

  same_cite : (b : Bool) (x m : Member) → x.cite ≡ m.cite → (cond b x m).cite ≡ m.cite
  same_cite true x m e = e
  same_cite false x m e = refl

  raised_cite : (ms : List Member) (index : ℕ) (m : Member) → (with_raised ms index m).cite ≡ m.cite
  raised_cite ms index m = same_cite (raises (rule_for m)) _ m refl

  distinguished_cite : (ms : List Member) (index : ℕ) (m : Member) → (distinguished_at ms index m).cite ≡ m.cite
  distinguished_cite ms index m = same_cite (is_newly_distinguished (index + 1) ms m) (record (with_raised ms index m) { is_distinguished = true }) m (raised_cite ms index m)

  shown_cite : (n : ℕ) (m : Member) → (showing_up_to n m).cite ≡ m.cite
  shown_cite n m = same_cite (names_may_change m) _ m refl

  shown_all : (ms : List Member) (index : ℕ) → AllByRecursion OfMember ms → AllByRecursion OfMember (all_shown_up_to ms index)
  shown_all ms index h =
      map_all OfMember (λ m. showing_up_to (index + 1) (distinguished_at ms index m)) ms
      (weaker_all OfMember (λ m. OfMember (showing_up_to (index + 1) (distinguished_at ms index m)))
      (λ m g. subst (λ (s : Printed). E s.entry) (sym (shown_cite (index + 1) (distinguished_at ms index m) ∙ distinguished_cite ms index m)) g) ms h)

  members_all : (ns : List ℕ) (ms : List Member) → AllByRecursion OfMember ms → AllByRecursion OfMember (fold distinguished_by ms ns)
  members_all [] ms h = h
  members_all (n ∷ ns) ms h =
      members_all ns (distinguished_by ms n) (either_all OfMember (list_any (is_newly_distinguished (n + 1) ms) ms) (all_shown_up_to ms n) ms (shown_all ms n h) h)

  first_members : (ss : List Printed) → AllByRecursion OfPrinted ss → AllByRecursion OfMember (members ss)
  first_members ss h = map_all OfMember member (enumerate_from 0 ss) (weaker_all (λ (p : ℕ × Printed). OfPrinted p.1) (λ p. OfMember (member p)) at (enumerate_from 0 ss) (enumerate_all OfPrinted 0 ss h))
    where
      at : (p : ℕ × Printed) → OfPrinted p.1 → OfMember (member p)
      at (index, s) g = g

  -- a state that is given by the class of that origin, and is no year suffix
  abbrev IsPlain : Origin → GivenState → Type 0
  IsPlain o g = E g.entry × (g.origin ≡ o) × (suffix_index g.state ≡ None)

  names_one : (entry : ℕ) (o : Origin) (old new : Option Properties) → E entry → AllByRecursion (IsPlain o) (states_by_names_of entry o old new)
  names_one entry o None new h = tt
  names_one entry o (Some old) None h = tt
  names_one entry o (Some old) (Some new) h = either_all (IsPlain o) (prints_more new old) (given_to entry (by_names new) o ∷ []) [] ((h, refl, refl), tt) tt

  names_all : (adds_names : Bool) (o : Origin) (ss : List Printed) → AllByRecursion OfPrinted ss → AllByRecursion (IsPlain o) (states_by_names adds_names o ss)
  names_all adds_names o ss h =
      let ms = distinguished adds_names ss in
      let of_members = members_all (range_with_len 0 (people_compared adds_names (members ss))) (members ss) (first_members ss h) in
      flat_all (IsPlain o) (λ (m : Member). states_by_names_of m.cite.entry o (own_names m.cite) m.names) ms
      (weaker_all OfMember (λ m. AllByRecursion (IsPlain o) (states_by_names_of m.cite.entry o (own_names m.cite) m.names)) (λ m g. names_one m.cite.entry o (own_names m.cite) m.names g) ms of_members)

  choose_all : (o : Origin) (ss : List Printed) → AllByRecursion OfPrinted ss → AllByRecursion (IsPlain o) (states_by_choose o ss)
  choose_all o [] h = tt
  choose_all o (s ∷ ss) h =
      either_all (IsPlain o) s.first_chooses_too (map (chosen o) (s ∷ ss)) (flat_map (choose_beside o s.entry) ss)
      (map_all (IsPlain o) (chosen o) (s ∷ ss) (weaker_all OfPrinted (λ t. IsPlain o (chosen o t)) (λ t g. (g, refl, refl)) (s ∷ ss) h))
      (flat_all (IsPlain o) (choose_beside o s.entry) ss
      (weaker_all OfPrinted (λ t. AllByRecursion (IsPlain o) (choose_beside o s.entry t)) (λ t g. either_all (IsPlain o) (t.entry == s.entry) [] (given_to t.entry by_choose o ∷ []) tt ((g, refl, refl), tt)) ss h.1))

  branches_all : (o : Origin) (ss : List Printed) → AllByRecursion OfPrinted ss → AllByRecursion (IsPlain o) (states_by_branches o ss)
  branches_all o ss h =
      let met = filter (λ (s : Printed). s.met_disambiguate) ss in
      either_all (IsPlain o) (list_any (λ (s : Printed). may_change s.state) met) (states_by_choose o met) [] (choose_all o met (filter_all OfPrinted (λ (s : Printed). s.met_disambiguate) ss h)) tt

  once_all : (xs : List ℕ) → AllByRecursion E xs → AllByRecursion E (once nat_eq xs)
  once_all [] h = tt
  once_all (x ∷ xs) h = (h.0, filter_all E (λ y. not (nat_eq x y)) (once nat_eq xs) (once_all xs h.1))

  -- a state that is given by the class of that origin
  abbrev IsOwn : Origin → GivenState → Type 0
  IsOwn o g = E g.entry × (g.origin ≡ o)

  suffixes_own : (o : Origin) (es : List ℕ) → AllByRecursion E es → AllByRecursion (IsOwn o) (suffixes_for o es)
  suffixes_own o es h =
      map_all (IsOwn o) (λ (p : ℕ × ℕ). given_to p.1 (by_suffix p.0) o) (enumerate_from 0 es)
      (weaker_all (λ (p : ℕ × ℕ). E p.1) (λ p. IsOwn o (given_to p.1 (by_suffix p.0) o)) (λ p g. (g, refl)) (enumerate_from 0 es) (enumerate_all E 0 es h))

  own_entries : (ss : List Printed) → AllByRecursion OfPrinted ss → AllByRecursion E (entries_of ss)
  own_entries ss h = once_all (map (λ (s : Printed). s.entry) ss) (map_all E (λ (s : Printed). s.entry) ss h)

  ordered_all : (ss : List Printed) → AllByRecursion OfPrinted ss → AllByRecursion OfPrinted (in_suffix_order ss)
  ordered_all ss h =
      either_all OfPrinted (list_any (λ (s : Printed). s.suffixes_by_number) ss) (sorted by_number ss) ss (recursion_from_All OfPrinted (sorted by_number ss) (sorted_all OfPrinted by_number ss (All-from_recursion OfPrinted ss h))) h

  suffixes_all_own : (has_dates : Bool) (o : Origin) (ss : List Printed) → AllByRecursion OfPrinted ss → AllByRecursion (IsOwn o) (states_by_suffixes has_dates o ss)
  suffixes_all_own has_dates o ss h =
      let es = entries_of (in_suffix_order ss) in
      either_all (IsOwn o) (has_dates && list_any (λ (s : Printed). s.adds_suffix) ss) (suffixes_for o es) [] (suffixes_own o es (own_entries (in_suffix_order ss) (ordered_all ss h))) tt

  while_all : (Q : GivenState → Type 0) (ss : List Printed) (more gs : List GivenState) → AllByRecursion Q more → AllByRecursion Q gs → AllByRecursion Q (unless_given ss more gs)
  while_all Q ss more gs h k = either_all Q (is_given_to_class gs ss) gs (gs ++ more) k (append_all Q gs more k h)

  plain_of : (o : Origin) (gs : List GivenState) → AllByRecursion (IsPlain o) gs → AllByRecursion OfGiven gs
  plain_of o gs h = weaker_all (IsPlain o) OfGiven (λ g k. k.0) gs h

  given_all : (adds_names has_dates : Bool) (gs : List GivenState) (o : Origin) (ss : List Printed) → AllByRecursion OfPrinted ss → AllByRecursion OfGiven gs → AllByRecursion OfGiven (given_by adds_names has_dates gs o ss)
  given_all adds_names has_dates gs o ss h k =
      let named = append_all OfGiven gs (states_by_names adds_names o ss) k (plain_of o (states_by_names adds_names o ss) (names_all adds_names o ss h)) in
      let branched = while_all OfGiven ss (states_by_branches o ss) (gs ++ states_by_names adds_names o ss) (plain_of o (states_by_branches o ss) (branches_all o ss h)) named in
      while_all OfGiven ss (states_by_suffixes has_dates o ss) (unless_given ss (states_by_branches o ss) (gs ++ states_by_names adds_names o ss))
      (weaker_all (IsOwn o) OfGiven (λ g l. l.0) (states_by_suffixes has_dates o ss) (suffixes_all_own has_dates o ss h)) branched

  all_given : (adds_names has_dates : Bool) (round : ℕ) (ps : List (ℕ × List Printed)) (gs : List GivenState) → AllByRecursion (λ (p : ℕ × List Printed). AllByRecursion OfPrinted p.1) ps → AllByRecursion OfGiven gs
      → AllByRecursion OfGiven (fold (given_with_class adds_names has_dates round) gs ps)
  all_given adds_names has_dates round [] gs h k = k
  all_given adds_names has_dates round (p ∷ ps) gs h k =
      all_given adds_names has_dates round ps (given_with_class adds_names has_dates round gs p) h.1 (given_all adds_names has_dates gs (record { round = round; class = p.0 }) p.1 h.0 k)

  in_parts : {A : Type 0} (Q : A → Type 0) (alike : A → A → Bool) (xs : List A) → AllByRecursion Q xs → AllByRecursion (AllByRecursion Q) (parts alike xs)
  in_parts {A} Q alike xs h = flat_all (AllByRecursion Q) (part_at alike xs) (enumerate_from 0 xs) (every_all (λ p. AllByRecursion (AllByRecursion Q) (part_at alike xs p)) at (enumerate_from 0 xs))
    where
      at : (p : ℕ × A) → AllByRecursion (AllByRecursion Q) (part_at alike xs p)
      at (i, x) = either_all (AllByRecursion Q) (count_by (alike x) (take i xs) == 1) (filter (alike x) xs ∷ []) [] (filter_all Q (alike x) xs h, tt) tt

  in_classes : (ss : List Printed) → AllByRecursion (λ (s : Printed). allows_suffix s.state ≡ true → OfPrinted s) ss → AllByRecursion (AllByRecursion OfPrinted) (classes ss)
  in_classes ss h =
      let left = filter may_be_alike ss in
      let wanted = weaker_all (λ (s : Printed). allows_suffix s.state ≡ true → OfPrinted s) (λ (s : Printed). may_be_alike s ≡ true → OfPrinted s)
      (λ s k e. k (and_parts (allows_suffix s.state) (not (only_repeats s)) e).0) ss h in
      filter_all (AllByRecursion OfPrinted) is_mixed (parts is_alike left) (in_parts OfPrinted is_alike left (passed_all OfPrinted may_be_alike ss wanted))

  -- what holds of each entry whose cites may still be given a year suffix holds of each that the round gives something to
  pub round_all : (adds_names : Bool) (round : ℕ) (ss : List Printed) → AllByRecursion (λ (s : Printed). allows_suffix s.state ≡ true → OfPrinted s) ss → AllByRecursion OfGiven (round_given adds_names round ss)
  round_all adds_names round ss h = all_given adds_names (list_any prints_date ss) round (enumerate_from 0 (classes ss)) [] (enumerate_all (AllByRecursion OfPrinted) 0 (classes ss) (in_classes ss h)) tt

one_value : {A : Type 0} (a b : A) → Some a ≡ Some b → a ≡ b
one_value a b e = ap (λ o. unwrap_or o a) e

no_suffix : (o : Option ℕ) (n : ℕ) → o ≡ Some n → o ≡ None → ⊥
no_suffix o n p q = true≢false (ap is_some (sym p ∙ q))

-- an entry is known by the year suffix that a class gave it
abbrev AreUnique : List GivenState → Type 0
AreUnique gs = (g h : GivenState) (n : ℕ) → Contains gs g → Contains gs h → g.origin ≡ h.origin → suffix_index g.state ≡ Some n → suffix_index h.state ≡ Some n → g.entry ≡ h.entry

-- no year suffix is given by one class here and there
abbrev AreApart : List GivenState → List GivenState → Type 0
AreApart gs hs = (g h : GivenState) (n : ℕ) → Contains gs g → Contains hs h → g.origin ≡ h.origin → suffix_index g.state ≡ Some n → suffix_index h.state ≡ Some n → ⊥

none_unique : AreUnique []
none_unique = λ g h n has_g has_h. absurd (not-suc-le-zero has_g.1)

more_unique : (gs hs : List GivenState) → AreUnique gs → AreUnique hs → AreApart gs hs → AreUnique (gs ++ hs)
more_unique gs hs u v apart = λ g h n has_g has_h o p q.
    elim (Contains-append_cases gs hs g has_g) [
      | inl a ↦ elim (Contains-append_cases gs hs h has_h) [ inl b ↦ u g h n a b o p q | inr b ↦ absurd (apart g h n a b o p q) ]
      | inr a ↦ elim (Contains-append_cases gs hs h has_h) [ inl b ↦ absurd (apart h g n b a (sym o) q p) | inr b ↦ v g h n a b o p q ]
    ]

-- a state is no year suffix
abbrev HasNoSuffix : GivenState → Type 0
HasNoSuffix g = suffix_index g.state ≡ None

without_suffixes_unique : (hs : List GivenState) → AllByRecursion HasNoSuffix hs → AreUnique hs
without_suffixes_unique hs k = λ g h n has_g has_h o p q. absurd (no_suffix (suffix_index g.state) n p (All-contains HasNoSuffix hs g (All-from_recursion HasNoSuffix hs k) has_g))

without_suffixes_apart : (gs hs : List GivenState) → AllByRecursion HasNoSuffix hs → AreApart gs hs
without_suffixes_apart gs hs k = λ g h n has_g has_h o p q. no_suffix (suffix_index h.state) n q (All-contains HasNoSuffix hs h (All-from_recursion HasNoSuffix hs k) has_h)

while_unique : (ss : List Printed) (more gs : List GivenState) → AreUnique gs → AreUnique more → AreApart gs more → AreUnique (unless_given ss more gs)
while_unique ss more gs u v apart = by_value (is_given_to_class gs ss)
  where
    by_value : (b : Bool) → AreUnique (cond b gs (gs ++ more))
    by_value true = u
    by_value false = more_unique gs more u v apart

suffixes_at : (o : Origin) (f : ℕ → Option ℕ) (n : ℕ) (es : List ℕ) → ((j : ℕ) → f (n + j) ≡ slice_get es j)
    → AllByRecursion (λ (g : GivenState). (m : ℕ) → suffix_index g.state ≡ Some m → f m ≡ Some g.entry) (map (λ (p : ℕ × ℕ). given_to p.1 (by_suffix p.0) o) (enumerate_from n es))
suffixes_at o f n [] e = tt
suffixes_at o f n (x ∷ es) e =
    let at : n + 0 ≡ n = omega arith in
    let later : (j : ℕ) → f ((n + 1) + j) ≡ slice_get es j = λ j. (let one : (n + 1) + j ≡ n + suc j = omega arith in ap f one ∙ e (suc j)) in
    (λ m is. ap f (sym (one_value n m is)) ∙ ap f (sym at) ∙ e 0, suffixes_at o f (n + 1) es later)

suffixes_unique : (o : Origin) (es : List ℕ) → AreUnique (suffixes_for o es)
suffixes_unique o es = λ g h n has_g has_h same p q.
    let from_start : (j : ℕ) → slice_get es (0 + j) ≡ slice_get es j = λ j. (let zero_more : 0 + j ≡ j = omega arith in ap (slice_get es) zero_more) in
    let all = All-from_recursion (λ (l : GivenState). (m : ℕ) → suffix_index l.state ≡ Some m → slice_get es m ≡ Some l.entry) (suffixes_for o es) (suffixes_at o (slice_get es) 0 es from_start) in
    let of_g = All-contains (λ (l : GivenState). (m : ℕ) → suffix_index l.state ≡ Some m → slice_get es m ≡ Some l.entry) (suffixes_for o es) g all has_g in
    let of_h = All-contains (λ (l : GivenState). (m : ℕ) → suffix_index l.state ≡ Some m → slice_get es m ≡ Some l.entry) (suffixes_for o es) h all has_h in
    one_value g.entry h.entry (sym (of_g n p) ∙ of_h n q)

either_unique : (b : Bool) (gs : List GivenState) → AreUnique gs → AreUnique (cond b gs [])
either_unique true gs u = u
either_unique false gs u = none_unique

-- nothing is asked of entries
abbrev AnyEntry : ℕ → Type 0
AnyEntry e = Unit {0}

any_printed : (ss : List Printed) → AllByRecursion (λ (s : Printed). AnyEntry s.entry) ss
any_printed ss = every_all (λ (s : Printed). AnyEntry s.entry) (λ s. tt) ss

-- the class of a number in a round
abbrev class_at : ℕ → ℕ → Origin
class_at round class = record { round = round; class = class }

-- a state is given in a round, by a class before that of a number
abbrev IsBefore : ℕ → ℕ → GivenState → Type 0
IsBefore round class g = (g.origin.round ≡ round) × (g.origin.class < class)

own_before : (round class : ℕ) (g : GivenState) → g.origin ≡ class_at round class → IsBefore round (class + 1) g
own_before round class g e = let at : g.origin.class ≡ class = ap (λ (o : Origin). o.class) e in (ap (λ (o : Origin). o.round) e, omega (arith, at))

still_before : (round class : ℕ) (g : GivenState) → IsBefore round class g → IsBefore round (class + 1) g
still_before round class g h = (h.0, omega (arith, h.1))

plain_before : (round class : ℕ) (gs : List GivenState) → AllByRecursion (IsPlain AnyEntry (class_at round class)) gs → AllByRecursion (IsBefore round (class + 1)) gs
plain_before round class gs h = weaker_all (IsPlain AnyEntry (class_at round class)) (IsBefore round (class + 1)) (λ g k. own_before round class g k.1) gs h

plain_without_suffix : (o : Origin) (gs : List GivenState) → AllByRecursion (IsPlain AnyEntry o) gs → AllByRecursion HasNoSuffix gs
plain_without_suffix o gs h = weaker_all (IsPlain AnyEntry o) HasNoSuffix (λ g k. k.2) gs h

-- what a class has given before its year suffix
module _ (adds_names : Bool) (round class : ℕ) (gs : List GivenState) (ss : List Printed) where
  abbrev named : List GivenState
  named = states_by_names adds_names (class_at round class) ss

  abbrev branched : List GivenState
  branched = states_by_branches (class_at round class) ss

  abbrev without_suffixes : List GivenState
  without_suffixes = unless_given ss branched (gs ++ named)

  named_plain : AllByRecursion (IsPlain AnyEntry (class_at round class)) named
  named_plain = names_all AnyEntry adds_names (class_at round class) ss (any_printed ss)

  branched_plain : AllByRecursion (IsPlain AnyEntry (class_at round class)) branched
  branched_plain = branches_all AnyEntry (class_at round class) ss (any_printed ss)

  before_suffixes : AllByRecursion (IsBefore round class) gs → AllByRecursion (IsBefore round (class + 1)) without_suffixes
  before_suffixes h =
      let before = weaker_all (IsBefore round class) (IsBefore round (class + 1)) (still_before round class) gs h in
      while_all AnyEntry (IsBefore round (class + 1)) ss branched (gs ++ named) (plain_before round class branched branched_plain) (append_all (IsBefore round (class + 1)) gs named before (plain_before round class named named_plain))

  -- a state of this class is no year suffix yet
  abbrev IsFree : GivenState → Type 0
  IsFree g = g.origin ≡ class_at round class → HasNoSuffix g

  earlier_free : (g : GivenState) → IsBefore round class g → IsFree g
  earlier_free g h = λ e. let at : g.origin.class ≡ class = ap (λ (o : Origin). o.class) e in absurd (omega (arith, h.1, at))

  free_suffixes : AllByRecursion (IsBefore round class) gs → AllByRecursion IsFree without_suffixes
  free_suffixes h =
      let plain : (hs : List GivenState) → AllByRecursion (IsPlain AnyEntry (class_at round class)) hs → AllByRecursion IsFree hs = λ hs k. weaker_all (IsPlain AnyEntry (class_at round class)) IsFree (λ g l e. l.2) hs k in
      while_all AnyEntry IsFree ss branched (gs ++ named) (plain branched branched_plain) (append_all IsFree gs named (weaker_all (IsBefore round class) IsFree earlier_free gs h) (plain named named_plain))

  without_suffixes_unique_yet : AreUnique gs → AreUnique without_suffixes
  without_suffixes_unique_yet u =
      let names = plain_without_suffix (class_at round class) named named_plain in
      let branches = plain_without_suffix (class_at round class) branched branched_plain in
      while_unique ss branched (gs ++ named) (more_unique gs named u (without_suffixes_unique named names) (without_suffixes_apart gs named names)) (without_suffixes_unique branched branches) (without_suffixes_apart (gs ++ named) branched branches)

  suffixes_apart : (more : List GivenState) → AllByRecursion (IsOwn AnyEntry (class_at round class)) more → AllByRecursion IsFree without_suffixes → AreApart without_suffixes more
  suffixes_apart more own free = λ g h n has_g has_h o p q.
      let of_h = All-contains (IsOwn AnyEntry (class_at round class)) more h (All-from_recursion (IsOwn AnyEntry (class_at round class)) more own) has_h in
      let of_g = All-contains IsFree without_suffixes g (All-from_recursion IsFree without_suffixes free) has_g in
      no_suffix (suffix_index g.state) n p (of_g (o ∙ of_h.1))

  module _ (has_dates : Bool) where
    abbrev with_suffixes : List GivenState
    with_suffixes = states_by_suffixes has_dates (class_at round class) ss

    with_suffixes_own : AllByRecursion (IsOwn AnyEntry (class_at round class)) with_suffixes
    with_suffixes_own = suffixes_all_own AnyEntry has_dates (class_at round class) ss (any_printed ss)

    class_before : AllByRecursion (IsBefore round class) gs → AllByRecursion (IsBefore round (class + 1)) (given_by adds_names has_dates gs (class_at round class) ss)
    class_before h =
        while_all AnyEntry (IsBefore round (class + 1)) ss with_suffixes without_suffixes
        (weaker_all (IsOwn AnyEntry (class_at round class)) (IsBefore round (class + 1)) (λ g k. own_before round class g k.1) with_suffixes with_suffixes_own) (before_suffixes h)

    class_unique : AllByRecursion (IsBefore round class) gs → AreUnique gs → AreUnique (given_by adds_names has_dates gs (class_at round class) ss)
    class_unique h u =
        while_unique ss with_suffixes without_suffixes (without_suffixes_unique_yet u)
        (either_unique (has_dates && list_any (λ (s : Printed). s.adds_suffix) ss) (suffixes_for (class_at round class) (entries_of (in_suffix_order ss))) (suffixes_unique (class_at round class) (entries_of (in_suffix_order ss))))
        (suffixes_apart with_suffixes with_suffixes_own (free_suffixes h))

-- a state is given in a round
abbrev IsInRound : ℕ → GivenState → Type 0
IsInRound round g = g.origin.round ≡ round

classes_unique : (adds_names has_dates : Bool) (round class : ℕ) (cs : List (List Printed)) (gs : List GivenState) → AllByRecursion (IsBefore round class) gs → AreUnique gs
    → AllByRecursion (IsInRound round) (fold (given_with_class adds_names has_dates round) gs (enumerate_from class cs)) × AreUnique (fold (given_with_class adds_names has_dates round) gs (enumerate_from class cs))
classes_unique adds_names has_dates round class [] gs h u = (weaker_all (IsBefore round class) (IsInRound round) (λ g k. k.0) gs h, u)
classes_unique adds_names has_dates round class (c ∷ cs) gs h u =
    classes_unique adds_names has_dates round (class + 1) cs (given_by adds_names has_dates gs (class_at round class) c) (class_before adds_names round class gs c has_dates h) (class_unique adds_names round class gs c has_dates h u)

round_unique : (adds_names : Bool) (round : ℕ) (ss : List Printed) → AllByRecursion (IsInRound round) (round_given adds_names round ss) × AreUnique (round_given adds_names round ss)
round_unique adds_names round ss = classes_unique adds_names (list_any prints_date ss) round 0 (classes ss) [] tt none_unique

-- a state is given before a round
abbrev IsEarlier : ℕ → GivenState → Type 0
IsEarlier round g = g.origin.round < round

rounds_apart : (round : ℕ) (gs hs : List GivenState) → AllByRecursion (IsEarlier round) gs → AllByRecursion (IsInRound round) hs → AreApart gs hs
rounds_apart round gs hs before now = λ g h n has_g has_h o p q.
    let of_g = All-contains (IsEarlier round) gs g (All-from_recursion (IsEarlier round) gs before) has_g in
    let of_h = All-contains (IsInRound round) hs h (All-from_recursion (IsInRound round) hs now) has_h in
    let same : g.origin.round ≡ h.origin.round = ap (λ (v : Origin). v.round) o in
    omega (arith, of_g, of_h, same)

rounds_unique : (adds_names : Bool) (cites : List Candidate) (round count : ℕ) (t : Disambiguation) → AllByRecursion (IsEarlier round) t.given → AreUnique t.given → AreUnique (fold (after_round adds_names cites) t (range_with_len round count)).given
rounds_unique adds_names cites round zero t h u = u
rounds_unique adds_names cites round (suc count) t h u =
    let gs = round_given adds_names round (map (printed_under t.states) cites) in
    let own = round_unique adds_names round (map (printed_under t.states) cites) in
    let earlier = append_all (IsEarlier (round + 1)) t.given gs (weaker_all (IsEarlier round) (IsEarlier (round + 1)) (λ g k. omega (arith, k)) t.given h) (weaker_all (IsInRound round) (IsEarlier (round + 1)) (λ g k. omega (arith, k)) gs own.0) in
    rounds_unique adds_names cites (round + 1) count (after_round adds_names cites t round) earlier (more_unique t.given gs u own.1 (rounds_apart round t.given gs h own.0))

found_in : (p : GivenState → Bool) (gs : List GivenState) (g : GivenState) → find p gs ≡ Some g → Contains gs g × (p g ≡ true)
found_in p [] g h = absurd (true≢false (sym (ap is_some h)))
found_in p (x ∷ gs) g h = by_value (p x) refl (found_in p gs g)
  where
    by_value : (b : Bool) → p x ≡ b → (find p gs ≡ Some g → Contains gs g × (p g ≡ true)) → Contains (x ∷ gs) g × (p g ≡ true)
    by_value true e others =
        let same : x ≡ g = one_value x g (sym (ap (λ b. cond b (Some x) (find p gs)) e) ∙ h) in
        ((0, omega arith, same), ap p (sym same) ∙ e)
    by_value false e others = let rest = others (sym (ap (λ b. cond b (Some x) (find p gs)) e) ∙ h) in (Contains-append_right (x ∷ []) gs g rest.0, rest.1)

first_true : (a b : Bool) → (a && b) ≡ true → a ≡ true
first_true true b h = refl
first_true false b h = h

second_true : (a b : Bool) → (a && b) ≡ true → b ≡ true
second_true true b h = h
second_true false b h = absurd (true≢false (sym h))

suffix_is : (n : ℕ) (o : Option ℕ) → option_map_or (λ m. m == n) o false ≡ true → o ≡ Some n
suffix_is n None h = absurd (true≢false (sym h))
suffix_is n (Some m) h = ap (λ k. Some k) (eqb-true m n h)

-- What gave an entry its year suffix.
record Giver (gs : List GivenState) (entry : ℕ) (s : Suffix) : Type 0 where
  given : GivenState
  has : Contains gs given
  to : given.entry ≡ entry
  year_suffixes : suffix_index given.state ≡ Some s.index
  origin : given.origin ≡ s.origin

giver_found : (gs : List GivenState) (entry n : ℕ) (s : Suffix) (o : Option GivenState) → giver_of n entry gs ≡ o → option_map (λ (g : GivenState). record { index = n; origin = g.origin }) o ≡ Some s → Giver gs entry s
giver_found gs entry n s None e h = absurd (true≢false (sym (ap is_some h)))
giver_found gs entry n s (Some g) e h =
    let found = found_in (λ (q : GivenState). is_given_to entry q && is_suffix n q.state) gs g e in
    let is : record { index = n; origin = g.origin } ≡ s = one_value (record { index = n; origin = g.origin }) s h in
    record {
      given = g;
      has = found.0;
      to = eqb-true g.entry entry (first_true (is_given_to entry g) (is_suffix n g.state) found.1);
      year_suffixes = suffix_is n (suffix_index g.state) (second_true (is_given_to entry g) (is_suffix n g.state) found.1) ∙ ap (λ (q : Suffix). Some q.index) is;
      origin = ap (λ (q : Suffix). q.origin) is;
    }

giver_by : (gs : List GivenState) (entry : ℕ) (s : Suffix) (o : Option ℕ) → option_and_then (suffix_given entry gs) o ≡ Some s → Giver gs entry s
giver_by gs entry s None h = absurd (true≢false (sym (ap is_some h)))
giver_by gs entry s (Some n) h = giver_found gs entry n s (giver_of n entry gs) refl h

-- no two entries have the same year suffix of one class in one round
pub suffixes_distinct : YearSuffixesAreDistinct
suffixes_distinct = λ adds_names n cites entry other s of_entry of_other.
    let t = disambiguated adds_names n cites in
    let a = giver_by t.given entry s (suffix_index (state_of t.states entry)) of_entry in
    let b = giver_by t.given other s (suffix_index (state_of t.states other)) of_other in
    let unique = rounds_unique adds_names cites 0 3 (before_rounds n) tt none_unique in
    sym a.to ∙ unique a.given b.given s.index a.has b.has (a.origin ∙ sym b.origin) a.year_suffixes b.year_suffixes ∙ b.to

range_more : (start n : ℕ) → range_with_len start (suc n) ≡ range_with_len start n ++ (start + n) ∷ []
range_more start zero = let e : start ≡ start + 0 = omega arith in ap (λ m. m ∷ []) e
range_more start (suc n) = let e : (start + 1) + n ≡ start + suc n = omega arith in ap (λ ms. start ∷ ms) (range_more (start + 1) n ∙ ap (λ m. range_with_len (start + 1) n ++ m ∷ []) e)

-- one more round
one_more : (adds_names : Bool) (n : ℕ) (cites : List Candidate) (rounds : ℕ) → after_rounds (rounds + 1) adds_names n cites ≡ after_round adds_names cites (after_rounds rounds adds_names n cites) rounds
one_more adds_names n cites rounds =
    let more : rounds + 1 ≡ suc rounds = omega arith in
    let last : 0 + rounds ≡ rounds = omega arith in
    ap (λ m. fold (after_round adds_names cites) (before_rounds n) (range_with_len 0 m)) more
    ∙ ap (fold (after_round adds_names cites) (before_rounds n)) (range_more 0 rounds ∙ ap (λ m. range_with_len 0 rounds ++ m ∷ []) last)
    ∙ fold-append (after_round adds_names cites) (before_rounds n) (range_with_len 0 rounds) (rounds ∷ [])

none_given : (entry : ℕ) (gs : List GivenState) → AllByRecursion (λ (g : GivenState). is_given_to entry g ≡ false) gs → filter (is_given_to entry) gs ≡ []
none_given entry [] h = refl
none_given entry (g ∷ gs) h = ap (λ b. cond b (g ∷ filter (is_given_to entry) gs) (filter (is_given_to entry) gs)) h.0 ∙ none_given entry gs h.1

states_after_within : (gs : List GivenState) (ms : States) (entry : ℕ) → entry < length ms → state_of (states_after gs ms) entry ≡ unwrap_or (joined_for entry gs) (state_of ms entry)
states_after_within gs ms entry low =
    let long : length (enumerate_from 0 ms) ≡ length ms = length-enumerate_from 0 ms in
    let index : 0 + entry ≡ entry = omega arith in
    let read : get_or (enumerate_from 0 ms) entry (0, undisambiguated) ≡ (entry, get_or ms entry undisambiguated) =
    get_or-enumerate_from 0 ms entry (0, undisambiguated) low ∙ (λ k. (index k, get_or ms entry undisambiguated)) in
    get_or-map (λ (p : ℕ × DisambiguateState). unwrap_or (joined_for p.0 gs) p.1) (enumerate_from 0 ms) entry (0, undisambiguated) undisambiguated (omega (arith, low, long))
    ∙ ap (λ (p : ℕ × DisambiguateState). unwrap_or (joined_for p.0 gs) p.1) read

suffix_within : (ms : States) (entry n : ℕ) → state_of ms entry ≡ by_suffix n → entry < length ms
suffix_within [] entry n h = absurd (true≢false (sym (ap (λ m. is_some (suffix_index m)) h)))
suffix_within (m ∷ ms) zero n h = omega arith
suffix_within (m ∷ ms) (suc entry) n h = let low : entry < length ms = suffix_within ms entry n h in omega (arith, low)

apart_from : (ms : States) (entry n : ℕ) → state_of ms entry ≡ by_suffix n → (c : Candidate) → allows_suffix (printed_under ms c).state ≡ true → nat_eq (printed_under ms c).entry entry ≡ false
apart_from ms entry n h c allowed = by_value (nat_eq c.entry entry) refl
  where
    by_value : (b : Bool) → nat_eq c.entry entry ≡ b → nat_eq c.entry entry ≡ false
    by_value true e = absurd (true≢false (sym allowed ∙ ap (λ k. allows_suffix (state_of ms k)) (eqb-true c.entry entry e) ∙ ap allows_suffix h))
    by_value false e = e

-- year suffixes are final
pub suffixes_final : YearSuffixesAreFinal
suffixes_final = λ adds_names n cites rounds entry index h.
    let t = after_rounds rounds adds_names n cites in
    let ss = map (printed_under t.states) cites in
    let gs = round_given adds_names rounds ss in
    let apart = map_all (λ (s : Printed). allows_suffix s.state ≡ true → nat_eq s.entry entry ≡ false) (printed_under t.states) cites
    (every_all (λ c. allows_suffix (printed_under t.states c).state ≡ true → nat_eq (printed_under t.states c).entry entry ≡ false) (apart_from t.states entry index h) cites) in
    let none = none_given entry gs (round_all (λ e. nat_eq e entry ≡ false) adds_names rounds ss apart) in
    ap (λ (u : Disambiguation). state_of u.states entry) (one_more adds_names n cites rounds)
    ∙ states_after_within gs t.states entry (suffix_within t.states entry index h)
    ∙ ap (λ (given : List GivenState). unwrap_or (reduce greater_state (map (λ (g : GivenState). g.state) given)) (state_of t.states entry)) none
    ∙ h

numbered_back : (n : ℕ) (ms : States) → map (λ (p : ℕ × DisambiguateState). p.1) (enumerate_from n ms) ≡ ms
numbered_back n [] = refl
numbered_back n (m ∷ ms) = ap (λ ns. m ∷ ns) (numbered_back (n + 1) ms)

-- a round that gives nothing changes nothing
pub nothing_changes : RoundsThatGiveNothingChangeNothing
nothing_changes = λ adds_names n cites rounds h.
    let t = after_rounds rounds adds_names n cites in
    one_more adds_names n cites rounds
    ∙ ap (λ gs. after_giving gs t) h
    ∙ (λ k. record { states = numbered_back 0 t.states k; given = append-nil t.given k })
