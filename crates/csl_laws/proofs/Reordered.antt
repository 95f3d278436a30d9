-- What is looked for among attributes does not go by their order.
use Rattle.std.proofs.Common.{◌≡◌, inl, inr, ℕ, Bool, true, false, cond, ◌||◌, List, [], ◌∷◌, Option, Some, None, option_map, true≢false, refl, sym, ap, ◌∙◌}
use Rattle.std.specs.List.{find, list_any, filter_map, cons_option}
use Rattle.xml_text.specs.Tokens.{At}
use Rattle.xml_tree.specs.Trees.{FullName, Attribute}
use Rattle.xml_tree.specs.Names.{repeated}
use Rattle.xml_tree.specs.Scope.{same_full_name}
use Rattle.csl_laws.specs.Alike.{IsOneOf, AreSameAttributes}

-- a test of attributes that go by their names
abbrev pub GoesByName : (Attribute → Bool) → Type 0
GoesByName q = (u w : Attribute) → q u ≡ true → q w ≡ true → same_full_name u.name w.name ≡ true

-- two that are the same where one implies the other
pub both_ways : (a b : Bool) → (a ≡ true → b ≡ true) → (b ≡ true → a ≡ true) → a ≡ b
both_ways true b f g = sym (f refl)
both_ways false true f g = g refl
both_ways false false f g = refl

later_false : (a b : Bool) → (a || b) ≡ false → b ≡ false
later_false true b e = absurd (true≢false e)
later_false false b e = e

first_false : (a b : Bool) → a ≡ true → (a || b) ≡ false → ⊥
first_false true b e f = true≢false f
first_false false b e f = true≢false (sym e)

later_none : (b : Bool) (left : ℕ) (o : Option ℕ) → cond b (Some left) o ≡ None → o ≡ None
later_none true left o e = absurd cc
later_none false left o e = e

-- where no attribute's name passes a test or is repeated, it is no name of one
not_met : (met : FullName → Bool) (ps : List (At Attribute)) → repeated met ps ≡ None → (u : Attribute) → IsOneOf ps u → met u.name ≡ false
not_met met [] none u is = absurd is
not_met met (a ∷ ps) none u is = by_test (met a.v.name) refl none is (λ e i. not_met (λ n. same_full_name a.v.name n || met n) ps e u i)
  where
    by_test : (b : Bool) → met a.v.name ≡ b → cond b (Some a.left) (repeated (λ n. same_full_name a.v.name n || met n) ps) ≡ None → IsOneOf (a ∷ ps) u
        → (repeated (λ n. same_full_name a.v.name n || met n) ps ≡ None → IsOneOf ps u → (same_full_name a.v.name u.name || met u.name) ≡ false) → met u.name ≡ false
    by_test true e none is more = absurd cc
    by_test false e none (inl same) more = ap (λ (v : Attribute). met v.name) (sym same) ∙ e
    by_test false e none (inr i) more = later_false (same_full_name a.v.name u.name) (met u.name) (more none i)

-- one of them alone passes a test that goes by names
once : (q : Attribute → Bool) → GoesByName q → (met : FullName → Bool) (ps : List (At Attribute)) → repeated met ps ≡ None → (u w : Attribute)
    → IsOneOf ps u → IsOneOf ps w → q u ≡ true → q w ≡ true → u ≡ w
once q named met [] none u w i j p r = absurd i
once q named met (a ∷ ps) none u w (inl i) (inl j) p r = sym i ∙ j
once q named met (a ∷ ps) none u w (inl i) (inr j) p r =
    let rest : repeated (λ n. same_full_name a.v.name n || met n) ps ≡ None = later_none (met a.v.name) a.left (repeated (λ n. same_full_name a.v.name n || met n) ps) none in
    absurd (first_false (same_full_name a.v.name w.name) (met w.name) (ap (λ (v : Attribute). same_full_name v.name w.name) i ∙ named u w p r)
    (not_met (λ n. same_full_name a.v.name n || met n) ps rest w j))
once q named met (a ∷ ps) none u w (inr i) (inl j) p r =
    let rest : repeated (λ n. same_full_name a.v.name n || met n) ps ≡ None = later_none (met a.v.name) a.left (repeated (λ n. same_full_name a.v.name n || met n) ps) none in
    absurd (first_false (same_full_name a.v.name u.name) (met u.name) (ap (λ (v : Attribute). same_full_name v.name u.name) j ∙ named w u r p)
    (not_met (λ n. same_full_name a.v.name n || met n) ps rest u i))
once q named met (a ∷ ps) none u w (inr i) (inr j) p r =
    let rest : repeated (λ n. same_full_name a.v.name n || met n) ps ≡ None = later_none (met a.v.name) a.left (repeated (λ n. same_full_name a.v.name n || met n) ps) none in
    once q named (λ n. same_full_name a.v.name n || met n) ps rest u w i j p r

-- a test of attributes, wherever they stand
abbrev of_placed : {Y : Type 0} → (Attribute → Y) → At Attribute → Y
of_placed q a = q a.v

-- what was found is one of them, and passes
found_is : (q : Attribute → Bool) (ps : List (At Attribute)) (a : At Attribute) → find (of_placed q) ps ≡ Some a → IsOneOf ps a.v × (q a.v ≡ true)
found_is q [] a e = absurd cc
found_is q (b ∷ bs) a e = by_test (q b.v) refl e (found_is q bs a)
  where
    by_test : (t : Bool) → q b.v ≡ t → cond t (Some b) (find (of_placed q) bs) ≡ Some a → (find (of_placed q) bs ≡ Some a → IsOneOf bs a.v × (q a.v ≡ true))
        → IsOneOf (b ∷ bs) a.v × (q a.v ≡ true)
    by_test true is e more = let same : b ≡ a = cc in (inl (ap (λ (z : At Attribute). z.v) same), ap (λ (z : At Attribute). q z.v) (sym same) ∙ is)
    by_test false is e more = let r : IsOneOf bs a.v × (q a.v ≡ true) = more e in (inr r.0, r.1)

-- where none is found, none passes
none_found : (q : Attribute → Bool) (ps : List (At Attribute)) (v : Attribute) → IsOneOf ps v → q v ≡ true → find (of_placed q) ps ≡ None → ⊥
none_found q [] v i p none = i
none_found q (b ∷ bs) v i p none = by_test (q b.v) refl none i (none_found q bs v)
  where
    by_test : (t : Bool) → q b.v ≡ t → cond t (Some b) (find (of_placed q) bs) ≡ None → IsOneOf (b ∷ bs) v → (IsOneOf bs v → q v ≡ true → find (of_placed q) bs ≡ None → ⊥) → ⊥
    by_test true is none i more = absurd cc
    by_test false is none (inl e) more = true≢false (sym p ∙ (ap q (sym e) ∙ is))
    by_test false is none (inr j) more = more j p none

-- the value that is found
pub found_same : (q : Attribute → Bool) → GoesByName q → (ps bs : List (At Attribute)) → AreSameAttributes ps bs
    → option_map (λ (a : At Attribute). a.v.value) (find (of_placed q) ps) ≡ option_map (λ (a : At Attribute). a.v.value) (find (of_placed q) bs)
found_same q named ps bs (once_as, once_bs, same) = by_found (find (of_placed q) ps) (find (of_placed q) bs) refl refl
  where
    by_found : (o p : Option (At Attribute)) → find (of_placed q) ps ≡ o → find (of_placed q) bs ≡ p
        → option_map (λ (a : At Attribute). a.v.value) o ≡ option_map (λ (a : At Attribute). a.v.value) p
    by_found None None e f = refl
    by_found None (Some b) e f = let r : IsOneOf bs b.v × (q b.v ≡ true) = found_is q bs b f in absurd (none_found q ps b.v ((same b.v).1 r.0) r.1 e)
    by_found (Some a) None e f = let r : IsOneOf ps a.v × (q a.v ≡ true) = found_is q ps a e in absurd (none_found q bs a.v ((same a.v).0 r.0) r.1 f)
    by_found (Some a) (Some b) e f =
        let r : IsOneOf ps a.v × (q a.v ≡ true) = found_is q ps a e in
        let s : IsOneOf bs b.v × (q b.v ≡ true) = found_is q bs b f in
        ap (λ (v : Attribute). Some v.value) (once q named (λ n. false) bs once_bs a.v b.v ((same a.v).0 r.0) s.0 r.1 s.1)

-- whether one is there
one_passes : (q : Attribute → Bool) (ps : List (At Attribute)) (v : Attribute) → IsOneOf ps v → q v ≡ true → list_any (of_placed q) ps ≡ true
one_passes q [] v i p = absurd i
one_passes q (b ∷ bs) v (inl e) p = ap (λ (t : Bool). t || list_any (of_placed q) bs) (ap q e ∙ p)
one_passes q (b ∷ bs) v (inr j) p = by_test (q b.v) (one_passes q bs v j p)
  where
    by_test : (t : Bool) → list_any (of_placed q) bs ≡ true → (t || list_any (of_placed q) bs) ≡ true
    by_test true e = refl
    by_test false e = e

passes_one : (q : Attribute → Bool) (ps : List (At Attribute)) → list_any (of_placed q) ps ≡ true → (v : Attribute) × IsOneOf ps v × (q v ≡ true)
passes_one q [] e = absurd (true≢false (sym e))
passes_one q (b ∷ bs) e = by_test (q b.v) refl e (passes_one q bs)
  where
    by_test : (t : Bool) → q b.v ≡ t → (t || list_any (of_placed q) bs) ≡ true → (list_any (of_placed q) bs ≡ true → (v : Attribute) × IsOneOf bs v × (q v ≡ true))
        → (v : Attribute) × IsOneOf (b ∷ bs) v × (q v ≡ true)
    by_test true is e more = (b.v, inl refl, is)
    by_test false is e more = let r : (v : Attribute) × IsOneOf bs v × (q v ≡ true) = more e in (r.0, inr r.1, r.2)

moved_to : (q : Attribute → Bool) (ps bs : List (At Attribute)) → ((a : Attribute) → IsOneOf ps a → IsOneOf bs a) → list_any (of_placed q) ps ≡ true → list_any (of_placed q) bs ≡ true
moved_to q ps bs into e = let r : (v : Attribute) × IsOneOf ps v × (q v ≡ true) = passes_one q ps e in one_passes q bs r.0 (into r.0 r.1) r.2

pub any_same : (q : Attribute → Bool) (ps bs : List (At Attribute)) → AreSameAttributes ps bs → list_any (of_placed q) ps ≡ list_any (of_placed q) bs
any_same q ps bs (once_as, once_bs, same) =
    both_ways (list_any (of_placed q) ps) (list_any (of_placed q) bs) (moved_to q ps bs (λ a. (same a).0)) (moved_to q bs ps (λ a. (same a).1))

-- whether something is chosen for one of them
none_chosen : {Y : Type 0} (g : Attribute → Option Y) (ps : List (At Attribute)) → filter_map (of_placed g) ps ≡ [] → (v : Attribute) → IsOneOf ps v → g v ≡ None
none_chosen g [] none v i = absurd i
none_chosen {Y} g (b ∷ bs) none v i = by_choice (g b.v) refl none i (λ e j. none_chosen g bs e v j)
  where
    by_choice : (o : Option Y) → g b.v ≡ o → cons_option o (filter_map (of_placed g) bs) ≡ [] → IsOneOf (b ∷ bs) v → (filter_map (of_placed g) bs ≡ [] → IsOneOf bs v → g v ≡ None) → g v ≡ None
    by_choice (Some y) is none i more = absurd cc
    by_choice None is none (inl e) more = ap g (sym e) ∙ is
    by_choice None is none (inr j) more = more none j

chosen_none : {Y : Type 0} (g : Attribute → Option Y) (ps : List (At Attribute)) → ((v : Attribute) → IsOneOf ps v → g v ≡ None) → filter_map (of_placed g) ps ≡ []
chosen_none g [] each = refl
chosen_none {Y} g (b ∷ bs) each =
    ap (λ (o : Option Y). cons_option o (filter_map (of_placed g) bs)) (each b.v (inl refl)) ∙ chosen_none g bs (λ v i. each v (inr i))

pub none_same : {Y : Type 0} (g : Attribute → Option Y) (ps bs : List (At Attribute)) → AreSameAttributes ps bs → filter_map (of_placed g) ps ≡ [] → filter_map (of_placed g) bs ≡ []
none_same g ps bs (once_as, once_bs, same) none = chosen_none g bs (λ v i. none_chosen g ps none v ((same v).1 i))

pub same_back : (ps bs : List (At Attribute)) → AreSameAttributes ps bs → AreSameAttributes bs ps
same_back ps bs (once_as, once_bs, same) = (once_bs, once_as, λ a. ((same a).1, (same a).0))
