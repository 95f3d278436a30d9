-- What steps of the reader give, against relations of what is spelled.
use Rattle.std.proofs.Common.{◌≡◌, ℕ, Bool, true, false, true≢false, cond, eqb, List, [], ◌∷◌, Option, Some, None, Result, Ok, refl, sym, ap, ◌∙◌, subst}
use Rattle.std.specs.Option.{ok_or}
use Rattle.std.specs.List.{find, list_all}
use Rattle.std.proofs.lemmas.Bool.{and_parts, eqb-true, eq-eqb}
use Rattle.laws.specs.Runs.{prefix_of, after}
use Rattle.laws.specs.Text.{is_filled}
use Rattle.laws.proofs.Results.{ok_is, test_ok}
use Rattle.laws.proofs.Runs.{cuts, prefix-after, all-prefix, bars-after}
use Rattle.texts.specs.Reading.{token_at, taken}
use Rattle.texts.specs.declared.reader.Unreadable.{Unreadable}
use Rattle.texts.specs.declared.reader.Unreadable.TheVariants.{NotThere}
use Rattle.cite_markers.specs.Marker.{passing}
use Rattle.cite_markers_grammar.specs.Characters.{IsRun, IsOptional}
use Rattle.cite_markers_grammar.specs.Markers.{Spells}

-- what the relation relates is read
abbrev pub Again : {X : Type 0} → Spells X → (List ℕ → Result (X × List ℕ) Unreadable) → Type 0
Again {X} Is read = (cs rest : List ℕ) (x : X) → Is cs x rest → read cs ≡ Ok (x, rest)

-- what is read the relation relates
abbrev pub Takes : {X : Type 0} → Spells X → (List ℕ → Result (X × List ℕ) Unreadable) → Type 0
Takes {X} Is read = (cs : List ℕ) (p : X × List ℕ) → read cs ≡ Ok p → Is cs p.0 p.1

-- of what is given the relation holds
pub given : {X : Type 0} (P : X × List ℕ → Type 0) (x : X) (rest : List ℕ) (p : X × List ℕ) → ◌≡◌ {A = Result (X × List ℕ) Unreadable} (Ok (x, rest)) (Ok p) → P (x, rest) → P p
given P x rest p e h = subst P (ok_is {F = Unreadable} (x, rest) p e) h

pub read_same : {X : Type 0} (x y : X) (a b : List ℕ) → x ≡ y → a ≡ b → ◌≡◌ {A = Result (X × List ℕ) Unreadable} (Ok (x, a)) (Ok (y, b))
read_same x y a b e f = λ j. Ok (e j, f j)

-- the parts of lists that are the same
pub head_same : {X : Type 0} (x y : X) (xs ys : List X) → x ∷ xs ≡ y ∷ ys → x ≡ y
head_same x y xs ys e = cc

pub tail_same : {X : Type 0} (x y : X) (xs ys : List X) → x ∷ xs ≡ y ∷ ys → xs ≡ ys
tail_same x y xs ys e = cc

pub never_empty : {X : Type 0} (x : X) (xs : List X) → x ∷ xs ≡ [] → ⊥
never_empty x xs e = cc

-- a test that is not passed
pub denied : (b : Bool) → (b ≡ true → ⊥) → b ≡ false
denied true never = absurd (never refl)
denied false never = refl

pub both_ways : (b : Bool) → b ≡ true → b ≡ false → ⊥
both_ways b e f = true≢false (sym e ∙ f)

-- a character that is wanted
pub token-takes : (c : ℕ) (cs rest : List ℕ) → token_at c cs ≡ Ok rest → cs ≡ c ∷ rest
token-takes c [] rest e = absurd cc
token-takes c (d ∷ cs) rest e =
    let t = test_ok (eqb d c) (Ok cs) NotThere rest e in
    ap (λ (x : ℕ). x ∷ cs) (eqb-true d c t.0) ∙ ap (λ (x : List ℕ). c ∷ x) (ok_is {F = Unreadable} cs rest t.1)

-- a character that may stand there
pub taken-again : (c : ℕ) (b : Bool) (cs rest : List ℕ) → IsOptional c cs b rest → taken c cs ≡ (b, rest)
taken-again c true cs rest e = ap (taken c) e ∙ ap (λ b. cond {A = Bool × List ℕ} b (true, rest) (false, c ∷ rest)) (eq-eqb c c refl)
taken-again c false [] rest (e, bars) = ap (λ (x : List ℕ). (false, x)) e
taken-again c false (d ∷ cs) rest (e, bars) = ap (λ b. cond {A = Bool × List ℕ} b (true, cs) (false, d ∷ cs)) bars ∙ ap (λ (x : List ℕ). (false, x)) e

pub taken-takes : (c : ℕ) (cs : List ℕ) → IsOptional c cs (taken c cs).0 (taken c cs).1
taken-takes c [] = (refl, tt)
taken-takes c (d ∷ cs) = by_test (eqb d c) refl
  where
    by_test : (b : Bool) → eqb d c ≡ b → IsOptional c (d ∷ cs) (cond {A = Bool × List ℕ} b (true, cs) (false, d ∷ cs)).0 (cond {A = Bool × List ℕ} b (true, cs) (false, d ∷ cs)).1
    by_test true e = ap (λ (x : ℕ). x ∷ cs) (eqb-true d c e)
    by_test false e = (refl, e)

-- a run
pub run-prefix : (test : ℕ → Bool) (cs t rest : List ℕ) → IsRun test cs t rest → prefix_of test cs ≡ t
run-prefix test cs t rest (e, all, bars, filled) = ap (prefix_of test) e ∙ (cuts test t rest all bars).prefix

pub run-after : (test : ℕ → Bool) (cs t rest : List ℕ) → IsRun test cs t rest → after test cs ≡ rest
run-after test cs t rest (e, all, bars, filled) = ap (after test) e ∙ (cuts test t rest all bars).after

pub run-takes : (test : ℕ → Bool) (cs : List ℕ) → is_filled (prefix_of test cs) ≡ true → IsRun test cs (prefix_of test cs) (after test cs)
run-takes test cs filled = (prefix-after test cs, all-prefix test cs, bars-after test cs, filled)

-- what passed a test, and what was looked up
pub passing-ok : {A : Type 0} (b : Bool) (a x : A) → passing b a ≡ Ok x → (b ≡ true) × (a ≡ x)
passing-ok true a x e = (refl, ok_is {F = Unreadable} a x e)
passing-ok false a x e = absurd cc

pub ok_or-ok : {A : Type 0} (o : Option A) (x : A) → ok_or o NotThere ≡ Ok x → o ≡ Some x
ok_or-ok (Some a) x e = ap (λ y. Some y) (ok_is {F = Unreadable} a x e)
ok_or-ok None x e = absurd cc

some_is : {X : Type 0} (x y : X) → Some x ≡ Some y → x ≡ y
some_is x y e = cc

-- what is found passes the test
pub find-passes : {X : Type 0} (test : X → Bool) (xs : List X) (x : X) → find test xs ≡ Some x → test x ≡ true
find-passes test [] x e = absurd cc
find-passes {X} test (y ∷ xs) x e = by_test (find-passes test xs x) (test y) refl e
  where
    by_test : (find test xs ≡ Some x → test x ≡ true) → (b : Bool) → test y ≡ b → cond b (Some y) (find test xs) ≡ Some x → test x ≡ true
    by_test more true is f = ap test (sym (some_is y x f)) ∙ is
    by_test more false is f = more f

-- it passes each test that all pass
pub find-holds : {X : Type 0} (holds test : X → Bool) (xs : List X) (x : X) → list_all holds xs ≡ true → find test xs ≡ Some x → holds x ≡ true
find-holds holds test [] x all e = absurd cc
find-holds {X} holds test (y ∷ xs) x all e = by_test both.0 (find-holds holds test xs x both.1) (test y) e
  where
    both : (holds y ≡ true) × (list_all holds xs ≡ true)
    both = and_parts (holds y) (list_all holds xs) all

    by_test : holds y ≡ true → (find test xs ≡ Some x → holds x ≡ true) → (b : Bool) → cond b (Some y) (find test xs) ≡ Some x → holds x ≡ true
    by_test first more true f = ap holds (sym (some_is y x f)) ∙ first
    by_test first more false f = more f
