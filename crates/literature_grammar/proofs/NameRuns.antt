-- Runs of the relation are those that are read, and no name has two lists of runs.
use Rattle.std.proofs.Common.{◌≡◌, ℕ, zero, suc, ◌≤◌, ◌<◌, Bool, true, false, true≢false, not, cond, ◌||◌, eqb, List, [], ◌∷◌, ◌++◌, length, Option, Some, None, Result, Ok, refl, sym, ap, ◌∙◌, subst, inl, inr, append-nil, arith}
use Rattle.std.proofs.lemmas.Bool.{eqb-true}
use Rattle.std.specs.Char.{is_whitespace}
use Rattle.laws.specs.Runs.{prefix_of, after, AllPassTest, Bars}
use Rattle.laws.specs.Steps.{go_on, each_below, each}
use Rattle.laws.proofs.Results.{bind_ok, ok_is}
use Rattle.laws.proofs.Runs.{cuts, prefix-after, all-prefix, bars-after}
use Rattle.texts.specs.Character.{passes}
use Rattle.texts.specs.Reading.{taken}
use Rattle.texts.specs.declared.character.Class.TheVariants.{Blank, Apart, Name}
use Rattle.literature_values.specs.Initials.{Run, run_after, run_from, next_run_at}
use Rattle.literature_values.proofs.InitialsSteps.{runs_shorten}
use Rattle.literature_grammar.specs.Initials.{is_apart, is_of_run, HasHyphen, AreRuns}

-- of what is given the relation holds
given : {X : Type 0} (P : X → Type 0) (x p : X) → ◌≡◌ {A = Result X ⊥} (Ok x) (Ok p) → P x → P p
given P x p e h = subst P (ok_is {F = ⊥} x p e) h

-- tests that pass the same characters
abbrev AreAlike : (ℕ → Bool) → (ℕ → Bool) → Type 0
AreAlike f g = (c : ℕ) → f c ≡ g c

aparts_alike : AreAlike (passes Apart) is_apart
unfolding passes
aparts_alike c = refl

names_alike : AreAlike (passes Name) is_of_run
unfolding passes
names_alike c = refl

all_alike : (f g : ℕ → Bool) → AreAlike f g → (t : List ℕ) → AllPassTest f t → AllPassTest g t
all_alike f g alike [] all = tt
all_alike f g alike (c ∷ t) all = (sym (alike c) ∙ all.0, all_alike f g alike t all.1)

bars_alike : (f g : ℕ → Bool) → AreAlike f g → (t : List ℕ) → Bars f t → Bars g t
bars_alike f g alike [] bars = tt
bars_alike f g alike (c ∷ t) bars = sym (alike c) ∙ bars

first_holds : (a b : Bool) → a ≡ true → a || b ≡ true
first_holds true b e = refl
first_holds false b e = absurd cc

second_holds : (a b : Bool) → b ≡ true → a || b ≡ true
second_holds true b e = refl
second_holds false b e = e

neither_holds : (a b : Bool) → a ≡ false → b ≡ false → a || b ≡ false
neither_holds a b e f = rw (e, f) refl

-- a character that goes on a run is not apart
of_run_only : (a : Bool) → not a ≡ true → a ≡ false
of_run_only true e = absurd cc
of_run_only false e = refl

white_apart : (c : ℕ) → passes Blank c ≡ true → is_apart c ≡ true
unfolding passes
white_apart c e = first_holds (is_whitespace c) (eqb c 45) e

white_no_hyphen : (c : ℕ) → passes Blank c ≡ true → c ≡ 45 → ⊥
unfolding passes
white_no_hyphen c e f = true≢false (sym e ∙ ap is_whitespace f)

not_apart : (c : ℕ) → passes Blank c ≡ false → eqb c 45 ≡ false → passes Apart c ≡ false
unfolding passes
not_apart c e f = neither_holds (is_whitespace c) (eqb c 45) e f

-- what goes before a run, and whether a hyphen stands in it
record Gap (cs : List ℕ) (is_hyphenated : Bool) (rest : List ℕ) : Type 0 where
  pub gap : List ℕ
  pub parts : cs ≡ gap ++ rest
  pub all : AllPassTest is_apart gap
  pub has : HasHyphen gap is_hyphenated

gap_of : (cs : List ℕ) → Gap cs (taken 45 (after (passes Blank) cs)).0 (after (passes Apart) (taken 45 (after (passes Blank) cs)).1)
gap_of [] = record { gap = []; parts = refl; all = tt; has = refl }
gap_of (c ∷ cs) = by_blank (gap_of cs) (passes Blank c) refl
  where
    At : Bool × List ℕ → Type 0
    At t = Gap (c ∷ cs) t.0 (after (passes Apart) t.1)

    by_hyphen : passes Blank c ≡ false → (b : Bool) → eqb c 45 ≡ b → At (cond {A = Bool × List ℕ} b (true, cs) (false, c ∷ cs))
    by_hyphen e true f = record {
      gap = c ∷ prefix_of (passes Apart) cs;
      parts = ap (λ (x : List ℕ). c ∷ x) (prefix-after (passes Apart) cs);
      all = (second_holds (is_whitespace c) (eqb c 45) f, all_alike (passes Apart) is_apart aparts_alike (prefix_of (passes Apart) cs) (all-prefix (passes Apart) cs));
      has = inl (eqb-true c 45 f, refl);
    }
    by_hyphen e false f =
        subst (λ (b : Bool). Gap (c ∷ cs) false (cond b (after (passes Apart) cs) (c ∷ cs))) (sym (not_apart c e f)) (record { gap = []; parts = refl; all = tt; has = refl })

    by_blank : Gap cs (taken 45 (after (passes Blank) cs)).0 (after (passes Apart) (taken 45 (after (passes Blank) cs)).1) → (b : Bool) → passes Blank c ≡ b
        → At (taken 45 (cond b (after (passes Blank) cs) (c ∷ cs)))
    by_blank more true e = record { gap = c ∷ more.gap; parts = ap (λ (x : List ℕ). c ∷ x) more.parts; all = (white_apart c e, more.all); has = inr (white_no_hyphen c e, more.has) }
    by_blank more false e = by_hyphen e (eqb c 45) refl

-- a run and what follows it, or nothing
abbrev IsStep : List ℕ → Option Run × List ℕ → Type 0
IsStep cs (None, rest) = AllPassTest is_apart cs
IsStep cs (Some r, rest) = (g : List ℕ) × (cs ≡ g ++ (r.name ++ rest)) × AllPassTest is_apart g × HasHyphen g r.is_hyphenated
    × (1 ≤ length r.name) × AllPassTest is_of_run r.name × Bars is_of_run rest

-- where neither a gap nor a run goes on, a text is at its end
at_end : (cs : List ℕ) → Bars is_apart cs → Bars is_of_run cs → cs ≡ []
at_end [] apart run = refl
at_end (c ∷ cs) apart run = absurd (true≢false (ap not (sym apart) ∙ run))

step_is : (cs : List ℕ) → IsStep cs (run_from (taken 45 (after (passes Blank) cs)))
step_is cs =
    by_run (prefix_of (passes Name) left) (after (passes Name) left) (prefix-after (passes Name) left)
    (all_alike (passes Name) is_of_run names_alike (prefix_of (passes Name) left) (all-prefix (passes Name) left)) (bars_alike (passes Name) is_of_run names_alike (after (passes Name) left) (bars-after (passes Name) left))
  where
    t : Bool × List ℕ
    t = taken 45 (after (passes Blank) cs)

    left : List ℕ
    left = after (passes Apart) t.1

    before : Gap cs t.0 left
    before = gap_of cs

    by_run : (run rest : List ℕ) → left ≡ run ++ rest → AllPassTest is_of_run run → Bars is_of_run rest → IsStep cs (run_after t.0 run rest)
    by_run [] rest parts all bars =
        let none : left ≡ [] = at_end left (bars_alike (passes Apart) is_apart aparts_alike left (bars-after (passes Apart) t.1)) (subst (λ (x : List ℕ). Bars is_of_run x) (sym parts) bars) in
        let whole : cs ≡ before.gap = before.parts ∙ (ap (λ (x : List ℕ). before.gap ++ x) none ∙ append-nil before.gap) in
        subst (λ (x : List ℕ). AllPassTest is_apart x) (sym whole) before.all
    by_run (c ∷ run) rest parts all bars =
        (before.gap, before.parts ∙ ap (λ (x : List ℕ). before.gap ++ x) parts, before.all, before.has, omega arith, all, bars)

next_is : (cs : List ℕ) (o : Option Run × List ℕ) → next_run_at cs ≡ Ok o → IsStep cs o
unfolding next_run_at
next_is cs o e = given (IsStep cs) (run_from (taken 45 (after (passes Blank) cs))) o e (step_is cs)

runs_below : (k : ℕ) (cs : List ℕ) (p : List Run × List ℕ) → length cs < k → each_below k next_run_at cs ≡ Ok p → AreRuns cs p.0
unfolding each_below
runs_below zero cs p few e = absurd (omega arith)
runs_below (suc k) cs p few e =
    let next = bind_ok (next_run_at cs) _ p e in
    by_next (λ rest q less is. runs_below k rest q less is) next.0 next.1 (next_is cs next.0 next.1) next.2
  where
    Are : List Run × List ℕ → Type 0
    Are q = AreRuns cs q.0

    by_next : ((rest : List ℕ) (q : List Run × List ℕ) → length rest < k → each_below k next_run_at rest ≡ Ok q → AreRuns rest q.0) → (o : Option Run × List ℕ) → next_run_at cs ≡ Ok o → IsStep cs o
        → go_on (λ rest. each_below k next_run_at rest) o.0 o.1 ≡ Ok p → Are p
    by_next more (None, rest) read is h = given Are ([], rest) p h is
    by_next more (Some r, rest) read (g, parts, all, has, some, of, bars) h =
        let others = bind_ok (each_below k next_run_at rest) _ p h in
        let less : length rest < length cs = runs_shorten cs rest r read in
        given Are (r ∷ others.0.0, others.0.1) p others.2 (g, rest, parts, all, has, some, of, bars, more rest others.0 (omega arith) others.1)

pub runs_are : (cs : List ℕ) (p : List Run × List ℕ) → each next_run_at cs ≡ Ok p → AreRuns cs p.0
unfolding each
runs_are cs p e = runs_below (suc (length cs)) cs p (omega arith) e

-- a gap, a run and what follows are cut in one way
record Front (cs g r rest : List ℕ) : Type 0 where
  pub gap : prefix_of is_apart cs ≡ g
  pub run : prefix_of is_of_run (after is_apart cs) ≡ r
  pub left : after is_of_run (after is_apart cs) ≡ rest

run_bars : (r rest : List ℕ) → 1 ≤ length r → AllPassTest is_of_run r → Bars is_apart (r ++ rest)
run_bars [] rest some all = absurd (omega arith)
run_bars (c ∷ r) rest some all = of_run_only (is_apart c) all.0

front : (cs g r rest : List ℕ) → cs ≡ g ++ (r ++ rest) → AllPassTest is_apart g → 1 ≤ length r → AllPassTest is_of_run r → Bars is_of_run rest → Front cs g r rest
front cs g r rest e apart some all bars =
    let first = cuts is_apart g (r ++ rest) apart (run_bars r rest some all) in
    let second = cuts is_of_run r rest all bars in
    subst (λ (x : List ℕ). Front x g r rest) (sym e)
    (record { gap = first.prefix; run = ap (prefix_of is_of_run) first.after ∙ second.prefix; left = ap (after is_of_run) first.after ∙ second.after })

has_same : (g : List ℕ) (a b : Bool) → HasHyphen g a → HasHyphen g b → a ≡ b
has_same [] a b e f = e ∙ sym f
has_same (c ∷ g) a b (inl e) (inl f) = e.1 ∙ sym f.1
has_same (c ∷ g) a b (inl e) (inr f) = absurd (f.0 e.0)
has_same (c ∷ g) a b (inr e) (inl f) = absurd (e.0 f.0)
has_same (c ∷ g) a b (inr e) (inr f) = has_same g a b e.1 f.1

all_right : (test : ℕ → Bool) (g x : List ℕ) → AllPassTest test (g ++ x) → AllPassTest test x
all_right test [] x all = all
all_right test (c ∷ g) x all = all_right test g x all.1

-- a text that is all apart has no run
no_run : (cs g r rest : List ℕ) → cs ≡ g ++ (r ++ rest) → 1 ≤ length r → AllPassTest is_of_run r → AllPassTest is_apart cs → ⊥
no_run cs g [] rest e some all apart = absurd (omega arith)
no_run cs g (c ∷ r) rest e some all apart =
    let here = all_right is_apart g ((c ∷ r) ++ rest) (subst (λ (x : List ℕ). AllPassTest is_apart x) e apart) in
    true≢false (sym here.0 ∙ of_run_only (is_apart c) all.0)

pub runs_unique : (rs qs : List Run) (cs : List ℕ) → AreRuns cs rs → AreRuns cs qs → rs ≡ qs
runs_unique [] [] cs are other = refl
runs_unique [] (q ∷ qs) cs are (g, rest, e, apart, has, some, all, bars, more) = absurd (no_run cs g q.name rest e some all are)
runs_unique (r ∷ rs) [] cs (g, rest, e, apart, has, some, all, bars, more) other = absurd (no_run cs g r.name rest e some all other)
runs_unique (r ∷ rs) (q ∷ qs) cs (g, rest, e, apart, has, some, all, bars, more) (g2, rest2, e2, apart2, has2, some2, all2, bars2, more2) =
    let one = front cs g r.name rest e apart some all bars in
    let two = front cs g2 q.name rest2 e2 apart2 some2 all2 bars2 in
    let gaps : g2 ≡ g = sym two.gap ∙ one.gap in
    let names : r.name ≡ q.name = sym one.run ∙ two.run in
    let lefts : rest2 ≡ rest = sym two.left ∙ one.left in
    let hyphens : r.is_hyphenated ≡ q.is_hyphenated = has_same g r.is_hyphenated q.is_hyphenated has (subst (λ (x : List ℕ). HasHyphen x q.is_hyphenated) gaps has2) in
    let others : rs ≡ qs = runs_unique rs qs rest more (subst (λ (x : List ℕ). AreRuns x qs) lefts more2) in
    let same : r ≡ q = λ i. record { is_hyphenated = hyphens i; name = names i } in
    (λ i. same i ∷ others i)
