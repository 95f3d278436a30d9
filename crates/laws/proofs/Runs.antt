-- Longest runs.
use Rattle.std.proofs.Common.{◌≡◌, ℕ, Bool, true, false, cond, List, [], ◌∷◌, ◌++◌, length, ◌≤◌, refl, ap, arith}
use Rattle.laws.specs.Runs.{prefix_of, after, AllPassTest, Bars}

-- a text is a run and what follows it
pub record Cuts (test : ℕ → Bool) (whole run rest : List ℕ) : Type 0 where
  pub prefix : prefix_of test whole ≡ run
  pub after : after test whole ≡ rest

cuts_at : (test : ℕ → Bool) (rest : List ℕ) → Bars test rest → Cuts test rest [] rest
cuts_at test [] bars = record { prefix = refl; after = refl }
cuts_at test (c ∷ rest) bars = record { prefix = rw bars refl; after = rw bars refl }

-- a run that ends where a character bars it is the longest
pub cuts : (test : ℕ → Bool) (run rest : List ℕ) → AllPassTest test run → Bars test rest → Cuts test (run ++ rest) run rest
cuts test [] rest all bars = cuts_at test rest bars
cuts test (c ∷ run) rest all bars =
    let p = all.0 in
    let more = cuts test run rest all.1 bars in
    record { prefix = rw (p, more.prefix) refl; after = rw (p, more.after) refl }

-- what follows a run does not change where characters of the run are put before
pub after-prefix : (test : ℕ → Bool) (run rest : List ℕ) → AllPassTest test run → after test (run ++ rest) ≡ after test rest
after-prefix test [] rest all = refl
after-prefix test (c ∷ run) rest all =
    let p = all.0 in
    rw (p, after-prefix test run rest all.1) refl

-- the run and what follows it are the text
pub prefix-after : (test : ℕ → Bool) (cs : List ℕ) → cs ≡ prefix_of test cs ++ after test cs
prefix-after test [] = refl
prefix-after test (c ∷ cs) = by_test (prefix-after test cs) (test c)
  where
    by_test : cs ≡ prefix_of test cs ++ after test cs → (b : Bool) → c ∷ cs ≡ cond b (c ∷ prefix_of test cs) [] ++ cond b (after test cs) (c ∷ cs)
    by_test more true = ap (λ (x : List ℕ). c ∷ x) more
    by_test more false = refl

pub all-prefix : (test : ℕ → Bool) (cs : List ℕ) → AllPassTest test (prefix_of test cs)
all-prefix test [] = tt
all-prefix test (c ∷ cs) = by_test (all-prefix test cs) (test c) refl
  where
    by_test : AllPassTest test (prefix_of test cs) → (b : Bool) → test c ≡ b → AllPassTest test (cond b (c ∷ prefix_of test cs) [])
    by_test more true e = (e, more)
    by_test more false e = tt

pub bars-after : (test : ℕ → Bool) (cs : List ℕ) → Bars test (after test cs)
bars-after test [] = tt
bars-after test (c ∷ cs) = by_test (bars-after test cs) (test c) refl
  where
    by_test : Bars test (after test cs) → (b : Bool) → test c ≡ b → Bars test (cond b (after test cs) (c ∷ cs))
    by_test more true e = more
    by_test more false e = e

pub length-after : (test : ℕ → Bool) (cs : List ℕ) → length (after test cs) ≤ length cs
length-after test [] = omega arith
length-after test (c ∷ cs) = by_test (length-after test cs) (test c)
  where
    by_test : length (after test cs) ≤ length cs → (b : Bool) → length (cond b (after test cs) (c ∷ cs)) ≤ length (c ∷ cs)
    by_test more true = omega arith
    by_test more false = omega arith
