-- Runs of digits, and what one character is.
use Rattle.std.proofs.Common.{◌≡◌, ℕ, ◌≤◌, Bool, true, false, cond, ◌&&◌, eqb, leb, List, [], ◌∷◌, ◌++◌, length, Result, Ok, Err, refl, sym, ap, ◌∙◌, subst}
use Rattle.std.proofs.lemmas.Bool.{eqb-true, leb-true, le-leb, and_parts}
use Rattle.std.specs.Char.{is_ascii_digit}
use Rattle.std.specs.Str.Parse.{digits_value}
use Rattle.laws.specs.Runs.{prefix_of, after, AllPassTest, Bars}
use Rattle.laws.proofs.Results.{test_ok, ok_is}
use Rattle.laws.proofs.Runs.{Cuts, cuts, prefix-after, all-prefix}
use Rattle.texts.specs.Character.{passes}
use Rattle.texts.specs.Reading.{digits_at, taken}
use Rattle.texts.specs.declared.character.Class.TheVariants.{Digit}
use Rattle.texts.specs.declared.reader.Unreadable.{Unreadable}
use Rattle.texts.specs.declared.reader.Unreadable.TheVariants.{NotThere}
use Rattle.biblatex_readings_grammar.specs.Sides.{AreDigits, IsNumber}

-- of what is given the relation holds
pub given : {X : Type 0} (P : X → Type 0) (x p : X) → ◌≡◌ {A = Result X Unreadable} (Ok x) (Ok p) → P x → P p
given P x p e h = subst P (ok_is {F = Unreadable} x p e) h

digits_pass : (t : List ℕ) → AllPassTest is_ascii_digit t → AllPassTest (passes Digit) t
unfolding passes
digits_pass [] all = tt
digits_pass (c ∷ t) all = (all.0, digits_pass t all.1)

pass_digits : (t : List ℕ) → AllPassTest (passes Digit) t → AllPassTest is_ascii_digit t
unfolding passes
pass_digits [] all = tt
pass_digits (c ∷ t) all = (all.0, pass_digits t all.1)

-- digits before what is no digit are the longest run
pub cut : (cs t rest : List ℕ) → AreDigits cs t rest → Bars (passes Digit) rest → Cuts (passes Digit) cs t rest
cut cs t rest (e, all) bars = subst (λ (x : List ℕ). Cuts (passes Digit) x t rest) (sym e) (cuts (passes Digit) t rest (digits_pass t all) bars)

-- the longest run is one of digits
pub run : (cs : List ℕ) → AreDigits cs (prefix_of (passes Digit) cs) (after (passes Digit) cs)
run cs = (prefix-after (passes Digit) cs, pass_digits (prefix_of (passes Digit) cs) (all-prefix (passes Digit) cs))

pub number-again : (least most : ℕ) (cs rest : List ℕ) (n : ℕ) → IsNumber least most cs n rest → Bars (passes Digit) rest → digits_at least most cs ≡ Ok (n, rest)
number-again least most cs rest n (t, are, low, high, e) bars =
    let c = cut cs t rest are bars in
    let some : leb least (length t) ≡ true = le-leb _ _ low in
    let few : leb (length t) most ≡ true = le-leb _ _ high in
    rw (c.prefix, c.after, some, few) (ap (λ (k : ℕ). Ok (k, rest)) (sym e))

pub number-takes : (least most : ℕ) (cs : List ℕ) (p : ℕ × List ℕ) → digits_at least most cs ≡ Ok p → IsNumber least most cs p.0 p.1
number-takes least most cs p e =
    let ds : List ℕ = prefix_of (passes Digit) cs in
    let t = test_ok (leb least (length ds) && leb (length ds) most) (Ok (digits_value 10 ds, after (passes Digit) cs)) NotThere p e in
    let both = and_parts (leb least (length ds)) (leb (length ds) most) t.0 in
    given (λ (q : ℕ × List ℕ). IsNumber least most cs q.0 q.1) (digits_value 10 ds, after (passes Digit) cs) p t.1 (ds, run cs, leb-true _ _ both.0, leb-true _ _ both.1, refl)

-- whether a character stands there, and what follows it
abbrev pub IsTaken : ℕ → List ℕ → Bool × List ℕ → Type 0
IsTaken c cs (true, rest) = cs ≡ c ∷ rest
IsTaken c cs (false, rest) = cs ≡ rest

pub taken-is : (c : ℕ) (cs : List ℕ) → IsTaken c cs (taken c cs)
taken-is c [] = refl
taken-is c (d ∷ cs) = by_test (eqb d c) refl
  where
    by_test : (b : Bool) → eqb d c ≡ b → IsTaken c (d ∷ cs) (cond b (true, cs) (false, d ∷ cs))
    by_test true h = ap (λ (x : ℕ). x ∷ cs) (eqb-true d c h)
    by_test false h = refl
