-- Runs of a name, one after the other.
use Rattle.std.proofs.Common.{◌≡◌, ℕ, ◌+◌, ◌≤◌, ◌<◌, Bool, true, false, cond, eqb, List, [], ◌∷◌, ◌++◌, length, Option, Some, None, Result, Ok, Err, refl, sym, ap, ◌∙◌, subst, arith, length-append}
use Rattle.std.specs.Fmt.{WritesInCalls}
use Rattle.std.specs.List.{flat_map}
use Rattle.laws.specs.Characters.{hyphen}
use Rattle.laws.specs.Results.{◌>>=◌}
use Rattle.laws.specs.Steps.{each, Shortens}
use Rattle.laws.specs.Runs.{prefix_of, after}
use Rattle.laws.specs.Text.{text}
use Rattle.laws.proofs.Results.{ok_is}
use Rattle.laws.proofs.Runs.{length-after, prefix-after}
use Rattle.laws.proofs.Steps.{each-none, each-some}
use Rattle.texts.specs.Character.{passes}
use Rattle.texts.specs.Reading.{taken}
use Rattle.literature_values.proofs.WritingSteps.{WrittenSoFar, begun, one_more, all_written}
use Rattle.literature_values.specs.Initials.{Run, Style, initial, further, joined_runs, run_after, run_from, next_run_at, initials_of}
use Rattle.texts.specs.declared.character.Class.TheVariants.{Blank, Apart, Name}

pub taken-leaves : (c : ℕ) (cs : List ℕ) → length (taken c cs).1 ≤ length cs
taken-leaves c [] = omega arith
taken-leaves c (d ∷ cs) = by_test (eqb d c)
  where
    by_test : (b : Bool) → length (cond {A = Bool × List ℕ} b (true, cs) (false, d ∷ cs)).1 ≤ length (d ∷ cs)
    by_test true = omega arith
    by_test false = omega arith

-- a run takes a character at least
pub runs_shorten : Shortens next_run_at
unfolding next_run_at
runs_shorten cs rest r is =
    by_run (prefix_of (passes Name) left) (ap length (prefix-after (passes Name) left) ∙ length-append (prefix_of (passes Name) left) (after (passes Name) left))
    (ok_is {F = ⊥} (run_from (taken hyphen (after (passes Blank) cs))) (Some r, rest) is)
  where
    left : List ℕ
    left = after (passes Apart) (taken hyphen (after (passes Blank) cs)).1

    by_run : (run : List ℕ) → length left ≡ length run + length (after (passes Name) left) → run_after (taken hyphen (after (passes Blank) cs)).0 run (after (passes Name) left) ≡ (Some r, rest)
        → length rest < length cs
    by_run [] parts e =
        let none = ap (λ (p : Option Run × List ℕ). p.0) e in
        absurd cc
    by_run (c ∷ run) parts e =
        omega (arith, ap (λ (p : Option Run × List ℕ). length p.1) e, taken-leaves hyphen (after (passes Blank) cs), length-after (passes Blank) cs, length-after (passes Apart) (taken hyphen (after (passes Blank) cs)).1)

-- all initials of the runs that are left, each after another one
abbrev others : Style → Result (List Run × List ℕ) ⊥ → List ℕ
others s (Ok p) = flat_map (further s) p.0
others s (Err e) = absurd e

others_more : (s : Style) (r : Run) (cs rest : List ℕ) → next_run_at cs ≡ Ok (Some r, rest) → others s (each next_run_at cs) ≡ further s r ++ others s (each next_run_at rest)
others_more s r cs rest is = ap (others s) (each-some next_run_at runs_shorten cs rest r is) ∙ by_rest (each next_run_at rest)
  where
    by_rest : (q : Result (List Run × List ℕ) ⊥) → others s (q >>= λ p. Ok (r ∷ p.0, p.1)) ≡ further s r ++ others s q
    by_rest (Ok p) = refl
    by_rest (Err e) = absurd e

others_none : (s : Style) (cs rest : List ℕ) → next_run_at cs ≡ Ok (None, rest) → others s (each next_run_at cs) ≡ []
others_none s cs rest is = ap (others s) (each-none next_run_at cs rest is)

initials_first : (s : Style) (r : Run) (cs rest : List ℕ) → next_run_at cs ≡ Ok (Some r, rest) → initials_of s cs ≡ initial s r.name ++ others s (each next_run_at rest)
unfolding initials_of
initials_first s r cs rest is = ap (joined_runs s) (each-some next_run_at runs_shorten cs rest r is) ∙ by_rest (each next_run_at rest)
  where
    by_rest : (q : Result (List Run × List ℕ) ⊥) → joined_runs s (q >>= λ p. Ok (r ∷ p.0, p.1)) ≡ initial s r.name ++ others s q
    by_rest (Ok p) = refl
    by_rest (Err e) = absurd e

-- a name without runs has no initials
pub initials_none : (s : Style) (cs rest : List ℕ) → next_run_at cs ≡ Ok (None, rest) → initials_of s cs ≡ []
unfolding initials_of
initials_none s cs rest is = ap (joined_runs s) (each-none next_run_at cs rest is)

-- what was written so far, and the initials of what is left, are the initials of all
abbrev pub WritesSoFar : {W : Type 0} → (W → List ℕ → W → Type 0) → W → Style → List ℕ → List ℕ → W → Type 0
WritesSoFar took from s whole rest to = WrittenSoFar took from (initials_of s whole) (others s (each next_run_at rest)) to

module _ {W : Type 0} (took : W → List ℕ → W → Type 0) (from : W) (s : Style) (whole : List ℕ) where
  -- after the first initial the initials so far are written
  pub begins : (r : Run) (rest : List ℕ) (to : W) → next_run_at whole ≡ Ok (Some r, rest) → WritesInCalls took from (text (initial s r.name)) to → WritesSoFar took from s whole rest to
  begins r rest to is wrote = begun took from (initials_of s whole) (initial s r.name) (others s (each next_run_at rest)) to (sym (initials_first s r whole rest is)) wrote

  -- so they are after one more
  pub goes_on : (r : Run) (rest more : List ℕ) (to last : W) → WritesSoFar took from s whole rest to → next_run_at rest ≡ Ok (Some r, more) → WritesInCalls took to (text (further s r)) last
      → WritesSoFar took from s whole more last
  goes_on r rest more to last w is wrote =
      one_more took from (initials_of s whole) (further s r) (others s (each next_run_at more)) to last
      (subst (λ (t : List ℕ). WrittenSoFar took from (initials_of s whole) t to) (others_more s r rest more is) w) wrote

  -- where no further run follows, all initials are written
  pub ends : (rest more : List ℕ) (to : W) → WritesSoFar took from s whole rest to → next_run_at rest ≡ Ok (None, more) → WritesInCalls took from (text (initials_of s whole)) to
  ends rest more to w is =
      all_written took from (initials_of s whole) to (subst (λ (t : List ℕ). WrittenSoFar took from (initials_of s whole) t to) (others_none s rest more is) w)
