-- What reading leaves is an end of the text.
use Rattle.std.proofs.Common.{◌≡◌, ℕ, zero, suc, ◌≤◌, Bool, true, false, cond, eqb, List, [], ◌∷◌, ◌++◌, length, Option, Some, None, Ok, Err, refl, sym, ap, ◌∙◌, append_assoc, arith}
use Rattle.std.specs.Prelude.{IfOk}
use Rattle.std.proofs.lemmas.List.{length-append}
use Rattle.laws.specs.Runs.{prefix_of, after}
use Rattle.laws.specs.Steps.{Step, go_on, each_below, each}
use Rattle.laws.specs.Text.{text}
use Rattle.laws.proofs.Results.{bind_if_ok}
use Rattle.laws.proofs.Runs.{prefix-after}
use Rattle.laws.proofs.Text.{text-append}
use Rattle.texts.specs.Reading.{token_at, taken}
use Rattle.texts.specs.declared.reader.Unreadable.TheVariants.{NotThere}

-- the rest is an end of the text
pub record Leaves (whole rest : List ℕ) : Type 0 where
  pub prefix : List ℕ
  pub parts : whole ≡ prefix ++ rest

-- the same of what was read and the rest
abbrev pub LeavesRest : {X : Type 0} → List ℕ → X × List ℕ → Type 0
LeavesRest whole read = Leaves whole read.1

pub leaves_all : (whole : List ℕ) → Leaves whole whole
leaves_all whole = record { prefix = []; parts = refl }

pub leaves_more : (whole rest more : List ℕ) → Leaves whole rest → Leaves rest more → Leaves whole more
leaves_more whole rest more a b =
    record { prefix = a.prefix ++ b.prefix; parts = a.parts ∙ (ap (λ x. a.prefix ++ x) b.parts ∙ sym (append_assoc a.prefix b.prefix more)) }

-- past a character
pub leaves_past : (whole : List ℕ) (c : ℕ) (rest : List ℕ) → Leaves whole (c ∷ rest) → Leaves whole rest
leaves_past whole c rest a = leaves_more whole (c ∷ rest) rest a (record { prefix = c ∷ []; parts = refl })

-- past a run
pub leaves_run : (whole : List ℕ) (test : ℕ → Bool) (rest : List ℕ) → Leaves whole rest → Leaves whole (after test rest)
leaves_run whole test rest a = leaves_more whole rest (after test rest) a (record { prefix = prefix_of test rest; parts = prefix-after test rest })

-- past a character that is wanted
pub leaves_token : (whole : List ℕ) (c : ℕ) (rest : List ℕ) → Leaves whole rest → IfOk (token_at c rest) (Leaves whole)
leaves_token whole c [] a = tt
leaves_token whole c (d ∷ rest) a = by_test (eqb d c)
  where
    by_test : (b : Bool) → IfOk (cond b (Ok rest) (Err NotThere)) (Leaves whole)
    by_test true = leaves_past whole d rest a
    by_test false = tt

-- past a character that may stand there
pub leaves_taken : (whole : List ℕ) (c : ℕ) (rest : List ℕ) → Leaves whole rest → LeavesRest whole (taken c rest)
leaves_taken whole c [] a = a
leaves_taken whole c (d ∷ rest) a = by_test (eqb d c)
  where
    by_test : (b : Bool) → LeavesRest {X = Bool} whole (cond b (true, rest) (false, d ∷ rest))
    by_test true = leaves_past whole d rest a
    by_test false = a

-- past all that a step gives
below_leaves : {F X : Type 0} (step : Step F X) → ((cs : List ℕ) → IfOk (step cs) (LeavesRest cs)) → (n : ℕ) (whole rest : List ℕ) → Leaves whole rest
    → IfOk (each_below n step rest) (LeavesRest whole)
unfolding each_below
below_leaves step leaves zero whole rest a = a
below_leaves {F} {X} step leaves (suc n) whole rest a =
    bind_if_ok (λ (p : Option X × List ℕ). LeavesRest rest p) (λ (q : List X × List ℕ). LeavesRest whole q) (step rest) (λ p. go_on (λ more. each_below n step more) p.0 p.1) (leaves rest)
    (λ p less. by_gift (λ more b. below_leaves step leaves n whole more b) p.0 p.1 (leaves_more whole rest p.1 a less))
  where
    by_gift : ((more : List ℕ) → Leaves whole more → IfOk (each_below n step more) (LeavesRest whole)) → (gift : Option X) (more : List ℕ) → Leaves whole more
        → IfOk (go_on (λ more. each_below n step more) gift more) (λ q. LeavesRest whole q)
    by_gift on None more b = b
    by_gift on (Some x) more b =
        bind_if_ok (λ (q : List X × List ℕ). LeavesRest whole q) (λ (q : List X × List ℕ). LeavesRest whole q) (each_below n step more) (λ q. Ok (x ∷ q.0, q.1)) (on more b) (λ q same. same)

pub leaves_each : {F X : Type 0} (step : Step F X) → ((cs : List ℕ) → IfOk (step cs) (LeavesRest cs)) → (whole rest : List ℕ) → Leaves whole rest → IfOk (each step rest) (LeavesRest whole)
unfolding each
leaves_each step leaves whole rest a = below_leaves step leaves (suc (length rest)) whole rest a

-- an end has no more characters than the text, and no more bytes
pub end_length : (whole rest : List ℕ) → Leaves whole rest → length rest ≤ length whole
end_length whole rest a = omega (arith, ap length a.parts, length-append a.prefix rest)

pub end_bytes : (whole rest : List ℕ) → Leaves whole rest → length (text rest) ≤ length (text whole)
end_bytes whole rest a = omega (arith, ap length (ap text a.parts ∙ text-append a.prefix rest), length-append (text a.prefix) (text rest))
