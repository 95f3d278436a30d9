-- Each step that gives a piece of a value or an attribute leaves less to read.
use Rattle.std.proofs.Common.{◌≡◌, ℕ, ◌≤◌, ◌<◌, Bool, true, false, cond, eqb, List, [], ◌∷◌, length, Option, Some, None, Result, Ok, Err, refl, arith}
use Rattle.std.specs.Prelude.{IfOk, IfSome}
use Rattle.std.proofs.lemmas.Result.{IfOk-weaker}
use Rattle.laws.specs.Results.{◌>>=◌}
use Rattle.laws.specs.Runs.{prefix_of, after}
use Rattle.laws.specs.Steps.{Step, Shortens, each}
use Rattle.laws.proofs.Results.{bind_if_ok, test_if_ok, if_ok_at}
use Rattle.laws.proofs.Runs.{length-after}
use Rattle.laws.proofs.Steps.{each-leaves}
use Rattle.xml_text.specs.Character.{passes}
use Rattle.xml_text.specs.Tokens.{Entity, Decimal, Hexadecimal, Literal}
use Rattle.xml_text.specs.Reading.{Refusal, character_at, begins, after_space, run_at, plain_name_at, local_at, name_at, ended_at, entity_at, decimal_at, hexadecimal_at, number_at, reference_at}
use Rattle.xml_text.specs.Tags.{mark_of, quoted_class, piece_at, quoted_at, value_at, attribute_at, attribute_after, next_attribute_at}
use Rattle.xml_text.specs.declared.character.Class.{Class}
use Rattle.xml_text.specs.declared.character.Class.TheVariants.{Space, NameStart, NameCharacter, Digit, HexDigit}
use Rattle.xml_text.specs.declared.character.Quote.{Quote}
use Rattle.xml_text.specs.declared.character.Quote.TheVariants.{Double, Single}
use Rattle.xml_text.specs.declared.fault.Fault.TheVariants.{Unexpected}

-- at most n characters are left, and fewer
abbrev pub AtMost : ℕ → List ℕ → Type 0
AtMost n cs = length cs ≤ n

abbrev pub Below : ℕ → List ℕ → Type 0
Below n cs = length cs < n

abbrev pub LeavesAtMost : {X : Type 0} → ℕ → X × List ℕ → Type 0
LeavesAtMost n p = length p.1 ≤ n

abbrev pub LeavesBelow : {X : Type 0} → ℕ → X × List ℕ → Type 0
LeavesBelow n p = length p.1 < n

-- a step leaves at most n characters, and fewer where it gives something
pub record Leaves {X : Type 0} (n : ℕ) (p : Option X × List ℕ) : Type 0 where
  pub most : length p.1 ≤ n
  pub fewer : IfSome p.0 (λ _. length p.1 < n)

pub either_if_ok : {A : Type 0} (Q : A → Type 0) (b : Bool) (x y : Result A Refusal) → IfOk x Q → IfOk y Q → IfOk (cond b x y) Q
either_if_ok Q true x y p q = p
either_if_ok Q false x y p q = q

-- what a step gives, after a character that it took
gives-leaves : {X : Type 0} (n : ℕ) (r : Result (X × List ℕ) Refusal) → IfOk r (LeavesBelow n) → IfOk (r >>= λ p. Ok (Some p.0, p.1)) (Leaves n)
gives-leaves n (Ok p) less = record { most = omega arith; fewer = less }
gives-leaves n (Err f) less = tt

-- steps that leave at most what there was
pub each-most : {X : Type 0} (step : Step Refusal X) → ((n : ℕ) (cs : List ℕ) → length cs ≤ n → IfOk (step cs) (Leaves n)) → (n : ℕ) (cs : List ℕ) → length cs ≤ n → IfOk (each step cs) (LeavesAtMost n)
each-most {X} step leaves n cs le =
    IfOk-weaker (each step cs) (LeavesAtMost (length cs)) (LeavesAtMost n) (λ p fewer. omega arith)
    (each-leaves step (λ ds. IfOk-weaker (step ds) (Leaves (length ds)) (LeavesAtMost (length ds)) (λ p l. l.most) (leaves (length ds) ds (omega arith))) cs)

shortens : {X : Type 0} (step : Step Refusal X) → ((n : ℕ) (cs : List ℕ) → length cs ≤ n → IfOk (step cs) (Leaves n)) → Shortens step
shortens step leaves cs rest x is = (if_ok_at (Leaves (length cs)) (step cs) (Some x, rest) is (leaves (length cs) cs (omega arith))).fewer

-- ---- characters, runs and names

pub character-below : (n wanted : ℕ) (cs : List ℕ) → length cs ≤ n → IfOk (character_at wanted cs) (Below n)
character-below n wanted [] le = tt
character-below n wanted (c ∷ cs) le = test_if_ok (Below n) (eqb c wanted) (Ok cs) (Unexpected, c ∷ cs) (omega arith)

pub after-most : (n : ℕ) (class : Class) (cs : List ℕ) → length cs ≤ n → length (after (passes class) cs) ≤ n
after-most n class cs le = omega (arith, length-after (passes class) cs)

pub run-most : (n : ℕ) (first class : Class) (cs : List ℕ) → length cs ≤ n → IfOk (run_at first class cs) (LeavesAtMost n)
run-most n first class [] le = tt
run-most n first class (c ∷ cs) le =
    test_if_ok (LeavesAtMost n) (passes first c) (Ok (prefix_of (passes class) (c ∷ cs), after (passes class) (c ∷ cs))) (Unexpected, c ∷ cs) (after-most n class (c ∷ cs) le)

local-most : (n : ℕ) (first cs : List ℕ) → length cs ≤ n → IfOk (local_at first cs) (LeavesAtMost n)
local-most n first [] le = le
local-most n first (c ∷ cs) le =
    either_if_ok (LeavesAtMost n) (eqb c 58) _ _ (bind_if_ok (LeavesAtMost n) (LeavesAtMost n) (plain_name_at cs) _ (run-most n NameStart NameCharacter cs (omega arith)) (λ local less. less)) le

pub name-most : (n : ℕ) (cs : List ℕ) → length cs ≤ n → IfOk (name_at cs) (LeavesAtMost n)
unfolding name_at
name-most n cs le =
    bind_if_ok (LeavesAtMost n) (LeavesAtMost n) (plain_name_at cs) _ (run-most n NameStart NameCharacter cs le) (λ first less. local-most n first.0 first.1 less)

-- ---- references

ended-below : {X : Type 0} (n : ℕ) (x : X) (cs : List ℕ) → length cs ≤ n → IfOk (ended_at x cs) (LeavesBelow n)
ended-below n x cs le = bind_if_ok (Below n) (LeavesBelow n) (character_at 59 cs) _ (character-below n 59 cs le) (λ rest less. less)

entity-below : (n : ℕ) (cs : List ℕ) → length cs ≤ n → IfOk (entity_at cs) (LeavesBelow n)
unfolding entity_at
entity-below n cs le =
    bind_if_ok (LeavesAtMost n) (LeavesBelow n) (plain_name_at cs) _ (run-most n NameStart NameCharacter cs le) (λ name less. ended-below n (Entity name.0) name.1 less)

decimal-below : (n : ℕ) (cs : List ℕ) → length cs ≤ n → IfOk (decimal_at cs) (LeavesBelow n)
unfolding decimal_at
decimal-below n cs le =
    bind_if_ok (LeavesAtMost n) (LeavesBelow n) (run_at Digit Digit cs) _ (run-most n Digit Digit cs le) (λ digits less. ended-below n (Decimal digits.0) digits.1 less)

hexadecimal-below : (n : ℕ) (cs : List ℕ) → length cs ≤ n → IfOk (hexadecimal_at cs) (LeavesBelow n)
unfolding hexadecimal_at
hexadecimal-below n cs le =
    bind_if_ok (LeavesAtMost n) (LeavesBelow n) (run_at HexDigit HexDigit cs) _ (run-most n HexDigit HexDigit cs le) (λ digits less. ended-below n (Hexadecimal digits.0) digits.1 less)

number-below : (n : ℕ) (cs : List ℕ) → length cs ≤ n → IfOk (number_at cs) (LeavesBelow n)
number-below n [] le = tt
number-below n (c ∷ cs) le = either_if_ok (LeavesBelow n) (eqb c 120) _ _ (hexadecimal-below n cs (omega arith)) (decimal-below n (c ∷ cs) le)

pub reference-below : (n : ℕ) (cs : List ℕ) → length cs ≤ n → IfOk (reference_at cs) (LeavesBelow n)
reference-below n [] le = tt
reference-below n (c ∷ cs) le = either_if_ok (LeavesBelow n) (eqb c 35) _ _ (number-below n cs (omega arith)) (entity-below n (c ∷ cs) le)

-- ---- values

literal-leaves : (quote : Quote) (n c : ℕ) (cs : List ℕ) → length (c ∷ cs) ≤ n
    → IfOk {E = Refusal} (cond (passes (quoted_class quote) c) (Ok (Some (Literal (prefix_of (passes (quoted_class quote)) (c ∷ cs))), after (passes (quoted_class quote)) (c ∷ cs))) (Ok (None, c ∷ cs))) (Leaves n)
literal-leaves quote n c cs le = by_test (passes (quoted_class quote) c) refl
  where
    by_test : (b : Bool) → passes (quoted_class quote) c ≡ b
        → IfOk {E = Refusal} (cond b (Ok (Some (Literal (prefix_of (passes (quoted_class quote)) (c ∷ cs))), after (passes (quoted_class quote)) (c ∷ cs))) (Ok (None, c ∷ cs))) (Leaves n)
    by_test true e =
        let same : after (passes (quoted_class quote)) (c ∷ cs) ≡ after (passes (quoted_class quote)) cs = rw e refl in
        let less : length (after (passes (quoted_class quote)) cs) ≤ length cs = length-after (passes (quoted_class quote)) cs in
        record { most = rw same (omega (arith, less)); fewer = rw same (omega (arith, less)) }
    by_test false e = record { most = le; fewer = tt }

piece-leaves : (quote : Quote) (n : ℕ) (cs : List ℕ) → length cs ≤ n → IfOk (piece_at quote cs) (Leaves n)
piece-leaves quote n [] le = record { most = le; fewer = tt }
piece-leaves quote n (c ∷ cs) le =
    either_if_ok (Leaves n) (eqb c 38) _ _
    (bind_if_ok (LeavesBelow n) (Leaves n) (reference_at cs) _ (reference-below n cs (omega arith)) (λ r less. record { most = omega arith; fewer = less }))
    (literal-leaves quote n c cs le)

pub pieces_shorten : (quote : Quote) → Shortens (piece_at quote)
pieces_shorten quote = shortens (piece_at quote) (piece-leaves quote)

quoted-most : (n : ℕ) (quote : Quote) (cs : List ℕ) → length cs ≤ n → IfOk (quoted_at quote cs) (LeavesAtMost n)
unfolding quoted_at
quoted-most n quote cs le =
    bind_if_ok (LeavesAtMost n) (LeavesAtMost n) (each (piece_at quote) cs) _ (each-most (piece_at quote) (piece-leaves quote) n cs le) (λ pieces less.
    bind_if_ok (Below n) (LeavesAtMost n) (character_at (mark_of quote) pieces.1) _ (character-below n (mark_of quote) pieces.1 less) (λ rest fewer. omega arith))

value-most : (n : ℕ) (cs : List ℕ) → length cs ≤ n → IfOk (value_at cs) (LeavesAtMost n)
value-most n [] le = tt
value-most n (c ∷ cs) le =
    either_if_ok (LeavesAtMost n) (eqb c 34) _ _ (quoted-most n Double cs (omega arith))
    (test_if_ok (LeavesAtMost n) (eqb c 39) (quoted_at Single cs) (Unexpected, c ∷ cs) (quoted-most n Single cs (omega arith)))

-- ---- attributes

attribute-below : (n : ℕ) (cs : List ℕ) → length cs ≤ n → IfOk (attribute_at cs) (LeavesBelow n)
unfolding attribute_at
attribute-below n cs le =
    bind_if_ok (LeavesAtMost n) (LeavesBelow n) (name_at cs) _ (name-most n cs le) (λ name less.
    bind_if_ok (Below n) (LeavesBelow n) (character_at 61 (after_space name.1)) _ (character-below n 61 (after_space name.1) (after-most n Space name.1 less)) (λ following fewer.
    bind_if_ok (LeavesAtMost (length (after_space following))) (LeavesBelow n) (value_at (after_space following)) _ (value-most (length (after_space following)) (after_space following) (omega arith))
    (λ value at_most. omega (arith, length-after (passes Space) following))))

attribute_after-leaves : (n : ℕ) (spaced : Bool) (cs : List ℕ) → length cs ≤ n → IfOk (attribute_after spaced cs) (Leaves n)
attribute_after-leaves n spaced [] le = record { most = le; fewer = tt }
attribute_after-leaves n spaced (c ∷ cs) le =
    either_if_ok (Leaves n) (passes NameStart c) _ _
    (test_if_ok (Leaves n) spaced _ (Unexpected, c ∷ cs) (gives-leaves n (attribute_at (c ∷ cs)) (attribute-below n (c ∷ cs) le)))
    (record { most = le; fewer = tt })

pub next_attribute-leaves : (n : ℕ) (cs : List ℕ) → length cs ≤ n → IfOk (next_attribute_at cs) (Leaves n)
unfolding next_attribute_at
next_attribute-leaves n cs le = attribute_after-leaves n (begins Space cs) (after_space cs) (after-most n Space cs le)

pub attributes_shorten : Shortens next_attribute_at
attributes_shorten = shortens next_attribute_at next_attribute-leaves
