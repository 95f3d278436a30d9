-- How deep a number is: how many it leads to. What it refers to is less deep, unless that reaches itself.
use Rattle.std.proofs.Common.{◌≡◌, ℕ, zero, suc, ◌+◌, ◌<◌, ◌≤◌, List, length, Contains, inl, inr, subst, arith}
use Rattle.std.proofs.lemmas.Bool.{cases_lt}
use Rattle.reference_graph.specs.References.{references_of, IsCircular}
use Rattle.biblatex_meaning.proofs.Decided.{Decided}
use Rattle.biblatex_meaning.proofs.Walks.{Through, leads, at_once, through_on, through}

-- of how many numbers below a bound a statement is true
abbrev pub one_if : {P : Type 0} → Decided P → ℕ
one_if (inl p) = 1
one_if (inr no_p) = 0

abbrev pub counted : {P : ℕ → Type 0} → ((j : ℕ) → Decided (P j)) → ℕ → ℕ
counted d zero = 0
counted d (suc n) = one_if (d n) + counted d n

one_upto : {P : Type 0} → (d : Decided P) → one_if d ≤ 1
one_upto (inl p) = omega arith
one_upto (inr no_p) = omega arith

counted_upto : (P : ℕ → Type 0) (d : (j : ℕ) → Decided (P j)) (n : ℕ) → counted d n ≤ n
counted_upto P d zero = omega arith
counted_upto P d (suc n) =
    let more = counted_upto P d n in
    let one = one_upto (d n) in
    omega (arith, more, one)

one_less : {P Q : Type 0} → (P → Q) → (d : Decided P) (e : Decided Q) → one_if d ≤ one_if e
one_less f (inl p) (inl q) = omega arith
one_less f (inl p) (inr no_q) = absurd (no_q (f p))
one_less f (inr no_p) e = omega arith

counted_less : (P Q : ℕ → Type 0) (d : (j : ℕ) → Decided (P j)) (e : (j : ℕ) → Decided (Q j)) → ((j : ℕ) → P j → Q j) → (n : ℕ) → counted d n ≤ counted e n
counted_less P Q d e f zero = omega arith
counted_less P Q d e f (suc n) =
    let more = counted_less P Q d e f n in
    let one = one_less (f n) (d n) (e n) in
    omega (arith, more, one)

one_apart : {P Q : Type 0} → (P → ⊥) → Q → (d : Decided P) (e : Decided Q) → one_if d < one_if e
one_apart no_p q (inl p) e = absurd (no_p p)
one_apart no_p q (inr n) (inl r) = omega arith
one_apart no_p q (inr n) (inr no_q) = absurd (no_q q)

-- one number makes the count smaller
counted_apart : (P Q : ℕ → Type 0) (d : (j : ℕ) → Decided (P j)) (e : (j : ℕ) → Decided (Q j)) → ((j : ℕ) → P j → Q j) → (n r : ℕ) → r < n → (P r → ⊥) → Q r → counted d n < counted e n
counted_apart P Q d e f zero r low no_p q = absurd (omega (arith, low))
counted_apart P Q d e f (suc n) r low no_p q = elim (cases_lt r n) [
  | inl less ↦
      let more = counted_apart P Q d e f n r less no_p q in
      let one = one_less (f n) (d n) (e n) in
      omega (arith, more, one)
  | inr past ↦
      let same : r ≡ n = omega (arith, low, past) in
      let more = counted_less P Q d e f n in
      let one = one_apart (subst (λ (x : ℕ). P x → ⊥) same no_p) (subst Q same q) (d n) (e n) in
      omega (arith, more, one)
]

abbrev pub depth : List (List ℕ) → ℕ → ℕ
depth R i = counted {P = Through R (length R) i} (through R (length R) i) (length R)

pub depth_upto : (R : List (List ℕ)) (i : ℕ) → depth R i ≤ length R
depth_upto R i = counted_upto (Through R (length R) i) (through R (length R) i) (length R)

-- what is referred to leads to no more numbers, and to fewer where it does not lead to itself
pub as_deep : (R : List (List ℕ)) (i r : ℕ) → Contains (references_of R i) r → r < length R → depth R r ≤ depth R i
as_deep R i r has low = counted_less (Through R (length R) r) (Through R (length R) i) (through R (length R) r) (through R (length R) i)
    (λ j p. through_on R (length R) i r j low (at_once R (length R) i r has) p) (length R)

pub less_deep : (R : List (List ℕ)) (i r : ℕ) → (IsCircular R r → ⊥) → Contains (references_of R i) r → r < length R → depth R r < depth R i
less_deep R i r none has low = counted_apart (Through R (length R) r) (Through R (length R) i) (through R (length R) r) (through R (length R) i)
    (λ j p. through_on R (length R) i r j low (at_once R (length R) i r has) p) (length R) r low (λ p. none (leads R (length R) r r p)) (at_once R (length R) i r has)
