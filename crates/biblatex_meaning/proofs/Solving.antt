-- The equation of inheritance has one solution where no entry reaches itself.
use Rattle.std.proofs.Common.{◌≡◌, ℕ, zero, suc, ◌<◌, List, [], ◌∷◌, length, slice_get, Contains, Option, Some, None, refl, ap, arith}
use Rattle.std.specs.Prelude.{IfSome}
use Rattle.std.proofs.Math.Path.{fun_ext}
use Rattle.std.proofs.lemmas.Option.{slice_get_within}
use Rattle.reference_graph.specs.References.{references_of}
use Rattle.biblatex_entries.specs.Entries.{Source}
use Rattle.biblatex_inheritance.specs.Resolved.{Table, Offer, resolved, offers, offer_if}
use Rattle.biblatex_inheritance.specs.Solution.{Solves, IsOnly, NoneIsCircular}
use Rattle.biblatex_meaning.proofs.Equation.{IsLocal, solution, solves, agree}

-- what an entry resolves to; a number that is no entry's has no fields
abbrev pub resolved_in : Option Source → List Offer → Table
resolved_in None os name = None
resolved_in (Some e) os name = resolved e os name

abbrev pub rule : List Source → List (List ℕ) → (ℕ → Table) → ℕ → Table
rule es R see i = resolved_in (slice_get es i) (offers es see (references_of R i))

abbrev pub no_fields : Table
no_fields name = None

offers_agree : (es : List Source) (see other : ℕ → Table) (rs : List ℕ) → ((r : ℕ) → Contains rs r → r < length es → see r ≡ other r) → offers es see rs ≡ offers es other rs
offers_agree es see other [] same = refl
offers_agree es see other (r ∷ rs) same =
    rw (offers_agree es see other rs (λ x c. same x (suc c.0, omega (arith, c.1), c.2)), here (slice_get es r) (λ e is. same r (0, omega arith, refl) (slice_get_within es r e is))) refl
  where
    here : (o : Option Source) → ((e : Source) → o ≡ Some e → see r ≡ other r) → offer_if r o (see r) ≡ offer_if r o (other r)
    here None f = refl
    here (Some e) f = ap (offer_if r (Some e)) (f e refl)

rule_local : (es : List Source) (R : List (List ℕ)) → length R ≡ length es → IsLocal R (rule es R)
rule_local es R same f g i alike = ap (resolved_in (slice_get es i)) (offers_agree es f g (references_of R i) (λ r has low. alike r has (omega (arith, low, same))))

-- the equation of each entry, as one of tables
solves_by : (es : List Source) (R : List (List ℕ)) (see : ℕ → Table) → ((i : ℕ) → see i ≡ rule es R see i) → Solves es R see
solves_by es R see is i = by (slice_get es i) (is i)
  where
    by : (o : Option Source) → see i ≡ resolved_in o (offers es see (references_of R i)) → IfSome o (λ e. (name : List ℕ) → see i name ≡ resolved e (offers es see (references_of R i)) name)
    by None is = tt
    by (Some e) is = λ name. ap (λ (t : Table). t name) is

entry_there : (es : List Source) (n : ℕ) → n < length es → (e : Source) × (slice_get es n ≡ Some e)
entry_there [] n low = absurd (omega (arith, low))
entry_there (e ∷ es) zero low = (e, refl)
entry_there (e ∷ es) (suc n) low = entry_there es n (omega (arith, low))

rule_by : (es : List Source) (R : List (List ℕ)) (see : ℕ → Table) → Solves es R see → (i : ℕ) → i < length es → see i ≡ rule es R see i
rule_by es R see solves i low = let there = entry_there es i low in by (slice_get es i) there.0 there.1 (solves i)
  where
    by : (o : Option Source) (e : Source) → o ≡ Some e → IfSome o (λ e. (name : List ℕ) → see i name ≡ resolved e (offers es see (references_of R i)) name) → see i ≡ resolved_in o (offers es see (references_of R i))
    by None e is h = absurd cc
    by (Some x) e is h = fun_ext h

-- the fields of each entry, as what stands under each name
abbrev pub solution_of : List Source → List (List ℕ) → ℕ → Table
solution_of es R = solution R (rule es R) no_fields

pub solved : (es : List Source) (R : List (List ℕ)) → length R ≡ length es → NoneIsCircular R → Solves es R (solution_of es R)
solved es R same none = solves_by es R (solution_of es R) (solves R (rule es R) no_fields (rule_local es R same) none)

pub only : (es : List Source) (R : List (List ℕ)) → length R ≡ length es → NoneIsCircular R → IsOnly es R (solution_of es R)
only es R same none other other_solves i low name =
    let equal = agree R (rule es R) (rule_local es R same) none (solution_of es R) other (λ k k_low. solves R (rule es R) no_fields (rule_local es R same) none k)
    (λ k k_low. rule_by es R other other_solves k (omega (arith, k_low, same))) i (omega (arith, low, same)) in
    ap (λ (t : Table). t name) equal
