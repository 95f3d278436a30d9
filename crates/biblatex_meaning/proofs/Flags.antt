-- Marks and flags that say which numbers reach themselves.
use Rattle.std.proofs.Common.{◌≡◌, ◌↔◌, ℕ, zero, suc, ◌<◌, ◌≤◌, Bool, false, true≢false, IsTrue, List, [], ◌∷◌, length, get_or, inl, inr, refl, sym, ap, subst, ◌∙◌, arith}
use Rattle.std.proofs.lemmas.Bool.{cases_lt}
use Rattle.std.proofs.lemmas.List.{length-map}
use Rattle.reference_graph.specs.References.{IsCircular}
use Rattle.reference_graph.specs.Order.{MarksCircular}
use Rattle.biblatex_text.specs.Raw.{Field}
use Rattle.biblatex_fields.specs.Abbreviations.{AreFlags, references}
use Rattle.biblatex_inheritance.proofs.SolutionAlong.{circular_below}
use Rattle.biblatex_meaning.proofs.Decided.{is_true, tells}
use Rattle.biblatex_meaning.proofs.Walks.{circular}

-- the answers for the numbers below a bound
abbrev pub tabled : (ℕ → Bool) → ℕ → List Bool
tabled f zero = []
tabled f (suc n) = f 0 ∷ tabled (λ i. f (suc i)) n

tabled_long : (f : ℕ → Bool) (n : ℕ) → length (tabled f n) ≡ n
tabled_long f zero = refl
tabled_long f (suc n) = ap suc (tabled_long (λ i. f (suc i)) n)

tabled_at : (f : ℕ → Bool) (n i : ℕ) → i < n → get_or (tabled f n) i false ≡ f i
tabled_at f zero i low = absurd (omega (arith, low))
tabled_at f (suc n) zero low = refl
tabled_at f (suc n) (suc i) low = tabled_at (λ i. f (suc i)) n i (omega (arith, low))

tabled_past : (f : ℕ → Bool) (n i : ℕ) → n ≤ i → get_or (tabled f n) i false ≡ false
tabled_past f zero i past = refl
tabled_past f (suc n) zero past = absurd (omega (arith, past))
tabled_past f (suc n) (suc i) past = tabled_past (λ i. f (suc i)) n i (omega (arith, past))

abbrev pub marks_of : List (List ℕ) → List Bool
marks_of R = tabled (λ i. is_true (circular R i)) (length R)

pub marks_long : (R : List (List ℕ)) → length (marks_of R) ≡ length R
marks_long R = tabled_long (λ i. is_true (circular R i)) (length R)

pub marks_exact : (R : List (List ℕ)) → MarksCircular R (marks_of R)
marks_exact R i = elim (cases_lt i (length R)) [
  | inl low ↦ subst (λ (b : Bool). IsTrue b ↔ IsCircular R i) (sym (tabled_at (λ i. is_true (circular R i)) (length R) i low)) (tells (circular R i))
  | inr past ↦ subst (λ (b : Bool). IsTrue b ↔ IsCircular R i) (sym (tabled_past (λ i. is_true (circular R i)) (length R) i past)) (beyond past)
]
  where
    beyond : length R ≤ i → IsTrue false ↔ IsCircular R i
    beyond past = (λ e. absurd (true≢false (sym e)), λ c. let low = circular_below R i c in absurd (omega (arith, low, past)))

-- the marks of definitions are their flags
pub flags_there : (ds : List Field) → AreFlags (marks_of (references ds)) ds
flags_there ds = record {
  long = marks_long (references ds) ∙ length-map ds _;
  exact = λ index low. marks_exact (references ds) index;
}
