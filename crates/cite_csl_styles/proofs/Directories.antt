-- The directory of a path, by the place of its last slash.
use Rattle.std.proofs.Common.{◌≡◌, ℕ, zero, suc, ◌<◌, ◌+◌, ◌-◌, Bool, false, cond, List, [], ◌∷◌, length, get_or, take, eqb, Option, Some, None, refl, sym, ap, ◌∙◌, inl, inr, arith}
use Rattle.std.specs.Prelude.{◌≢◌, MatchOption}
use Rattle.std.specs.List.{slice_range, slice_split, onto_first}
use Rattle.std.proofs.lemmas.Bool.{eq-eqb, ne_eqb, cases_eq}
use Rattle.laws.specs.Characters.{slash}
use Rattle.cite_csl_styles.specs.Sheets.{directory, directory_of}

-- the parts of a path, with slashes between
abbrev parts_of : List ℕ → List (List ℕ)
parts_of bs = slice_split (λ b. eqb b slash) bs

-- those of a path with one more byte before it
abbrev parts_onto : ℕ → List (List ℕ) → Bool → List (List ℕ)
parts_onto b parts is = cond is ([] ∷ parts) (onto_first b parts)

-- a path without a slash is one part
one_part : (bs : List ℕ) → ((i : ℕ) → i < length bs → get_or bs i 0 ≢ slash) → parts_of bs ≡ bs ∷ []
one_part [] none = refl
one_part (b ∷ bs) none =
    let more : parts_of bs ≡ bs ∷ [] = one_part bs (λ i less. none (suc i) (omega arith)) in
    let first : eqb b slash ≡ false = ne_eqb b slash (none 0 (omega arith)) in
    ap (parts_onto b (parts_of bs)) first ∙ ap (onto_first b) more

-- a byte before a directory
after_slash : (parts : List (List ℕ)) (x : ℕ) (xs : List ℕ) → x ∷ xs ≡ directory_of parts → slash ∷ (x ∷ xs) ≡ directory_of ([] ∷ parts)
after_slash [] x xs e = absurd cc
after_slash (p ∷ ps) x xs e = ap (λ (t : List ℕ). slash ∷ t) e

after_byte : (b : ℕ) (parts : List (List ℕ)) (x : ℕ) (xs : List ℕ) → x ∷ xs ≡ directory_of parts → b ∷ (x ∷ xs) ≡ directory_of (onto_first b parts)
after_byte b [] x xs e = absurd cc
after_byte b (p ∷ []) x xs e = absurd cc
after_byte b (p ∷ q ∷ ps) x xs e = ap (λ (t : List ℕ). b ∷ t) e

before_directory : (b : ℕ) (parts : List (List ℕ)) (x : ℕ) (xs : List ℕ) → x ∷ xs ≡ directory_of parts → b ∷ (x ∷ xs) ≡ directory_of (parts_onto b parts (eqb b slash))
before_directory b parts x xs e =
    elim (cases_eq b slash) [
      | inl is ↦ ap (λ (n : ℕ). n ∷ (x ∷ xs)) is ∙ (after_slash parts x xs e ∙ sym (ap (λ (t : Bool). directory_of (parts_onto b parts t)) (eq-eqb b slash is)))
      | inr other ↦ after_byte b parts x xs e ∙ sym (ap (λ (t : Bool). directory_of (parts_onto b parts t)) (ne_eqb b slash other))
    ]

-- what stands up to the last slash
up_to : (bs : List ℕ) (k : ℕ) → k < length bs → get_or bs k 0 ≡ slash → ((i : ℕ) → k < i → i < length bs → get_or bs i 0 ≢ slash) → take (suc k) bs ≡ directory bs
up_to [] k less here after = absurd (omega arith)
up_to (b ∷ bs) zero less here after =
    let rest : parts_of bs ≡ bs ∷ [] = one_part bs (λ i more. after (suc i) (omega arith) (omega arith)) in
    ap (λ (n : ℕ). n ∷ []) here ∙ sym (ap (λ (t : Bool). directory_of (parts_onto b (parts_of bs) t)) (eq-eqb b slash here) ∙ ap (λ (ps : List (List ℕ)). directory_of ([] ∷ ps)) rest)
up_to (b ∷ []) (suc k) less here after = absurd (omega arith)
up_to (b ∷ x ∷ xs) (suc k) less here after =
    before_directory b (parts_of (x ∷ xs)) x (take k xs) (up_to (x ∷ xs) k (omega arith) here (λ i over more. after (suc i) (omega arith) (omega arith)))

-- by what a search from the right finds
pub by_last_slash : (bs : List ℕ) (r : Option ℕ) → MatchOption r ((i : ℕ) → i < length bs → get_or bs i 0 ≢ slash) (λ k. (k < length bs) × (get_or bs k 0 ≡ slash) × ((i : ℕ) → k < i → i < length bs → get_or bs i 0 ≢ slash))
    → MatchOption r ([] ≡ directory bs) (λ k. slice_range bs 0 (k + 1) ≡ directory bs)
by_last_slash bs None none = sym (ap directory_of (one_part bs none))
by_last_slash bs (Some k) found =
    let all : (k + 1) - 0 ≡ suc k = omega arith in
    ap (λ (n : ℕ). take n bs) all ∙ up_to bs k found.0 found.1 found.2
