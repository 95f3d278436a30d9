-- Where no number reaches itself, an equation that gives the value of each number by those of its references has one solution.
use Rattle.std.proofs.Common.{◌≡◌, ℕ, zero, suc, ◌<◌, List, length, Contains, sym, ◌∙◌, arith}
use Rattle.reference_graph.specs.References.{references_of}
use Rattle.biblatex_inheritance.specs.Solution.{NoneIsCircular}
use Rattle.biblatex_meaning.proofs.Depth.{depth, depth_upto, less_deep}

-- the value of a number is given by those of its references
abbrev pub IsLocal : {A : Type 0} → List (List ℕ) → ((ℕ → A) → ℕ → A) → Type 0
IsLocal {A} R rule = (f g : ℕ → A) (i : ℕ) → ((r : ℕ) → Contains (references_of R i) r → r < length R → f r ≡ g r) → rule f i ≡ rule g i

-- the rule so many times after each other
abbrev pub iterated : {A : Type 0} → ((ℕ → A) → ℕ → A) → A → ℕ → ℕ → A
iterated rule bottom zero i = bottom
iterated rule bottom (suc n) i = rule (iterated rule bottom n) i

-- more times than a number is deep are enough
enough : {A : Type 0} (R : List (List ℕ)) (rule : (ℕ → A) → ℕ → A) (bottom : A) → IsLocal R rule → NoneIsCircular R
    → (n m i : ℕ) → depth R i < n → depth R i < m → iterated rule bottom n i ≡ iterated rule bottom m i
enough R rule bottom local none zero m i a b = absurd (omega (arith, a))
enough R rule bottom local none (suc n) zero i a b = absurd (omega (arith, b))
enough R rule bottom local none (suc n) (suc m) i a b = local (iterated rule bottom n) (iterated rule bottom m) i (λ r has low.
    let less = less_deep R i r (none r) has low in
    enough R rule bottom local none n m r (omega (arith, a, less)) (omega (arith, b, less)))

abbrev pub solution : {A : Type 0} → List (List ℕ) → ((ℕ → A) → ℕ → A) → A → ℕ → A
solution R rule bottom = iterated rule bottom (suc (length R))

pub solves : {A : Type 0} (R : List (List ℕ)) (rule : (ℕ → A) → ℕ → A) (bottom : A) → IsLocal R rule → NoneIsCircular R → (i : ℕ) → solution R rule bottom i ≡ rule (solution R rule bottom) i
solves R rule bottom local none i =
    let upto = depth_upto R i in
    enough R rule bottom local none (suc (length R)) (suc (suc (length R))) i (omega (arith, upto)) (omega (arith, upto))

-- two solutions agree
agree_upto : {A : Type 0} (R : List (List ℕ)) (rule : (ℕ → A) → ℕ → A) → IsLocal R rule → NoneIsCircular R → (f g : ℕ → A) → ((i : ℕ) → i < length R → f i ≡ rule f i) → ((i : ℕ) → i < length R → g i ≡ rule g i)
    → (n i : ℕ) → depth R i < n → i < length R → f i ≡ g i
agree_upto R rule local none f g a b zero i deep low = absurd (omega (arith, deep))
agree_upto R rule local none f g a b (suc n) i deep low =
    a i low ∙ (local f g i (λ r has r_low.
    let less = less_deep R i r (none r) has r_low in
    agree_upto R rule local none f g a b n r (omega (arith, deep, less)) r_low)
    ∙ sym (b i low))

pub agree : {A : Type 0} (R : List (List ℕ)) (rule : (ℕ → A) → ℕ → A) → IsLocal R rule → NoneIsCircular R → (f g : ℕ → A) → ((i : ℕ) → i < length R → f i ≡ rule f i) → ((i : ℕ) → i < length R → g i ≡ rule g i)
    → (i : ℕ) → i < length R → f i ≡ g i
agree R rule local none f g a b i low = let upto = depth_upto R i in agree_upto R rule local none f g a b (suc (length R)) i (omega (arith, upto)) low
