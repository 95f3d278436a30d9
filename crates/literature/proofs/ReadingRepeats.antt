-- What stands after each sign, read as a loop reads it.
use Rattle.std.proofs.Common.{◌≡◌, ℕ, zero, suc, ◌<◌, ◌≤◌, Bool, true, false, cond, List, [], ◌∷◌, ◌++◌, length, Option, Some, None, Result, Ok, Err, refl, sym, ap, subst, ◌∙◌, append_assoc, arith, eqb}
use Rattle.std.specs.Prelude.{IfOk}
use Rattle.std.proofs.lemmas.List.{append-nil}
use Rattle.laws.specs.Characters.{comma, close_bracket}
use Rattle.laws.specs.Results.{◌>>=◌, EndsWith}
use Rattle.laws.proofs.Results.{bind_if_ok, bind_bind, if_ok_at}
use Rattle.literature.specs.Tokens.{Token, Name, Sign}
use Rattle.literature.specs.Trees.{Tree}
use Rattle.literature.specs.Reading.{Fault, MissingComma, Reading, taken, one_more, each_below, each_after, name_at, list_end, names_at, parted}

-- a fault stays where more is read after it
pub ends_bind : {A B : Type 0} (o : Option Fault) (r : Result A Fault) (f : A → Result B Fault) → EndsWith o r → EndsWith o (r >>= f)
ends_bind None r f h = tt
ends_bind (Some g) r f h = ap (λ x. x >>= f) h

-- a sign that is taken leaves less, and a sign that is not takes nothing
abbrev pub TakesOne : ℕ → Bool × List Token → Type 0
TakesOne n (true, rest) = length rest < n
TakesOne n (false, rest) = length rest ≤ n

pub taken_leaves : (sign : ℕ) (ts : List Token) → TakesOne (length ts) (taken sign ts)
taken_leaves sign [] = omega arith
taken_leaves sign (Name n ∷ ts) = omega arith
taken_leaves sign (Sign c ∷ ts) = by_test (eqb c sign)
  where
    by_test : (b : Bool) → TakesOne (length (Sign c ∷ ts)) (cond b (true, ts) (false, Sign c ∷ ts))
    by_test true = omega arith
    by_test false = omega arith

pub taken_less : (sign : ℕ) (ts rest : List Token) → taken sign ts ≡ (true, rest) → length rest < length ts
taken_less sign ts rest is = subst (TakesOne (length ts)) is (taken_leaves sign ts)

-- no more tokens are left than there were
abbrev pub AtMost : {X : Type 0} → ℕ → X × List Token → Type 0
AtMost n p = length p.1 ≤ n

abbrev pub Leaves : {X : Type 0} → Reading X → Type 0
Leaves read = (ts : List Token) → IfOk (read ts) (AtMost (length ts))

pub one_more_leaves : {X : Type 0} (read : Reading X) (others : Reading (List X)) → Leaves read → Leaves others → (n : ℕ) (p : Bool × List Token) → TakesOne n p → IfOk (one_more read others p) (AtMost n)
one_more_leaves read others fine more n (false, ts) less = less
one_more_leaves {X} read others fine more n (true, ts) less =
    bind_if_ok (λ (p : X × List Token). length p.1 ≤ length ts) (AtMost n) (read ts) (λ p. others p.1 >>= λ q. Ok (p.0 ∷ q.0, q.1)) (fine ts)
    (λ p fewer. bind_if_ok (λ (q : List X × List Token). length q.1 ≤ length p.1) (AtMost n) (others p.1) (λ q. Ok (p.0 ∷ q.0, q.1)) (more p.1) (λ q least. omega arith))

each_below_leaves : {X : Type 0} (n sign : ℕ) (read : Reading X) → Leaves read → Leaves (each_below n sign read)
unfolding each_below
each_below_leaves zero sign read fine ts = omega arith
each_below_leaves (suc n) sign read fine ts = one_more_leaves read (each_below n sign read) fine (each_below_leaves n sign read fine) (length ts) (taken sign ts) (taken_leaves sign ts)

pub each_leaves : {X : Type 0} (sign : ℕ) (read : Reading X) → Leaves read → Leaves (each_after sign read)
unfolding each_after
each_leaves sign read fine ts = each_below_leaves (suc (length ts)) sign read fine ts

-- a value before those that are given after it
abbrev pub put : {X : Type 0} → X → Result (List X × List Token) Fault → Result (List X × List Token) Fault
put x r = r >>= λ q. Ok (x ∷ q.0, q.1)

-- a number above the count of tokens is enough
enough : {X : Type 0} (sign : ℕ) (read : Reading X) → Leaves read → (n m : ℕ) (ts : List Token) → length ts < n → length ts < m → each_below n sign read ts ≡ each_below m sign read ts
unfolding each_below
enough sign read fine zero m ts below_n below_m = absurd (omega arith)
enough sign read fine (suc n) zero ts below_n below_m = absurd (omega arith)
enough {X} sign read fine (suc n) (suc m) ts below_n below_m = by_sign (λ rest less_n less_m. enough sign read fine n m rest less_n less_m) (taken sign ts) (taken_leaves sign ts)
  where
    by_read : ((rest : List Token) → length rest < n → length rest < m → each_below n sign read rest ≡ each_below m sign read rest) → (k : ℕ) → k < n → k < m → (r : Result (X × List Token) Fault) → IfOk r (AtMost k)
        → (r >>= λ p. put p.0 (each_below n sign read p.1)) ≡ (r >>= λ p. put p.0 (each_below m sign read p.1))
    by_read more k less_n less_m (Err f) h = refl
    by_read more k less_n less_m (Ok p) h = ap (put p.0) (more p.1 (omega arith) (omega arith))

    by_sign : ((rest : List Token) → length rest < n → length rest < m → each_below n sign read rest ≡ each_below m sign read rest) → (p : Bool × List Token) → TakesOne (length ts) p
        → one_more read (each_below n sign read) p ≡ one_more read (each_below m sign read) p
    by_sign more (false, rest) less = refl
    by_sign more (true, rest) less = by_read more (length rest) (omega arith) (omega arith) (read rest) (fine rest)

-- the sign does not stand here
pub each_stops : {X : Type 0} (sign : ℕ) (read : Reading X) (ts rest : List Token) → taken sign ts ≡ (false, rest) → each_after sign read ts ≡ Ok ([], rest)
unfolding each_after each_below
each_stops sign read ts rest is = rw is refl

-- the sign stands here, and what is read after it stands before what the rest gives
pub each_goes_on : {X : Type 0} (sign : ℕ) (read : Reading X) → Leaves read → (ts rest more : List Token) (x : X) → taken sign ts ≡ (true, rest) → read rest ≡ Ok (x, more)
    → each_after sign read ts ≡ (each_after sign read more >>= λ q. Ok (x ∷ q.0, q.1))
unfolding each_after each_below
each_goes_on {X} sign read fine ts rest more x is reads =
    let less = taken_less sign ts rest is in
    let fewer : length more ≤ length rest = if_ok_at (AtMost (length rest)) (read rest) (x, more) reads (fine rest) in
    let same : each_below (length ts) sign read more ≡ each_below (suc (length more)) sign read more = enough sign read fine (length ts) (suc (length more)) more (omega arith) (omega arith) in
    rw (is, reads) (ap (λ (r : Result (List X × List Token) Fault). r >>= λ q. Ok (x ∷ q.0, q.1)) same)

-- what is read after the sign is a fault
pub each_fails : {X : Type 0} (sign : ℕ) (read : Reading X) (ts rest : List Token) (o : Option Fault) → taken sign ts ≡ (true, rest) → EndsWith o (read rest) → EndsWith o (each_after sign read ts)
unfolding each_after each_below
each_fails sign read ts rest None is h = tt
each_fails sign read ts rest (Some f) is h = rw (is, h) refl

-- what was there, before what was read
abbrev pub prepended : {X : Type 0} → List X → Result (List X × List Token) Fault → Result (List X × List Token) Fault
prepended before read = read >>= λ p. Ok (before ++ p.0, p.1)

moved : {X : Type 0} (before : List X) (x : X) (r : Result (List X × List Token) Fault) → prepended before (r >>= λ p. Ok (x ∷ p.0, p.1)) ≡ prepended (before ++ x ∷ []) r
moved before x (Ok p) = ap (λ (xs : List _). Ok (xs, p.1)) (sym (append_assoc before (x ∷ []) p.0))
moved before x (Err f) = refl

pub prepended_goes_on : {X : Type 0} (sign : ℕ) (read : Reading X) → Leaves read → (before : List X) (ts rest more : List Token) (x : X) → taken sign ts ≡ (true, rest) → read rest ≡ Ok (x, more)
    → prepended before (each_after sign read ts) ≡ prepended (before ++ x ∷ []) (each_after sign read more)
prepended_goes_on sign read fine before ts rest more x is reads = ap (prepended before) (each_goes_on sign read fine ts rest more x is reads) ∙ moved before x (each_after sign read more)

pub prepended_stops : {X : Type 0} (sign : ℕ) (read : Reading X) (before : List X) (ts rest : List Token) → taken sign ts ≡ (false, rest) → prepended before (each_after sign read ts) ≡ Ok (before, rest)
prepended_stops sign read before ts rest is = ap (prepended before) (each_stops sign read ts rest is) ∙ ap (λ (xs : List _). Ok (xs, rest)) (append-nil before)

pub prepended_fails : {X : Type 0} (sign : ℕ) (read : Reading X) (before : List X) (ts rest : List Token) (o : Option Fault) → taken sign ts ≡ (true, rest) → EndsWith o (read rest)
    → EndsWith o (prepended before (each_after sign read ts))
prepended_fails sign read before ts rest o is h = ends_bind o (each_after sign read ts) (λ p. Ok (before ++ p.0, p.1)) (each_fails sign read ts rest o is h)

-- one and what stands after the signs
pub parted_ends : (sign : ℕ) (join : Tree → List Tree → Tree) (read : Reading Tree) (ts rest more : List Token) (x : Tree) (xs : List Tree) → read ts ≡ Ok (x, rest) → each_after sign read rest ≡ Ok (xs, more)
    → parted sign join read ts ≡ Ok (join x xs, more)
unfolding parted
parted_ends sign join read ts rest more x xs first others = rw (first, others) refl

pub parted_fails : (sign : ℕ) (join : Tree → List Tree → Tree) (read : Reading Tree) (ts : List Token) (o : Option Fault) → EndsWith o (read ts) → EndsWith o (parted sign join read ts)
unfolding parted
parted_fails sign join read ts o h = ends_bind o (read ts) (λ f. each_after sign read f.1 >>= λ others. Ok (join f.0 others.0, others.1)) h

pub parted_fails_later : (sign : ℕ) (join : Tree → List Tree → Tree) (read : Reading Tree) (ts rest : List Token) (x : Tree) (o : Option Fault) → read ts ≡ Ok (x, rest) → EndsWith o (each_after sign read rest)
    → EndsWith o (parted sign join read ts)
unfolding parted
parted_fails_later sign join read ts rest x o first h = rw first (ends_bind o (each_after sign read rest) (λ others. Ok (join x others.0, others.1)) h)

-- the names that were read, and further ones up to the bracket
abbrev pub names_onto : List (List ℕ) → List Token → Result (List (List ℕ) × List Token) Fault
names_onto before ts = prepended before (each_after comma name_at ts) >>= λ p. list_end (taken close_bracket p.1) >>= λ rest. Ok (p.0, rest)

pub names_begin : (ts rest : List Token) (x : List ℕ) → name_at ts ≡ Ok (x, rest) → names_onto (x ∷ []) rest ≡ names_at ts
unfolding names_at
names_begin ts rest x is = bind_bind (each_after comma name_at rest) (λ p. Ok (x ∷ p.0, p.1)) (λ p. list_end (taken close_bracket p.1) >>= λ more. Ok (p.0, more)) ∙ rw is refl

pub names_fail : (ts : List Token) (o : Option Fault) → EndsWith o (name_at ts) → EndsWith o (names_at ts)
unfolding names_at
names_fail ts o h = ends_bind o (name_at ts) (λ f. each_after comma name_at f.1 >>= λ others. list_end (taken close_bracket others.1) >>= λ rest. Ok (f.0 ∷ others.0, rest)) h

pub name_leaves : Leaves name_at
name_leaves [] = tt
name_leaves (Name n ∷ ts) = omega arith
name_leaves (Sign c ∷ ts) = tt

pub names_go_on : (before : List (List ℕ)) (ts rest more : List Token) (x : List ℕ) → taken comma ts ≡ (true, rest) → name_at rest ≡ Ok (x, more) → names_onto before ts ≡ names_onto (before ++ x ∷ []) more
names_go_on before ts rest more x is reads = ap (λ r. r >>= λ p. list_end (taken close_bracket p.1) >>= λ end. Ok (p.0, end)) (prepended_goes_on comma name_at name_leaves before ts rest more x is reads)

pub names_fail_later : (before : List (List ℕ)) (ts rest : List Token) (o : Option Fault) → taken comma ts ≡ (true, rest) → EndsWith o (name_at rest) → EndsWith o (names_onto before ts)
names_fail_later before ts rest o is h =
    ends_bind o (prepended before (each_after comma name_at ts)) (λ p. list_end (taken close_bracket p.1) >>= λ end. Ok (p.0, end)) (prepended_fails comma name_at before ts rest o is h)

pub names_end : (before : List (List ℕ)) (ts rest more : List Token) → taken comma ts ≡ (false, rest) → taken close_bracket rest ≡ (true, more) → names_onto before ts ≡ Ok (before, more)
names_end before ts rest more is end = ap (λ r. r >>= λ p. list_end (taken close_bracket p.1) >>= λ e. Ok (p.0, e)) (prepended_stops comma name_at before ts rest is) ∙ rw end refl

pub names_stay_open : (before : List (List ℕ)) (ts rest more : List Token) → taken comma ts ≡ (false, rest) → taken close_bracket rest ≡ (false, more) → names_onto before ts ≡ Err MissingComma
names_stay_open before ts rest more is end = ap (λ r. r >>= λ p. list_end (taken close_bracket p.1) >>= λ e. Ok (p.0, e)) (prepended_stops comma name_at before ts rest is) ∙ rw end refl
