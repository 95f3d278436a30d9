-- No reading leaves more tokens than it found, and levels are counted down.
use Rattle.std.proofs.Common.{◌≡◌, ℕ, zero, suc, ◌-◌, ◌<◌, ◌≤◌, Bool, true, false, cond, List, [], ◌∷◌, ◌++◌, length, Option, Some, None, Result, Ok, Err, refl, sym, ap, ◌∙◌, append_assoc, arith, eqb}
use Rattle.std.specs.Prelude.{IfOk}
use Rattle.std.specs.List.{flat_map}
use Rattle.laws.specs.Characters.{exclamation_mark, ampersand, open_parenthesis, close_parenthesis, asterisk, comma, colon, greater_than_sign, open_bracket, close_bracket, vertical_bar}
use Rattle.laws.specs.Results.{◌>>=◌, EndsWith}
use Rattle.literature_values.specs.EntryTypes.{type_called}
use Rattle.literature.specs.Tokens.{Token, Name, Sign}
use Rattle.literature.specs.Trees.{Tree, Any, Entry, Not, Binding, Ancestry, with_attributes}
use Rattle.literature.specs.Reading.{Fault, MissingValue, Reading, taken, each_after, name_at, list_end, names_at, lists_at, listed_at, parted, alternatives_of, multi_of, TooDeep, Level, typed, named, closed, parenthesised, signed, unary_in, above, ancestry_in, level}
use Rattle.literature_values.specs.declared.entry_type.EntryType.{EntryType}
use Rattle.literature.proofs.ReadingRepeats.{TakesOne, taken_leaves, AtMost, Leaves, each_leaves, name_leaves, each_goes_on, each_stops, each_fails, ends_bind}

-- what leaves at most m tokens leaves at most a greater number of them
at_most : {X : Type 0} (m n : ℕ) → m ≤ n → (r : Result (X × List Token) Fault) → IfOk r (AtMost m) → IfOk r (AtMost n)
at_most m n fewer (Ok p) h = omega arith
at_most m n fewer (Err f) h = tt

-- a reading, and another of what it leaves
pub then_leaves : {X Y : Type 0} (n : ℕ) (r : Result (X × List Token) Fault) (f : X × List Token → Result (Y × List Token) Fault) → IfOk r (AtMost n) → ((p : X × List Token) → IfOk (f p) (AtMost (length p.1)))
    → IfOk (r >>= f) (AtMost n)
then_leaves n (Ok p) f h more = at_most (length p.1) n h (f p) (more p)
then_leaves n (Err e) f h more = tt

-- a reading, and a value made of it
pub then_gives : {X Y : Type 0} (n : ℕ) (r : Result (X × List Token) Fault) (f : X → Y) → IfOk r (AtMost n) → IfOk (r >>= λ p. Ok (f p.0, p.1)) (AtMost n)
then_gives n (Ok p) f h = h
then_gives n (Err e) f h = tt

end_leaves : {X : Type 0} (x : X) (n : ℕ) (p : Bool × List Token) → TakesOne n p → IfOk (list_end p >>= λ rest. Ok (x, rest)) (AtMost n)
end_leaves x n (true, rest) less = omega arith
end_leaves x n (false, rest) less = tt

pub names_leaves : Leaves names_at
unfolding names_at
names_leaves ts =
    then_leaves (length ts) (name_at ts) (λ f. each_after comma name_at f.1 >>= λ others. list_end (taken close_bracket others.1) >>= λ rest. Ok (f.0 ∷ others.0, rest)) (name_leaves ts)
    (λ f. then_leaves (length f.1) (each_after comma name_at f.1) (λ others. list_end (taken close_bracket others.1) >>= λ rest. Ok (f.0 ∷ others.0, rest)) (each_leaves comma name_at name_leaves f.1)
    (λ others. end_leaves (f.0 ∷ others.0) (length others.1) (taken close_bracket others.1) (taken_leaves close_bracket others.1)))

pub lists_leave : Leaves lists_at
unfolding lists_at
lists_leave ts = then_gives (length ts) (each_after open_bracket names_at ts) (flat_map (λ names. names)) (each_leaves open_bracket names_at names_leaves ts)

pub listed_leaves : (x : Tree) → Leaves (listed_at x)
unfolding listed_at
listed_leaves x ts = then_gives (length ts) (lists_at ts) (with_attributes x) (lists_leave ts)

pub parted_leaves : (sign : ℕ) (join : Tree → List Tree → Tree) (read : Reading Tree) → Leaves read → Leaves (parted sign join read)
unfolding parted
parted_leaves sign join read fine ts =
    then_leaves (length ts) (read ts) (λ f. each_after sign read f.1 >>= λ others. Ok (join f.0 others.0, others.1)) (fine ts)
    (λ f. then_gives (length f.1) (each_after sign read f.1) (join f.0) (each_leaves sign read fine f.1))

-- neither reading of a level leaves more tokens than it found
pub record LevelLeaves (l : Level) : Type 0 where
  pub unary : Leaves l.unary
  pub ancestry : Leaves l.ancestry

closed_leaves : (x : Tree) (n : ℕ) (p : Bool × List Token) → TakesOne n p → IfOk (closed x p) (AtMost n)
closed_leaves x n (true, ts) less = at_most (length ts) n (omega arith) (listed_at x ts) (listed_leaves x ts)
closed_leaves x n (false, ts) less = tt

parenthesised_leaves : (l : Level) → LevelLeaves l → Leaves (parenthesised l)
unfolding parenthesised
parenthesised_leaves l fine ts =
    then_leaves (length ts) (alternatives_of l.ancestry ts) (λ inside. closed inside.0 (taken close_parenthesis inside.1)) (parted_leaves vertical_bar _ l.ancestry fine.ancestry ts)
    (λ inside. closed_leaves inside.0 (length inside.1) (taken close_parenthesis inside.1) (taken_leaves close_parenthesis inside.1))

typed_leaves : (n : List ℕ) (o : Option EntryType) → Leaves (typed n o)
typed_leaves n None ts = tt
typed_leaves n (Some t) ts = listed_leaves (Entry t) ts

named_leaves : (l : Level) → LevelLeaves l → (name : List ℕ) (n : ℕ) (p : Bool × List Token) → TakesOne n p → IfOk (named l name p) (AtMost n)
named_leaves l fine name n (true, ts) less = then_gives n (l.unary ts) (λ x. Binding name x) (at_most (length ts) n (omega arith) (l.unary ts) (fine.unary ts))
named_leaves l fine name n (false, ts) less = at_most (length ts) n less (typed name (type_called name) ts) (typed_leaves name (type_called name) ts)

signed_leaves : (l : Level) → LevelLeaves l → (c : ℕ) (ts : List Token) → IfOk (signed l c ts) (AtMost (suc (length ts)))
signed_leaves l fine c ts = by_tests (eqb c exclamation_mark) (eqb c asterisk) (eqb c open_bracket) (eqb c open_parenthesis)
  where
    longer : (r : Result (Tree × List Token) Fault) → IfOk r (AtMost (length ts)) → IfOk r (AtMost (suc (length ts)))
    longer r h = at_most (length ts) (suc (length ts)) (omega arith) r h

    by_tests : (a b d e : Bool)
        → IfOk (cond a (l.unary ts >>= λ p. Ok (Not p.0, p.1)) (cond b (listed_at Any ts) (cond d (listed_at Any (Sign c ∷ ts)) (cond e (parenthesised l ts) (Err MissingValue))))) (AtMost (suc (length ts)))
    by_tests true b d e = longer (l.unary ts >>= λ p. Ok (Not p.0, p.1)) (then_gives (length ts) (l.unary ts) (λ x. Not x) (fine.unary ts))
    by_tests false true d e = longer (listed_at Any ts) (listed_leaves Any ts)
    by_tests false false true e = listed_leaves Any (Sign c ∷ ts)
    by_tests false false false true = longer (parenthesised l ts) (parenthesised_leaves l fine ts)
    by_tests false false false false = tt

pub unary_leaves : (l : Level) → LevelLeaves l → Leaves (unary_in l)
unfolding unary_in
unary_leaves l fine [] = tt
unary_leaves l fine (Name n ∷ ts) =
    at_most (length ts) (suc (length ts)) (omega arith) (named l n (taken colon ts)) (named_leaves l fine n (length ts) (taken colon ts) (taken_leaves colon ts))
unary_leaves l fine (Sign c ∷ ts) = signed_leaves l fine c ts

above_leaves : (l : Level) → LevelLeaves l → (x : Tree) (n : ℕ) (p : Bool × List Token) → TakesOne n p → IfOk (above l x p) (AtMost n)
above_leaves l fine x n (true, ts) less = then_gives n (l.ancestry ts) (λ y. Ancestry x y) (at_most (length ts) n (omega arith) (l.ancestry ts) (fine.ancestry ts))
above_leaves l fine x n (false, ts) less = less

pub ancestry_leaves : (l : Level) → LevelLeaves l → Leaves (ancestry_in l)
unfolding ancestry_in
ancestry_leaves l fine ts =
    then_leaves (length ts) (multi_of (unary_in l) ts) (λ of. above l of.0 (taken greater_than_sign of.1)) (parted_leaves ampersand _ (unary_in l) (unary_leaves l fine) ts)
    (λ of. above_leaves l fine of.0 (length of.1) (taken greater_than_sign of.1) (taken_leaves greater_than_sign of.1))

pub level_leaves : (n : ℕ) → LevelLeaves (level n)
unfolding level
level_leaves zero = record { unary = λ ts. tt; ancestry = λ ts. tt }
level_leaves (suc n) = record { unary = unary_leaves (level n) (level_leaves n); ancestry = ancestry_leaves (level n) (level_leaves n) }

-- where no level is left, what opens one is refused as too deep
pub no_level_unary : (n : ℕ) (ts : List Token) → n ≡ 0 → (level n).unary ts ≡ Err TooDeep
unfolding level
no_level_unary n ts none = rw none refl

pub no_level_ancestry : (n : ℕ) (ts : List Token) → n ≡ 0 → (level n).ancestry ts ≡ Err TooDeep
unfolding level
no_level_ancestry n ts none = rw none refl

below : (n : ℕ) → 0 < n → level n ≡ record { unary = unary_in (level (n - 1)); ancestry = ancestry_in (level (n - 1)) }
unfolding level
below zero some = absurd (omega arith)
below (suc n) some = let e : suc n - 1 ≡ n = omega arith in rw e refl

-- what opens a level is read with one level less
pub unary_below : (n : ℕ) (ts : List Token) → 0 < n → (level n).unary ts ≡ unary_in (level (n - 1)) ts
unary_below n ts some = ap (λ (l : Level). l.unary ts) (below n some)

pub ancestry_below : (n : ℕ) (ts : List Token) → 0 < n → (level n).ancestry ts ≡ ancestry_in (level (n - 1)) ts
ancestry_below n ts some = ap (λ (l : Level). l.ancestry ts) (below n some)

-- the names that were gathered, before those of the lists that follow
abbrev pub all_onto : List (List ℕ) → Result (List (List (List ℕ)) × List Token) Fault → Result (List (List ℕ) × List Token) Fault
all_onto before r = r >>= λ p. Ok (before ++ flat_map (λ names. names) p.0, p.1)

abbrev pub lists_onto : List (List ℕ) → List Token → Result (List (List ℕ) × List Token) Fault
lists_onto before ts = all_onto before (each_after open_bracket names_at ts)

pub lists_begin : (ts : List Token) → lists_onto [] ts ≡ lists_at ts
unfolding lists_at
lists_begin ts = refl

abbrev put : List (List ℕ) → Result (List (List (List ℕ)) × List Token) Fault → Result (List (List (List ℕ)) × List Token) Fault
put names r = r >>= λ q. Ok (names ∷ q.0, q.1)

gathered : (before names : List (List ℕ)) (r : Result (List (List (List ℕ)) × List Token) Fault) → all_onto before (put names r) ≡ all_onto (before ++ names) r
gathered before names (Ok p) = ap (λ (ns : List (List ℕ)). Ok (ns, p.1)) (sym (append_assoc before names (flat_map (λ names. names) p.0)))
gathered before names (Err f) = refl

pub lists_go_on : (before names : List (List ℕ)) (ts rest more : List Token) → taken open_bracket ts ≡ (true, rest) → names_at rest ≡ Ok (names, more) → lists_onto before ts ≡ lists_onto (before ++ names) more
lists_go_on before names ts rest more is reads =
    ap (all_onto before) (each_goes_on open_bracket names_at names_leaves ts rest more names is reads) ∙ gathered before names (each_after open_bracket names_at more)

pub lists_end : (before : List (List ℕ)) (ts rest : List Token) → taken open_bracket ts ≡ (false, rest) → lists_onto before ts ≡ Ok (before ++ [], rest)
lists_end before ts rest is = ap (all_onto before) (each_stops open_bracket names_at ts rest is)

pub lists_fail : (before : List (List ℕ)) (ts rest : List Token) (o : Option Fault) → taken open_bracket ts ≡ (true, rest) → EndsWith o (names_at rest) → EndsWith o (lists_onto before ts)
lists_fail before ts rest o is h = ends_bind o (each_after open_bracket names_at ts) (λ p. Ok (before ++ flat_map (λ names. names) p.0, p.1)) (each_fails open_bracket names_at ts rest o is h)
