-- Through what the grammar relates the machine goes.
use Rattle.std.proofs.Common.{◌≡◌, ℕ, zero, suc, Bool, true, cond, List, [], ◌∷◌, map, refl, sym, ap, ◌∙◌, inl, inr}
use Rattle.laws.specs.Characters.{ampersand, close_parenthesis, comma, colon, open_bracket, vertical_bar}
use Rattle.literature.specs.Tokens.{Token, Name, Sign}
use Rattle.literature.specs.Trees.{Tree, one_or_alternatives, one_or_multi}
use Rattle.literature.specs.Grammar.{Bars, AreAfter, IsName, AreNames, AreLists, AreParted, IsUnaryWith, IsAboveWith, IsAncestryWith, within}
use Rattle.literature_grammar.specs.Refusals.{with_type, IsExpressionIn}
use Rattle.literature_grammar.proofs.Machine.{Place, operand, named, lists, before_name, after_name, Context, context, Answer, goes, opens, after_primary, inside, step, accepts, then_accepts, start}

-- ---- lists

commas-again : (x : Context) (ns : List (List ℕ)) (ts rest : List Token) → AreAfter comma IsName ts ns rest → accepts after_name x ts ≡ accepts after_name x rest
commas-again x [] ts rest (e, bars) = ap (accepts after_name x) e
commas-again x (n ∷ ns) ts rest (a, b, e, is, more) = ap (accepts after_name x) e ∙ (ap (accepts before_name x) is ∙ commas-again x ns b rest more)

names-again : (x : Context) (ns : List (List ℕ)) (ts rest : List Token) → AreNames ts ns rest → accepts before_name x ts ≡ accepts lists x rest
names-again x [] ts rest is = absurd is
names-again x (n ∷ ns) ts rest (a, b, is, more, end) = ap (accepts before_name x) is ∙ (commas-again x ns a b more ∙ ap (accepts after_name x) end)

brackets-again : (x : Context) (ls : List (List (List ℕ))) (ts rest : List Token) → AreAfter open_bracket AreNames ts ls rest → accepts lists x ts ≡ accepts lists x rest
brackets-again x [] ts rest (e, bars) = ap (accepts lists x) e
brackets-again x (ns ∷ ls) ts rest (a, b, e, are, more) = ap (accepts lists x) e ∙ (names-again x ns a b are ∙ brackets-again x ls b rest more)

lists-again : (x : Context) (names : List (List ℕ)) (ts rest : List Token) → AreLists ts names rest → accepts lists x ts ≡ accepts lists x rest
lists-again x names ts rest (ls, are, is) = brackets-again x ls ts rest are

-- ---- levels

abbrev UnaryAgain : ℕ → Type 0
UnaryAgain u = (ts rest : List Token) (y : Tree) (x : Context) → IsUnaryWith (within u) ts y rest → accepts (operand u) x ts ≡ accepts lists x rest

-- after an ancestry fewer levels may be opened for parents
abbrev LeavesAncestry : Place → Context → List Token → ℕ → List (ℕ × ℕ) → List Token → Type 0
LeavesAncestry p x ts k outer rest = (a : ℕ) × (accepts p x ts ≡ accepts lists (context a k outer) rest)

abbrev AncestryAgain : ℕ → Type 0
AncestryAgain u = (ts rest : List Token) (y : Tree) (k : ℕ) (outer : List (ℕ × ℕ)) → IsAncestryWith (within u) ts y rest → LeavesAncestry (operand u) (context u k outer) ts k outer rest

pub record AgainAt (u : ℕ) : Type 0 where
  pub unary : UnaryAgain u
  pub ancestry : AncestryAgain u

abbrev Before : ℕ → Type 0
Before zero = Unit {0}
Before (suc v) = AgainAt v

bars-again : (v : ℕ) → AncestryAgain v → (outer : List (ℕ × ℕ)) (xs : List Tree) (a : ℕ) (ts rest : List Token) → AreAfter vertical_bar (IsAncestryWith (within v)) ts xs rest
    → LeavesAncestry lists (context a v outer) ts v outer rest
bars-again v again outer [] a ts rest (e, bars) = (a, ap (accepts lists (context a v outer)) e)
bars-again v again outer (x ∷ xs) a ts rest (b, c, e, is, more) =
    let one = again b c x v outer is in
    let others = bars-again v again outer xs one.0 c rest more in
    (others.0, ap (accepts lists (context a v outer)) e ∙ (one.1 ∙ others.1))

pub alternatives-again : (v : ℕ) → AncestryAgain v → (outer : List (ℕ × ℕ)) (y : Tree) (ts rest : List Token) → AreParted vertical_bar one_or_alternatives (IsAncestryWith (within v)) ts y rest
    → LeavesAncestry (operand v) (context v v outer) ts v outer rest
alternatives-again v again outer y ts rest (x, xs, a, first, others, is) =
    let one = again ts a x v outer first in
    let more = bars-again v again outer xs one.0 a rest others in
    (more.0, one.1 ∙ more.1)

opened-unary : (u : ℕ) → Before u → (ts rest : List Token) (y : Tree) (x : Context) → (within u).IsUnary ts y rest → then_accepts (opens u (λ v. goes (operand v) x)) ts ≡ accepts lists x rest
opened-unary zero b ts rest y x is = absurd is
opened-unary (suc v) b ts rest y x is = b.unary ts rest y x is

opened-ancestry : (u : ℕ) → Before u → (ts rest : List Token) (y : Tree) (k : ℕ) (outer : List (ℕ × ℕ)) → (within u).IsAncestry ts y rest
    → (e : ℕ) × (then_accepts (opens u (λ a. goes (operand a) (context a k outer))) ts ≡ accepts lists (context e k outer) rest)
opened-ancestry zero b ts rest y k outer is = absurd is
opened-ancestry (suc v) b ts rest y k outer is = b.ancestry ts rest y k outer is

round-again : (u : ℕ) → Before u → (ts rest : List Token) (y : Tree) (x : Context) → AreParted vertical_bar one_or_alternatives (within u).IsAncestry ts y (Sign close_parenthesis ∷ rest)
    → then_accepts (inside u x) ts ≡ accepts lists x rest
round-again zero b ts rest y x (z, zs, a, first, others, is) = absurd first
round-again (suc v) b ts rest y x are = (alternatives-again v b.ancestry ((x.ancestry, x.alternatives) ∷ x.outer) y ts (Sign close_parenthesis ∷ rest) are).1

-- before no colon a name is as a primary
colon-barred : (u : ℕ) (x : Context) (ts : List Token) → Bars colon ts → accepts (named u) x ts ≡ accepts lists x ts
colon-barred u x [] bars = refl
colon-barred u x (Name n ∷ ts) bars = refl
colon-barred u x (Sign c ∷ ts) bars = ap (λ (b : Bool). then_accepts (cond b (opens u (λ v. goes (operand v) x)) (after_primary x (Sign c))) ts) bars

unary-again : (u : ℕ) → Before u → UnaryAgain u
unary-again u b ts rest y x (inl (a, z, e, is, same)) = ap (accepts (operand u) x) e ∙ opened-unary u b a rest z x is
unary-again u b ts rest y x (inr (inl (n, a, z, e, is, same))) = ap (accepts (operand u) x) e ∙ opened-unary u b a rest z x is
unary-again u b ts rest y x (inr (inr (z, a, names, inl (e, any), are, same))) = ap (accepts (operand u) x) e ∙ lists-again x names a rest are
unary-again u b ts rest y x (inr (inr (z, a, names, inr (inl (n, t, e, bars, called, entry)), are, same))) =
    ap (accepts (operand u) x) e ∙ (colon-barred u x a bars ∙ lists-again x names a rest are)
unary-again u b ts rest y x (inr (inr (z, a, names, inr (inr (inl (c, e, inside))), are, same))) =
    ap (accepts (operand u) x) e ∙ (round-again u b c a z x inside ∙ lists-again x names a rest are)
unary-again u b ts rest y x (inr (inr (z, a, names, inr (inr (inr (c, e, left_out, any))), are, same))) =
    ap (accepts (operand u) x) e ∙ (ap (accepts lists x) (sym e ∙ left_out) ∙ lists-again x names a rest are)

ands-again : (u : ℕ) → UnaryAgain u → (k : ℕ) (outer : List (ℕ × ℕ)) (xs : List Tree) (ts rest : List Token) → AreAfter ampersand (IsUnaryWith (within u)) ts xs rest
    → accepts lists (context u k outer) ts ≡ accepts lists (context u k outer) rest
ands-again u again k outer [] ts rest (e, bars) = ap (accepts lists (context u k outer)) e
ands-again u again k outer (x ∷ xs) ts rest (a, b, e, is, more) =
    ap (accepts lists (context u k outer)) e ∙ (again a b x (context u k outer) is ∙ ands-again u again k outer xs b rest more)

multi-again : (u : ℕ) → UnaryAgain u → (k : ℕ) (outer : List (ℕ × ℕ)) (y : Tree) (ts rest : List Token) → AreParted ampersand one_or_multi (IsUnaryWith (within u)) ts y rest
    → accepts (operand u) (context u k outer) ts ≡ accepts lists (context u k outer) rest
multi-again u again k outer y ts rest (x, xs, a, first, others, is) = again ts a x (context u k outer) first ∙ ands-again u again k outer xs a rest others

above-again : (u : ℕ) → Before u → (k : ℕ) (outer : List (ℕ × ℕ)) (x y : Tree) (ts rest : List Token) → IsAboveWith (within u) x ts y rest → LeavesAncestry lists (context u k outer) ts k outer rest
above-again u b k outer x y ts rest (inl (a, z, e, is, same)) =
    let parents = opened-ancestry u b a rest z k outer is in
    (parents.0, ap (accepts lists (context u k outer)) e ∙ parents.1)
above-again u b k outer x y ts rest (inr (bars, same, is)) = (u, ap (accepts lists (context u k outer)) same)

at-again : (u : ℕ) → Before u → AgainAt u
at-again u b = record { unary = unary-again u b; ancestry = ancestry }
  where
    ancestry : AncestryAgain u
    ancestry ts rest y k outer (x, a, multi, above) =
        let parents = above-again u b k outer x y a rest above in
        (parents.0, multi-again u (unary-again u b) k outer x ts a multi ∙ parents.1)

each-again : (u : ℕ) → AgainAt u
each-again zero = at-again zero tt
each-again (suc v) = at-again (suc v) (each-again v)

-- ---- whatever the names are

typed-step : (p : Place) (x : Context) (t : Token) → step p x (with_type t) ≡ step p x t
typed-step (operand u) x (Name n) = refl
typed-step (named u) x (Name n) = refl
typed-step lists x (Name n) = refl
typed-step before_name x (Name n) = refl
typed-step after_name x (Name n) = refl
typed-step p x (Sign c) = refl

typed-again : (ts : List Token) (p : Place) (x : Context) → accepts p x (map with_type ts) ≡ accepts p x ts
typed-again [] p x = refl
typed-again (t ∷ ts) p x = ap (λ (r : Answer). then_accepts r (map with_type ts)) (typed-step p x t) ∙ by_step (step p x t) (λ q y. typed-again ts q y)
  where
    by_step : (r : Answer) → ((q : Place) (y : Context) → accepts q y (map with_type ts) ≡ accepts q y ts) → then_accepts r (map with_type ts) ≡ then_accepts r ts
    by_step (goes q y) more = more q y
    by_step Answer.deep more = refl
    by_step Answer.refused more = refl

pub expression-accepted : (u : ℕ) (ts : List Token) → IsExpressionIn (suc u) ts → accepts (operand u) (start u) ts ≡ true
expression-accepted u ts (x, are) = sym (typed-again ts (operand u) (start u)) ∙ (alternatives-again u (each-again u).ancestry [] x (map with_type ts) [] are).1
