-- Where more levels may be opened the machine goes on as it does where fewer may, and also where a level too many was opened.
use Rattle.std.proofs.Common.{◌≡◌, ℕ, zero, suc, ◌<◌, Bool, true, false, cond, eqb, List, [], ◌∷◌, Some, None, refl, ap, ◌∙◌, subst, arith}
use Rattle.laws.specs.Characters.{exclamation_mark, ampersand, open_parenthesis, close_parenthesis, asterisk, comma, colon, greater_than_sign, open_bracket, close_bracket, vertical_bar}
use Rattle.literature.specs.Tokens.{Token, Name, Sign}
use Rattle.literature_grammar.proofs.Machine.{Place, operand, named, lists, before_name, after_name, Context, context, State, Answer, goes, deep, refused, opens, if_sign, closes, after_alternatives, after_ancestry, after_multi, after_unary, after_primary, inside, at_operand, at_named, at_list_end, at_comma, step, gone, reached}
use Rattle.literature_grammar.proofs.Unknown.{some_is}

-- the same place, with fewer levels on the left
abbrev Lower : Place → Place → Type 0
Lower (operand u) (operand v) = u < v
Lower (named u) (named v) = u < v
Lower lists lists = Unit {0}
Lower before_name before_name = Unit {0}
Lower after_name after_name = Unit {0}
Lower p q = ⊥

abbrev LowerOuter : List (ℕ × ℕ) → List (ℕ × ℕ) → Type 0
LowerOuter [] [] = Unit {0}
LowerOuter [] (p ∷ ps) = ⊥
LowerOuter (o ∷ os) [] = ⊥
LowerOuter (o ∷ os) (p ∷ ps) = (o.0 < p.0) × (o.1 < p.1) × LowerOuter os ps

pub record LowerContext (x y : Context) : Type 0 where
  pub ancestry : x.ancestry < y.ancestry
  pub alternatives : x.alternatives < y.alternatives
  pub outer : LowerOuter x.outer y.outer

pub record LowerState (p : Place) (x : Context) (q : Place) (y : Context) : Type 0 where
  pub place : Lower p q
  pub context : LowerContext x y

-- it goes on, to a place with more levels
pub record Follows (p : Place) (x : Context) (r : Answer) : Type 0 where
  pub place : Place
  pub around : Context
  pub is : r ≡ goes place around
  pub lower : LowerState p x place around

-- it goes on
abbrev pub GoesSomewhere : Answer → Type 0
GoesSomewhere r = (q : Place) × (y : Context) × (r ≡ goes q y)

-- what a token does where fewer levels may be opened, and where more may
abbrev pub Less : Answer → Answer → Type 0
Less (goes p x) r = Follows p x r
Less deep r = GoesSomewhere r
Less refused r = r ≡ refused

less-goes : (p q : Place) (x y : Context) → Lower p q → LowerContext x y → Less (goes p x) (goes q y)
less-goes p q x y place around = record { place = q; around = y; is = refl; lower = record { place = place; context = around } }

less-sign : (sign : ℕ) (t : Token) (a b c d : Answer) → Less a b → Less c d → Less (if_sign sign t a c) (if_sign sign t b d)
less-sign sign (Name n) a b c d here other = other
less-sign sign (Sign k) a b c d here other = by_test (eqb k sign)
  where
    by_test : (test : Bool) → Less (cond test a c) (cond test b d)
    by_test true = here
    by_test false = other

less-opens : (u v : ℕ) (f g : ℕ → Answer) → u < v → ((m n : ℕ) → m < n → Less (f m) (g n)) → ((n : ℕ) → GoesSomewhere (g n)) → Less (opens u f) (opens v g)
less-opens zero zero f g lower next goes_on = absurd (omega arith)
less-opens zero (suc v) f g lower next goes_on = goes_on v
less-opens (suc u) zero f g lower next goes_on = absurd (omega arith)
less-opens (suc u) (suc v) f g lower next goes_on = next u v (omega arith)

made : (a k b l : ℕ) (os ps : List (ℕ × ℕ)) → a < b → k < l → LowerOuter os ps → LowerContext (context a k os) (context b l ps)
made a k b l os ps ancestry alternatives outer = record { ancestry = ancestry; alternatives = alternatives; outer = outer }

less-closes : (os ps : List (ℕ × ℕ)) → LowerOuter os ps → Less (closes os) (closes ps)
less-closes [] [] lower = refl
less-closes [] (p ∷ ps) lower = absurd lower
less-closes (o ∷ os) [] lower = absurd lower
less-closes (o ∷ os) (p ∷ ps) lower = less-goes lists lists (context o.0 o.1 os) (context p.0 p.1 ps) tt (made o.0 o.1 p.0 p.1 os ps lower.0 lower.1 lower.2)

module _ (x y : Context) (lower : LowerContext x y) (t : Token) where
  less-alternatives : Less (after_alternatives x.outer t) (after_alternatives y.outer t)
  less-alternatives = less-sign close_parenthesis t (closes x.outer) (closes y.outer) refused refused (less-closes x.outer y.outer lower.outer) refl

  less-ancestry : Less (after_ancestry x.alternatives x.outer t) (after_ancestry y.alternatives y.outer t)
  less-ancestry =
      less-sign vertical_bar t (goes (operand x.alternatives) (context x.alternatives x.alternatives x.outer)) (goes (operand y.alternatives) (context y.alternatives y.alternatives y.outer)) (after_alternatives x.outer t) (after_alternatives y.outer t)
      (less-goes (operand x.alternatives) (operand y.alternatives) (context x.alternatives x.alternatives x.outer) (context y.alternatives y.alternatives y.outer) lower.alternatives (made x.alternatives x.alternatives y.alternatives y.alternatives x.outer y.outer lower.alternatives lower.alternatives lower.outer))
      less-alternatives

  less-multi : Less (after_multi x t) (after_multi y t)
  less-multi =
      less-sign greater_than_sign t (opens x.ancestry (λ a. goes (operand a) (context a x.alternatives x.outer))) (opens y.ancestry (λ a. goes (operand a) (context a y.alternatives y.outer))) (after_ancestry x.alternatives x.outer t) (after_ancestry y.alternatives y.outer t)
      (less-opens x.ancestry y.ancestry (λ a. goes (operand a) (context a x.alternatives x.outer)) (λ a. goes (operand a) (context a y.alternatives y.outer)) lower.ancestry
      (λ m n less. less-goes (operand m) (operand n) (context m x.alternatives x.outer) (context n y.alternatives y.outer) less (made m x.alternatives n y.alternatives x.outer y.outer less lower.alternatives lower.outer))
      (λ n. (operand n, context n y.alternatives y.outer, refl)))
      less-ancestry

  less-unary : Less (after_unary x t) (after_unary y t)
  less-unary =
      less-sign ampersand t (goes (operand x.ancestry) x) (goes (operand y.ancestry) y) (after_multi x t) (after_multi y t) (less-goes (operand x.ancestry) (operand y.ancestry) x y lower.ancestry lower) less-multi

  less-primary : Less (after_primary x t) (after_primary y t)
  less-primary = less-sign open_bracket t (goes before_name x) (goes before_name y) (after_unary x t) (after_unary y t) (less-goes before_name before_name x y tt lower) less-unary

  less-opened : (u v : ℕ) → u < v → Less (opens u (λ w. goes (operand w) x)) (opens v (λ w. goes (operand w) y))
  less-opened u v less = less-opens u v (λ w. goes (operand w) x) (λ w. goes (operand w) y) less (λ m n fewer. less-goes (operand m) (operand n) x y fewer lower) (λ n. (operand n, y, refl))

  less-inside : (u v : ℕ) → u < v → Less (inside u x) (inside v y)
  less-inside u v less =
      less-opens u v (λ w. goes (operand w) (context w w ((x.ancestry, x.alternatives) ∷ x.outer))) (λ w. goes (operand w) (context w w ((y.ancestry, y.alternatives) ∷ y.outer))) less
      (λ m n fewer. less-goes (operand m) (operand n) (context m m ((x.ancestry, x.alternatives) ∷ x.outer)) (context n n ((y.ancestry, y.alternatives) ∷ y.outer)) fewer
      (made m m n n ((x.ancestry, x.alternatives) ∷ x.outer) ((y.ancestry, y.alternatives) ∷ y.outer) fewer fewer (lower.ancestry, lower.alternatives, lower.outer)))
      (λ n. (operand n, context n n ((y.ancestry, y.alternatives) ∷ y.outer), refl))

  less-named : (u v : ℕ) → u < v → Less (at_named u x t) (at_named v y t)
  less-named u v less = less-sign colon t (opens u (λ w. goes (operand w) x)) (opens v (λ w. goes (operand w) y)) (after_primary x t) (after_primary y t) (less-opened u v less) less-primary

  less-comma : Less (at_comma x t) (at_comma y t)
  less-comma =
      less-sign comma t (goes before_name x) (goes before_name y) (at_list_end x t) (at_list_end y t) (less-goes before_name before_name x y tt lower)
      (less-sign close_bracket t (goes lists x) (goes lists y) refused refused (less-goes lists lists x y tt lower) refl)

less-operand : (x y : Context) → LowerContext x y → (u v : ℕ) → u < v → (t : Token) → Less (at_operand u x t) (at_operand v y t)
less-operand x y lower u v less (Name n) = less-goes (named u) (named v) x y less lower
less-operand x y lower u v less (Sign c) = by_tests (eqb c exclamation_mark) (eqb c asterisk) (eqb c open_bracket) (eqb c open_parenthesis)
  where
    by_tests : (negates star list round : Bool)
        → Less (cond negates (opens u (λ w. goes (operand w) x)) (cond star (goes lists x) (cond list (goes before_name x) (cond round (inside u x) refused))))
        (cond negates (opens v (λ w. goes (operand w) y)) (cond star (goes lists y) (cond list (goes before_name y) (cond round (inside v y) refused))))
    by_tests true star list round = less-opened x y lower (Sign c) u v less
    by_tests false true list round = less-goes lists lists x y tt lower
    by_tests false false true round = less-goes before_name before_name x y tt lower
    by_tests false false false true = less-inside x y lower (Sign c) u v less
    by_tests false false false false = refl

less-name : (x y : Context) → LowerContext x y → (t : Token) → Less (step before_name x t) (step before_name y t)
less-name x y lower (Name n) = less-goes after_name after_name x y tt lower
less-name x y lower (Sign c) = refl

pub less-step : (p q : Place) (x y : Context) → Lower p q → LowerContext x y → (t : Token) → Less (step p x t) (step q y t)
less-step (operand u) (operand v) x y less lower t = less-operand x y lower u v less t
less-step (named u) (named v) x y less lower t = less-named x y lower t u v less
less-step lists lists x y less lower t = less-primary x y lower t
less-step before_name before_name x y less lower t = less-name x y lower t
less-step after_name after_name x y less lower t = less-comma x y lower t
less-step p q x y less lower t = absurd less

-- tokens that lead to a place lead to it where more levels may be opened
pub record Above (s : State) (q : Place) (y : Context) (ts : List Token) : Type 0 where
  pub state : State
  pub there : reached q y ts ≡ Some state
  pub lower : LowerState s.0 s.1 state.0 state.1

pub reached-above : (ts : List Token) (p q : Place) (x y : Context) (s : State) → LowerState p x q y → reached p x ts ≡ Some s → Above s q y ts
reached-above [] p q x y s lower e = subst (λ (r : State). Above r q y []) (some_is (p, x) s e) (record { state = (q, y); there = refl; lower = lower })
reached-above (t ∷ ts) p q x y s lower e = by_step (step p x t) (less-step p q x y lower.place lower.context t) (λ p2 q2 x2 y2 l. reached-above ts p2 q2 x2 y2 s l) e
  where
    by_step : (r : Answer) → Less r (step q y t) → ((p2 q2 : Place) (x2 y2 : Context) → LowerState p2 x2 q2 y2 → reached p2 x2 ts ≡ Some s → Above s q2 y2 ts) → gone r None (λ q y. reached q y ts) ≡ Some s
        → Above s q y (t ∷ ts)
    by_step (goes p2 x2) f more d =
        let a = more p2 f.place x2 f.around f.lower d in
        record { state = a.state; there = ap (λ (r : Answer). gone r None (λ q y. reached q y ts)) f.is ∙ a.there; lower = a.lower }
    by_step deep f more d = absurd cc
    by_step refused f more d = absurd cc

-- at the first token
pub start-lower : (u v : ℕ) → u < v → LowerState (operand u) (context u u []) (operand v) (context v v [])
start-lower u v less = record { place = less; context = made u u v v [] [] less less tt }
