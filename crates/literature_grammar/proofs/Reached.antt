-- Where the machine is after the beginning of a list of tokens, and where it stops.
use Rattle.std.proofs.Common.{◌≡◌, ℕ, suc, true, false, true≢false, List, [], ◌∷◌, ◌++◌, Option, Some, None, Ok, Err, refl, sym, ap, ◌∙◌}
use Rattle.laws.specs.Characters.{asterisk, close_bracket, close_parenthesis}
use Rattle.literature.specs.Tokens.{Token, Name, Sign}
use Rattle.literature.specs.Reading.{Fault}
use Rattle.literature_grammar.specs.Refusals.{Begins}
use Rattle.literature_grammar.proofs.Machine.{Place, operand, named, lists, before_name, after_name, Context, context, State, Answer, goes, deep, refused, missing, step, gone, accepts, reached, Verdict, ended, continued, verdict, start}
use Rattle.literature_grammar.proofs.Unknown.{some_is}
use Rattle.literature_grammar.proofs.Again.{expression-accepted}
use Rattle.literature_grammar.proofs.Takes.{accepted-expression}

-- ---- after the beginning of the tokens

-- what is said of tokens is said of those that follow the first, where the machine goes on
abbrev pub GoesOn : {A : Type 0} → (Place → Context → List Token → A) → Type 0
GoesOn {A} says = (p : Place) (x : Context) (t : Token) (ts : List Token) (q : Place) (y : Context) → step p x t ≡ goes q y → says p x (t ∷ ts) ≡ says q y ts

-- after a beginning it says of the tokens what it says of the rest
pub on : {A : Type 0} (says : Place → Context → List Token → A) → GoesOn says → (front : List Token) (p : Place) (x : Context) (s : State) (rest : List Token) → reached p x front ≡ Some s
    → says p x (front ++ rest) ≡ says s.0 s.1 rest
on says goes_on [] p x s rest e = ap (λ (s : State). says s.0 s.1 rest) (some_is (p, x) s e)
on {A} says goes_on (t ∷ front) p x s rest e = by_step (step p x t) refl (λ q y. on says goes_on front q y s rest) e
  where
    by_step : (r : Answer) → step p x t ≡ r → ((q : Place) (y : Context) → reached q y front ≡ Some s → says q y (front ++ rest) ≡ says s.0 s.1 rest) → gone r None (λ q y. reached q y front) ≡ Some s
        → says p x (t ∷ front ++ rest) ≡ says s.0 s.1 rest
    by_step (goes q y) is more d = goes_on p x t (front ++ rest) q y is ∙ more q y d
    by_step deep is more d = absurd cc
    by_step refused is more d = absurd cc

accepts-goes_on : GoesOn accepts
accepts-goes_on p x t ts q y is = ap (λ (r : Answer). gone r false (λ q y. accepts q y ts)) is

reached-goes_on : GoesOn reached
reached-goes_on p x t ts q y is = ap (λ (r : Answer). gone r None (λ q y. reached q y ts)) is

verdict-goes_on : GoesOn verdict
verdict-goes_on p x t ts q y is = ap (λ (r : Answer). continued r (missing p x) (λ q y. verdict q y ts)) is

pub accepts-on : (front : List Token) (p : Place) (x : Context) (s : State) (rest : List Token) → reached p x front ≡ Some s → accepts p x (front ++ rest) ≡ accepts s.0 s.1 rest
accepts-on = on accepts accepts-goes_on

pub reached-on : (front : List Token) (p : Place) (x : Context) (s : State) (rest : List Token) → reached p x front ≡ Some s → reached p x (front ++ rest) ≡ reached s.0 s.1 rest
reached-on = on reached reached-goes_on

pub verdict-on : (front : List Token) (p : Place) (x : Context) (s : State) (rest : List Token) → reached p x front ≡ Some s → verdict p x (front ++ rest) ≡ verdict s.0 s.1 rest
verdict-on = on verdict verdict-goes_on

-- through the tokens of an expression the machine goes, and through each beginning of what it goes through
accepted-there : (ts : List Token) (p : Place) (x : Context) → accepts p x ts ≡ true → (s : State) × (reached p x ts ≡ Some s)
accepted-there [] p x e = ((p, x), refl)
accepted-there (t ∷ ts) p x e = by_step (step p x t) (λ q y. accepted-there ts q y) e
  where
    by_step : (r : Answer) → ((q : Place) (y : Context) → accepts q y ts ≡ true → (s : State) × (reached q y ts ≡ Some s)) → gone r false (λ q y. accepts q y ts) ≡ true
        → (s : State) × (gone r None (λ q y. reached q y ts) ≡ Some s)
    by_step (goes q y) more d = more q y d
    by_step deep more d = absurd (true≢false (sym d))
    by_step refused more d = absurd (true≢false (sym d))

pub front-there : (front : List Token) (p : Place) (x : Context) (rest : List Token) (s : State) → reached p x (front ++ rest) ≡ Some s → (r : State) × (reached p x front ≡ Some r)
front-there [] p x rest s e = ((p, x), refl)
front-there (t ∷ front) p x rest s e = by_step (step p x t) (λ q y. front-there front q y rest s) e
  where
    by_step : (r : Answer) → ((q : Place) (y : Context) → reached q y (front ++ rest) ≡ Some s → (r : State) × (reached q y front ≡ Some r)) → gone r None (λ q y. reached q y (front ++ rest)) ≡ Some s
        → (u : State) × (gone r None (λ q y. reached q y front) ≡ Some u)
    by_step (goes q y) more d = more q y d
    by_step deep more d = absurd cc
    by_step refused more d = absurd cc

-- ---- from each place some tokens lead to the end

-- a parenthesis closes for each that is open
abbrev closing : List (ℕ × ℕ) → List Token
closing [] = []
closing (o ∷ outer) = Sign close_parenthesis ∷ closing outer

closes_all : (a k : ℕ) (outer : List (ℕ × ℕ)) → accepts lists (context a k outer) (closing outer) ≡ true
closes_all a k [] = refl
closes_all a k (o ∷ outer) = closes_all o.0 o.1 outer

word-closes_all : (u a k : ℕ) (outer : List (ℕ × ℕ)) → accepts (named u) (context a k outer) (closing outer) ≡ true
word-closes_all u a k [] = refl
word-closes_all u a k (o ∷ outer) = closes_all o.0 o.1 outer

completes : (p : Place) (x : Context) → (more : List Token) × (accepts p x more ≡ true)
completes (operand u) x = (Sign asterisk ∷ closing x.outer, closes_all x.ancestry x.alternatives x.outer)
completes (named u) x = (closing x.outer, word-closes_all u x.ancestry x.alternatives x.outer)
completes lists x = (closing x.outer, closes_all x.ancestry x.alternatives x.outer)
completes before_name x = (Name [] ∷ Sign close_bracket ∷ closing x.outer, closes_all x.ancestry x.alternatives x.outer)
completes after_name x = (Sign close_bracket ∷ closing x.outer, closes_all x.ancestry x.alternatives x.outer)

-- so it goes through each list of tokens that begins an expression, and through no other
pub begins-there : (u : ℕ) (front : List Token) → Begins (suc u) front → (s : State) × (reached (operand u) (start u) front ≡ Some s)
begins-there u front (more, is) =
    let whole = accepted-there (front ++ more) (operand u) (start u) (expression-accepted u (front ++ more) is) in
    front-there front (operand u) (start u) more whole.0 whole.1

pub there-begins : (u : ℕ) (front : List Token) (s : State) → reached (operand u) (start u) front ≡ Some s → Begins (suc u) front
there-begins u front s there =
    let end = completes s.0 s.1 in
    (end.0, accepted-expression u (front ++ end.0) (accepts-on front (operand u) (start u) s end.0 there ∙ end.1))

-- ---- where it stops

-- something is missing where the tokens end, or a token does not go on
abbrev pub Stops : State → List Token → Fault → Type 0
Stops s [] f = missing s.0 s.1 ≡ Some f
Stops s (t ∷ more) f = continued (step s.0 s.1 t) (missing s.0 s.1) (λ q y. Ok tt) ≡ Err f

pub record Halted (p : Place) (x : Context) (ts : List Token) (f : Fault) : Type 0 where
  pub front : List Token
  pub rest : List Token
  pub state : State
  pub parts : ts ≡ front ++ rest
  pub there : reached p x front ≡ Some state
  pub stops : Stops state rest f

abbrev pub refusal : Fault → Verdict
refusal f = Err f

pub refusal_is : (f g : Fault) → refusal f ≡ refusal g → f ≡ g
refusal_is f g e = cc

pub ended-is : (o : Option Fault) (f : Fault) → ended o ≡ Err f → o ≡ Some f
ended-is None f e = absurd cc
ended-is (Some g) f e = ap (λ (h : Fault). Some h) (refusal_is g f e)

pub halted : (ts : List Token) (p : Place) (x : Context) (f : Fault) → verdict p x ts ≡ Err f → Halted p x ts f
halted [] p x f e = record { front = []; rest = []; state = (p, x); parts = refl; there = refl; stops = ended-is (missing p x) f e }
halted (t ∷ ts) p x f e = by_step (step p x t) refl (λ q y. halted ts q y f) e
  where
    here : (r : Answer) → step p x t ≡ r → continued r (missing p x) (λ q y. Ok tt) ≡ Err f → Halted p x (t ∷ ts) f
    here r is stops =
        record { front = []; rest = t ∷ ts; state = (p, x); parts = refl; there = refl; stops = ap (λ (r : Answer). continued r (missing p x) (λ q y. Ok tt)) is ∙ stops }

    by_step : (r : Answer) → step p x t ≡ r → ((q : Place) (y : Context) → verdict q y ts ≡ Err f → Halted q y ts f) → continued r (missing p x) (λ q y. verdict q y ts) ≡ Err f → Halted p x (t ∷ ts) f
    by_step (goes q y) is more d =
        let h = more q y d in
        record { front = t ∷ h.front; rest = h.rest; state = h.state; parts = ap (λ (us : List Token). t ∷ us) h.parts; there = ap (λ (r : Answer). gone r None (λ q y. reached q y h.front)) is ∙ h.there; stops = h.stops }
    by_step deep is more d = here deep is d
    by_step refused is more d = here refused is d
