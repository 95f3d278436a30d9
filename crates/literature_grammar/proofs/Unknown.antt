-- The first name that stands for a type and is that of none, as the machine finds it.
use Rattle.std.proofs.Common.{◌≡◌, ℕ, Bool, true, false, cond, eqb, List, [], ◌∷◌, ◌++◌, Option, Some, None, refl, sym, ap, ◌∙◌, subst}
use Rattle.laws.specs.Characters.{colon}
use Rattle.literature_values.specs.EntryTypes.{type_called}
use Rattle.literature_values.specs.declared.entry_type.EntryType.{EntryType}
use Rattle.literature.specs.Tokens.{Token, Name, Sign}
use Rattle.literature.specs.Reading.{taken}
use Rattle.literature.specs.Grammar.{Bars}
use Rattle.literature_grammar.proofs.Machine.{Place, operand, named, lists, before_name, after_name, Context, State, Answer, goes, deep, refused, missing, step, gone, reached, continued, verdict}
use Rattle.literature_grammar.proofs.Same.{no_type, no_type_unless, unknown_here, checked, judged}

-- the first of two that is there
abbrev pub or_later : Option (List ℕ) → Option (List ℕ) → Option (List ℕ)
or_later None later = later
or_later (Some n) later = Some n

abbrev pub unknown : Place → Context → List Token → Option (List ℕ)
unknown p x [] = None
unknown p x (t ∷ ts) = or_later (unknown_here p t ts) (gone (step p x t) None (λ q y. unknown q y ts))

-- with a look at names the machine says the first of them that is unknown, else what it says without
pub judged-is : (ts : List Token) (p : Place) (x : Context) → judged p x ts ≡ checked (unknown p x ts) (verdict p x ts)
judged-is [] p x = refl
judged-is (t ∷ ts) p x = by_name (unknown_here p t ts) (step p x t) (λ q y. judged-is ts q y)
  where
    by_name : (o : Option (List ℕ)) (r : Answer) → ((q : Place) (y : Context) → judged q y ts ≡ checked (unknown q y ts) (verdict q y ts))
        → checked o (continued r (missing p x) (λ q y. judged q y ts)) ≡ checked (or_later o (gone r None (λ q y. unknown q y ts))) (continued r (missing p x) (λ q y. verdict q y ts))
    by_name (Some n) r more = refl
    by_name None (goes q y) more = more q y
    by_name None deep more = refl
    by_name None refused more = refl

pub some_is : {X : Type 0} (x y : X) → Some x ≡ Some y → x ≡ y
some_is x y e = cc

pub some_is_none : {X : Type 0} (x : X) → Some x ≡ None → ⊥
some_is_none x e = cc

-- ---- one name

barred : (ts : List Token) → (taken colon ts).0 ≡ false → Bars colon ts
barred [] e = tt
barred (Name n ∷ ts) e = tt
barred (Sign c ∷ ts) e = by_test (eqb c colon) refl e
  where
    by_test : (b : Bool) → eqb c colon ≡ b → (cond {A = Bool × List Token} b (true, ts) (false, Sign c ∷ ts)).0 ≡ false → eqb c colon ≡ false
    by_test true is other = absurd cc
    by_test false is other = is

bars-taken : (ts : List Token) → Bars colon ts → (taken colon ts).0 ≡ false
bars-taken [] bars = refl
bars-taken (Name n ∷ ts) bars = refl
bars-taken (Sign c ∷ ts) bars = ap (λ (b : Bool). (cond {A = Bool × List Token} b (true, ts) (false, Sign c ∷ ts)).0) bars

-- at an operand a name that is found there stands for a type and is that of none
record Names (p : Place) (t : Token) (ts : List Token) (n : List ℕ) : Type 0 where
  left : ℕ
  place : p ≡ operand left
  token : t ≡ Name n
  bars : Bars colon ts
  none : type_called n ≡ None

no_type-is : {X : Type 0} (m n : List ℕ) (o : Option X) → no_type m o ≡ Some n → (m ≡ n) × (o ≡ None)
no_type-is m n None e = (some_is m n e, refl)
no_type-is m n (Some t) e = absurd cc

unless-is : (m n : List ℕ) (b : Bool) → no_type_unless m b ≡ Some n → (b ≡ false) × (m ≡ n) × (type_called m ≡ None)
unless-is m n true e = absurd cc
unless-is m n false e =
    let both = no_type-is m n (type_called m) e in
    (refl, both.0, both.1)

names-here : (p : Place) (t : Token) (ts : List Token) (n : List ℕ) → unknown_here p t ts ≡ Some n → Names p t ts n
names-here (operand u) (Name m) ts n e =
    let is = unless-is m n (taken colon ts).0 e in
    record { left = u; place = refl; token = ap (λ (k : List ℕ). Name k) is.1; bars = barred ts is.0; none = ap (λ (k : List ℕ). type_called k) (sym is.1) ∙ is.2 }
names-here (operand u) (Sign c) ts n e = absurd cc
names-here (named u) t ts n e = absurd cc
names-here lists t ts n e = absurd cc
names-here before_name t ts n e = absurd cc
names-here after_name t ts n e = absurd cc

here-names : (u : ℕ) (n : List ℕ) (ts : List Token) → Bars colon ts → type_called n ≡ None → unknown_here (operand u) (Name n) ts ≡ Some n
here-names u n ts bars none = ap (no_type_unless n) (bars-taken ts bars) ∙ ap (λ (o : Option EntryType). no_type n o) none

-- what follows a token changes nothing but whether a colon does
same-first : (p : Place) (t next : Token) (ts us : List Token) → unknown_here p t (next ∷ ts) ≡ unknown_here p t (next ∷ us)
same-first (operand u) (Name n) next ts us = ap (no_type_unless n) (by_token next)
  where
    by_token : (t : Token) → (taken colon (t ∷ ts)).0 ≡ (taken colon (t ∷ us)).0
    by_token (Name m) = refl
    by_token (Sign c) = by_test (eqb c colon)
      where
        by_test : (b : Bool) → (cond {A = Bool × List Token} b (true, ts) (false, Sign c ∷ ts)).0 ≡ (cond {A = Bool × List Token} b (true, us) (false, Sign c ∷ us)).0
        by_test true = refl
        by_test false = refl
same-first (operand u) (Sign c) next ts us = refl
same-first (named u) t next ts us = refl
same-first lists t next ts us = refl
same-first before_name t next ts us = refl
same-first after_name t next ts us = refl

-- ---- the first of all

abbrev IsOperand : Place → Type 0
IsOperand (operand u) = Unit {0}
IsOperand (named u) = ⊥
IsOperand lists = ⊥
IsOperand before_name = ⊥
IsOperand after_name = ⊥

-- tokens lead to an operand
pub record LeadsTo (p : Place) (x : Context) (front : List Token) : Type 0 where
  pub left : ℕ
  pub around : Context
  pub leads : reached p x front ≡ Some (operand left, around)

-- directly before an operand no name is unknown, since a name leads to none
before-operand : (p : Place) (x : Context) (t : Token) (ts : List Token) (s : State) → IsOperand s.0 → gone (step p x t) None (λ q y. reached q y []) ≡ Some s → unknown_here p t ts ≡ None
before-operand (operand u) x (Name n) ts s is e = absurd (subst (λ (r : State). IsOperand r.0) (sym (some_is (named u, x) s e)) is)
before-operand (operand u) x (Sign c) ts s is e = refl
before-operand (named u) x t ts s is e = refl
before-operand lists x t ts s is e = refl
before-operand before_name x t ts s is e = refl
before-operand after_name x t ts s is e = refl

-- before an operand the same names are unknown, whatever follows it
same-here : (p : Place) (x : Context) (t : Token) (front rest : List Token) (s : State) → IsOperand s.0 → gone (step p x t) None (λ q y. reached q y front) ≡ Some s → unknown_here p t (front ++ rest) ≡ unknown_here p t front
same-here p x t [] rest s is e = before-operand p x t rest s is e ∙ sym (before-operand p x t [] s is e)
same-here p x t (next ∷ front) rest s is e = same-first p t next (front ++ rest) front

abbrev later : Place → Context → Answer → List Token → Option (List ℕ)
later p x r ts = gone r None (λ q y. unknown q y ts)

-- the names before an operand, and then those from it on
pub unknown-on : (front : List Token) (p : Place) (x : Context) (s : State) (rest : List Token) → IsOperand s.0 → reached p x front ≡ Some s → unknown p x (front ++ rest) ≡ or_later (unknown p x front) (unknown s.0 s.1 rest)
unknown-on [] p x s rest is e = ap (λ (s : State). unknown s.0 s.1 rest) (some_is (p, x) s e)
unknown-on (t ∷ front) p x s rest is e =
    ap (λ (o : Option (List ℕ)). or_later o (later p x (step p x t) (front ++ rest))) (same-here p x t front rest s is e)
    ∙ by_step (unknown_here p t front) (step p x t) (λ q y. unknown-on front q y s rest is) e
  where
    by_step : (o : Option (List ℕ)) (r : Answer) → ((q : Place) (y : Context) → reached q y front ≡ Some s → unknown q y (front ++ rest) ≡ or_later (unknown q y front) (unknown s.0 s.1 rest))
        → gone r None (λ q y. reached q y front) ≡ Some s → or_later o (later p x r (front ++ rest)) ≡ or_later (or_later o (later p x r front)) (unknown s.0 s.1 rest)
    by_step (Some n) r more d = refl
    by_step None (goes q y) more d = more q y d
    by_step None deep more d = absurd cc
    by_step None refused more d = absurd cc

-- where a name is found
pub record Found (p : Place) (x : Context) (ts : List Token) (n : List ℕ) : Type 0 where
  pub front : List Token
  pub rest : List Token
  pub parts : ts ≡ front ++ Name n ∷ rest
  pub there : LeadsTo p x front
  pub bars : Bars colon rest
  pub none : type_called n ≡ None
  pub earlier : unknown p x front ≡ None

pub found : (ts : List Token) (p : Place) (x : Context) (n : List ℕ) → unknown p x ts ≡ Some n → Found p x ts n
found [] p x n e = absurd cc
found (t ∷ ts) p x n e = by_step (unknown_here p t ts) (step p x t) refl refl (λ q y. found ts q y n) e
  where
    by_step : (o : Option (List ℕ)) (r : Answer) → unknown_here p t ts ≡ o → step p x t ≡ r → ((q : Place) (y : Context) → unknown q y ts ≡ Some n → Found q y ts n)
        → or_later o (later p x r ts) ≡ Some n → Found p x (t ∷ ts) n
    by_step (Some m) r here is more d =
        let names = names-here p t ts n (here ∙ d) in
        record { front = []; rest = ts; parts = ap (λ (u : Token). u ∷ ts) names.token; there = record { left = names.left; around = x; leads = ap (λ (q : Place). Some (q, x)) names.place }; bars = names.bars; none = names.none; earlier = refl }
    by_step None (goes q y) here is more d =
        let f = more q y d in
        let there : reached p x (t ∷ f.front) ≡ Some (operand f.there.left, f.there.around) = ap (λ (r : Answer). gone r None (λ q y. reached q y f.front)) is ∙ f.there.leads in
        let fine : unknown_here p t f.front ≡ None =
        sym (same-here p x t f.front (Name n ∷ f.rest) (operand f.there.left, f.there.around) tt there) ∙ (ap (unknown_here p t) (sym f.parts) ∙ here) in
        let before : unknown p x (t ∷ f.front) ≡ None =
        ap (λ (o : Option (List ℕ)). or_later o (later p x (step p x t) f.front)) fine ∙ (ap (λ (r : Answer). later p x r f.front) is ∙ f.earlier) in
        record { front = t ∷ f.front; rest = f.rest; parts = ap (λ (us : List Token). t ∷ us) f.parts; there = record { left = f.there.left; around = f.there.around; leads = there }; bars = f.bars; none = f.none; earlier = before }
    by_step None deep here is more d = absurd cc
    by_step None refused here is more d = absurd cc

-- a name that is found at an operand
pub unknown-at : (p : Place) (x : Context) (front rest : List Token) (n : List ℕ) → LeadsTo p x front → Bars colon rest → type_called n ≡ None
    → unknown p x (front ++ Name n ∷ rest) ≡ or_later (unknown p x front) (Some n)
unknown-at p x front rest n there bars none =
    unknown-on front p x (operand there.left, there.around) (Name n ∷ rest) tt there.leads
    ∙ ap (λ (o : Option (List ℕ)). or_later (unknown p x front) (or_later o (unknown (named there.left) there.around rest))) (here-names there.left n rest bars none)

or_later-filled : (o : Option (List ℕ)) (n : List ℕ) → or_later o (Some n) ≡ None → ⊥
or_later-filled None n e = some_is_none n e
or_later-filled (Some m) n e = some_is_none m e

-- where none is found there is none
pub none-found : (p : Place) (x : Context) (ts front rest : List Token) (n : List ℕ) → unknown p x ts ≡ None → ts ≡ front ++ Name n ∷ rest → LeadsTo p x front → Bars colon rest → type_called n ≡ None → ⊥
none-found p x ts front rest n known parts there bars none =
    or_later-filled (unknown p x front) n (sym (unknown-at p x front rest n there bars none) ∙ (ap (unknown p x) (sym parts) ∙ known))
