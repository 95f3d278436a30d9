-- The machine, with a look at each name that stands for a type, says of tokens what the reader gives.
use Rattle.std.proofs.Common.{◌≡◌, ℕ, zero, suc, ◌<◌, Bool, true, false, cond, eqb, List, [], ◌∷◌, length, Option, Some, None, Result, Ok, Err, refl, sym, ap, ◌∙◌, arith}
use Rattle.std.specs.Prelude.{IfOk}
use Rattle.std.specs.List.{flat_map}
use Rattle.laws.specs.Characters.{ampersand, close_parenthesis, comma, colon, greater_than_sign, open_bracket, close_bracket, vertical_bar}
use Rattle.laws.specs.Results.{◌>>=◌}
use Rattle.laws.proofs.Results.{bind_bind}
use Rattle.literature_values.specs.EntryTypes.{type_called}
use Rattle.literature_values.specs.declared.entry_type.EntryType.{EntryType}
use Rattle.literature.specs.Tokens.{Token, Name, Sign}
use Rattle.literature.specs.Trees.{Tree, Any, Entry, Not, Binding, Ancestry, one_or_alternatives, one_or_multi, with_attributes}
use Rattle.literature.specs.Reading.{Fault, MissingValue, MissingComma, UnbalancedParens, UnknownEntryType, Reading, taken, one_more, each_below, each_after, name_at, list_end, names_at, lists_at, listed_at, parted, alternatives_of, multi_of, Level, typed, named, closed, parenthesised, unary_in, above, ancestry_in, level}
use Rattle.literature.proofs.ReadingRepeats.{Leaves, AtMost, taken_less, name_leaves, put}
use Rattle.literature.proofs.ReadingLevels.{names_leaves, level_leaves, unary_leaves, ancestry_leaves}
use Rattle.literature_grammar.proofs.Machine.{Place, operand, lists, before_name, after_name, Context, context, Answer, goes, opens, if_sign, after_alternatives, after_ancestry, after_multi, after_unary, after_primary, inside, at_list_end, unclosed, missing, step, Verdict, ended, continued, start}
use Rattle.literature_grammar.proofs.Machine.{named as after_word}

-- ---- names that stand for types

-- the name, where it is that of no type
abbrev pub no_type : {X : Type 0} → List ℕ → Option X → Option (List ℕ)
no_type n None = Some n
no_type n (Some t) = None

-- a name before a colon is bound
abbrev pub no_type_unless : List ℕ → Bool → Option (List ℕ)
no_type_unless n true = None
no_type_unless n false = no_type n (type_called n)

-- the token, where it is a name that stands for a type and is that of none
abbrev pub unknown_here : Place → Token → List Token → Option (List ℕ)
unknown_here (operand u) (Name n) ts = no_type_unless n (taken colon ts).0
unknown_here (operand u) (Sign c) ts = None
unknown_here (after_word u) t ts = None
unknown_here lists t ts = None
unknown_here before_name t ts = None
unknown_here after_name t ts = None

abbrev pub checked : Option (List ℕ) → Verdict → Verdict
checked None v = v
checked (Some n) v = Err (UnknownEntryType n)

abbrev pub judged : Place → Context → List Token → Verdict
judged p x [] = ended (missing p x)
judged p x (t ∷ ts) = checked (unknown_here p t ts) (continued (step p x t) (missing p x) (λ q y. judged q y ts))

-- ---- steps one after the other

then_same : {A B : Type 0} (r : Result A Fault) (f : A → Result B Fault) (g : B → Verdict) (h : A → Verdict) → ((a : A) → h a ≡ (f a >>= g)) → (r >>= h) ≡ ((r >>= f) >>= g)
then_same (Ok a) f g h same = same a
then_same (Err e) f g h same = refl

-- what follows where a sign was taken, and where it was not
abbrev split : Bool × List Token → (List Token → Verdict) → (List Token → Verdict) → Verdict
split (true, ts) stood other = stood ts
split (false, ts) stood other = other ts

split-same : (p : Bool × List Token) (stood also other : List Token → Verdict) → ((ts : List Token) → stood ts ≡ also ts) → split p stood other ≡ split p also other
split-same (true, ts) stood also other same = same ts
split-same (false, ts) stood also other same = refl

-- what is said from a token on that answers decide
abbrev afterwards : (Token → Answer) → Option Fault → List Token → Verdict
afterwards answers lack [] = ended lack
afterwards answers lack (t ∷ ts) = continued (answers t) lack (λ q y. judged q y ts)

abbrev then_judged : Answer → Option Fault → List Token → Verdict
then_judged answer lack ts = continued answer lack (λ q y. judged q y ts)

by_sign : (sign : ℕ) (answer : Answer) (answers : Token → Answer) (lack : Option Fault) (ts : List Token)
    → afterwards (λ t. if_sign sign t answer (answers t)) lack ts ≡ split (taken sign ts) (then_judged answer lack) (afterwards answers lack)
by_sign sign answer answers lack [] = refl
by_sign sign answer answers lack (Name n ∷ ts) = refl
by_sign sign answer answers lack (Sign c ∷ ts) = by_test (eqb c sign)
  where
    by_test : (b : Bool) → then_judged (cond b answer (answers (Sign c))) lack ts ≡ split (cond {A = Bool × List Token} b (true, ts) (false, Sign c ∷ ts)) (then_judged answer lack) (afterwards answers lack)
    by_test true = refl
    by_test false = refl

-- ---- what is read as often as a sign stands

each_below-same : {X : Type 0} (n sign : ℕ) (read : Reading X) (whole done : List Token → Verdict) → Leaves read
    → ((ts : List Token) → whole ts ≡ split (taken sign ts) (λ rest. read rest >>= λ p. whole p.1) done) → (ts : List Token) → length ts < n → whole ts ≡ (each_below n sign read ts >>= λ q. done q.1)
unfolding each_below
each_below-same zero sign read whole done fine same ts few = absurd (omega arith)
each_below-same {X} (suc n) sign read whole done fine same ts few =
    same ts ∙ by_taken (taken sign ts) refl (λ rest fewer. each_below-same n sign read whole done fine same rest fewer)
  where
    More : Type 0
    More = (rest : List Token) → length rest < n → whole rest ≡ (each_below n sign read rest >>= λ q. done q.1)

    by_read : (k : ℕ) → k < n → (r : Result (X × List Token) Fault) → IfOk r (AtMost k) → More
        → (r >>= λ p. whole p.1) ≡ ((r >>= λ p. put p.0 (each_below n sign read p.1)) >>= λ q. done q.1)
    by_read k less (Err f) h more = refl
    by_read k less (Ok p) h more =
        more p.1 (omega arith) ∙ sym (bind_bind (each_below n sign read p.1) (λ q. Ok (p.0 ∷ q.0, q.1)) (λ (q : List X × List Token). done q.1))

    by_taken : (p : Bool × List Token) → taken sign ts ≡ p → More
        → split p (λ rest. read rest >>= λ p. whole p.1) done ≡ (one_more read (each_below n sign read) p >>= λ q. done q.1)
    by_taken (false, rest) is more = refl
    by_taken (true, rest) is more = by_read (length rest) (omega (arith, taken_less sign ts rest is)) (read rest) (fine rest) more

each-same : {X : Type 0} (sign : ℕ) (read : Reading X) (whole done : List Token → Verdict) → Leaves read
    → ((ts : List Token) → whole ts ≡ split (taken sign ts) (λ rest. read rest >>= λ p. whole p.1) done) → (ts : List Token) → whole ts ≡ (each_after sign read ts >>= λ q. done q.1)
unfolding each_after
each-same sign read whole done fine same ts = each_below-same (suc (length ts)) sign read whole done fine same ts (omega arith)

parted-same : (sign : ℕ) (join : Tree → List Tree → Tree) (read : Reading Tree) (whole done : List Token → Verdict)
    → ((ts : List Token) → whole ts ≡ (each_after sign read ts >>= λ q. done q.1)) → (ts : List Token) → (read ts >>= λ p. whole p.1) ≡ (parted sign join read ts >>= λ p. done p.1)
unfolding parted
parted-same sign join read whole done same ts =
    then_same (read ts) (λ first. each_after sign read first.1 >>= λ others. Ok (join first.0 others.0, others.1)) (λ p. done p.1) (λ p. whole p.1)
    (λ p. same p.1 ∙ then_same (each_after sign read p.1) (λ others. Ok (join p.0 others.0, others.1)) (λ p. done p.1) (λ q. done q.1) (λ q. refl))

-- ---- lists

name-same : (x : Context) (ts : List Token) → judged before_name x ts ≡ (name_at ts >>= λ p. judged after_name x p.1)
name-same x [] = refl
name-same x (Name n ∷ ts) = refl
name-same x (Sign c ∷ ts) = refl

-- names, and what follows their list
abbrev ended_list : List (List ℕ) → Result (List Token) Fault → Result (List (List ℕ) × List Token) Fault
ended_list names r = r >>= λ rest. Ok (names, rest)

list_end-same : (x : Context) (names : List (List ℕ)) (p : Bool × List Token)
    → split p (judged lists x) (afterwards (λ t. Answer.refused) (Some MissingComma)) ≡ (ended_list names (list_end p) >>= λ q. judged lists x q.1)
list_end-same x names (true, ts) = refl
list_end-same x names (false, []) = refl
list_end-same x names (false, t ∷ ts) = refl

after_name-is : (x : Context) (ts : List Token) → judged after_name x ts ≡ split (taken comma ts) (judged before_name x) (afterwards (at_list_end x) (Some MissingComma))
after_name-is x [] = refl
after_name-is x (t ∷ ts) = by_sign comma (goes before_name x) (at_list_end x) (Some MissingComma) (t ∷ ts)

commas-same : (x : Context) (ts : List Token) → judged after_name x ts ≡ (each_after comma name_at ts >>= λ q. afterwards (at_list_end x) (Some MissingComma) q.1)
commas-same x ts =
    each-same comma name_at (judged after_name x) (afterwards (at_list_end x) (Some MissingComma)) name_leaves
    (λ us. after_name-is x us ∙ split-same (taken comma us) (judged before_name x) (λ rest. name_at rest >>= λ p. judged after_name x p.1) (afterwards (at_list_end x) (Some MissingComma)) (name-same x)) ts

names-same : (x : Context) (ts : List Token) → judged before_name x ts ≡ (names_at ts >>= λ p. judged lists x p.1)
unfolding names_at
names-same x ts =
    name-same x ts
    ∙ then_same (name_at ts) (λ first. each_after comma name_at first.1 >>= λ others. list_end (taken close_bracket others.1) >>= λ rest. Ok (first.0 ∷ others.0, rest)) (λ p. judged lists x p.1) (λ p. judged after_name x p.1)
    (λ p.
    commas-same x p.1
    ∙ then_same (each_after comma name_at p.1) (λ others. list_end (taken close_bracket others.1) >>= λ rest. Ok (p.0 ∷ others.0, rest)) (λ p. judged lists x p.1) (λ q. afterwards (at_list_end x) (Some MissingComma) q.1)
    (λ q. by_sign close_bracket (goes lists x) (λ t. Answer.refused) (Some MissingComma) q.1 ∙ list_end-same x (p.0 ∷ q.0) (taken close_bracket q.1)))

-- what is said after the lists of a primary
abbrev unary_done : Context → List Token → Verdict
unary_done x ts = afterwards (after_unary x) (unclosed x.outer) ts

lists-is : (x : Context) (ts : List Token) → judged lists x ts ≡ afterwards (after_primary x) (unclosed x.outer) ts
lists-is x [] = refl
lists-is x (t ∷ ts) = refl

lists-same : (x : Context) (ts : List Token) → judged lists x ts ≡ (lists_at ts >>= λ p. unary_done x p.1)
unfolding lists_at
lists-same x ts =
    each-same open_bracket names_at (judged lists x) (unary_done x) names_leaves
    (λ us.
    lists-is x us
    ∙ (by_sign open_bracket (goes before_name x) (after_unary x) (unclosed x.outer) us
    ∙ split-same (taken open_bracket us) (judged before_name x) (λ rest. names_at rest >>= λ p. judged lists x p.1) (unary_done x) (names-same x))) ts
    ∙ then_same (each_after open_bracket names_at ts) (λ l. Ok (flat_map (λ names. names) l.0, l.1)) (λ p. unary_done x p.1) (λ q. unary_done x q.1) (λ q. refl)

listed-same : (y : Tree) (x : Context) (ts : List Token) → judged lists x ts ≡ (listed_at y ts >>= λ p. unary_done x p.1)
unfolding listed_at
listed-same y x ts = lists-same x ts ∙ then_same (lists_at ts) (λ names. Ok (with_attributes y names.0, names.1)) (λ p. unary_done x p.1) (λ p. unary_done x p.1) (λ p. refl)

-- ---- unary expressions

-- what a token that opens a level says is what is read one level further in
record Inner (u : ℕ) (inner : Level) : Type 0 where
  unary : (x : Context) (lack : Option Fault) (ts : List Token) → then_judged (opens u (λ v. goes (operand v) x)) lack ts ≡ (inner.unary ts >>= λ p. unary_done x p.1)
  round : (x : Context) (lack : Option Fault) (ts : List Token) → then_judged (inside u x) lack ts ≡ (parenthesised inner ts >>= λ p. unary_done x p.1)

named-same : (u : ℕ) (inner : Level) → Inner u inner → (x : Context) (n : List ℕ) (ts : List Token) → judged (operand u) x (Name n ∷ ts) ≡ (named inner n (taken colon ts) >>= λ p. unary_done x p.1)
named-same u inner i x n ts = ap (checked (no_type_unless n (taken colon ts).0)) (after_word-is ts) ∙ by_colon (taken colon ts)
  where
    after_word-is : (us : List Token) → judged (after_word u) x us ≡ split (taken colon us) (then_judged (opens u (λ v. goes (operand v) x)) (unclosed x.outer)) (afterwards (after_primary x) (unclosed x.outer))
    after_word-is [] = refl
    after_word-is (t ∷ us) = by_sign colon (opens u (λ v. goes (operand v) x)) (after_primary x) (unclosed x.outer) (t ∷ us)

    by_type : (o : Option EntryType) (us : List Token) → checked (no_type n o) (afterwards (after_primary x) (unclosed x.outer) us) ≡ (typed n o us >>= λ p. unary_done x p.1)
    by_type None us = refl
    by_type (Some t) us = sym (lists-is x us) ∙ listed-same (Entry t) x us

    by_colon : (p : Bool × List Token)
        → checked (no_type_unless n p.0) (split p (then_judged (opens u (λ v. goes (operand v) x)) (unclosed x.outer)) (afterwards (after_primary x) (unclosed x.outer))) ≡ (named inner n p >>= λ q. unary_done x q.1)
    by_colon (true, us) = i.unary x (unclosed x.outer) us ∙ then_same (inner.unary us) (λ p. Ok (Binding n p.0, p.1)) (λ q. unary_done x q.1) (λ p. unary_done x p.1) (λ p. refl)
    by_colon (false, us) = by_type (type_called n) us

unary-same : (u : ℕ) (inner : Level) → Inner u inner → (x : Context) (ts : List Token) → judged (operand u) x ts ≡ (unary_in inner ts >>= λ p. unary_done x p.1)
unfolding unary_in
unary-same u inner i x [] = refl
unary-same u inner i x (Name n ∷ ts) = named-same u inner i x n ts
unary-same u inner i x (Sign c ∷ ts) = by_tests (eqb c 33) (eqb c 42) (eqb c 91) (eqb c 40) refl
  where
    alone : eqb c 91 ≡ true → judged before_name x ts ≡ (listed_at Any (Sign c ∷ ts) >>= λ p. unary_done x p.1)
    alone is = sym (ap (λ (b : Bool). then_judged (cond b (goes before_name x) (after_unary x (Sign c))) (unclosed x.outer) ts) is) ∙ listed-same Any x (Sign c ∷ ts)

    by_tests : (negates star list round : Bool) → eqb c 91 ≡ list
        → then_judged (cond negates (opens u (λ v. goes (operand v) x)) (cond star (goes lists x) (cond list (goes before_name x) (cond round (inside u x) Answer.refused)))) (Some MissingValue) ts
        ≡ (cond negates (inner.unary ts >>= λ p. Ok (Not p.0, p.1)) (cond star (listed_at Any ts) (cond list (listed_at Any (Sign c ∷ ts)) (cond round (parenthesised inner ts) (Err MissingValue)))) >>= λ p. unary_done x p.1)
    by_tests true star list round is = i.unary x (Some MissingValue) ts ∙ then_same (inner.unary ts) (λ p. Ok (Not p.0, p.1)) (λ p. unary_done x p.1) (λ p. unary_done x p.1) (λ p. refl)
    by_tests false true list round is = listed-same Any x ts
    by_tests false false true round is = alone is
    by_tests false false false true is = i.round x (Some MissingValue) ts
    by_tests false false false false is = refl

-- ---- ancestries and alternatives

abbrev ancestry_done : ℕ → List (ℕ × ℕ) → List Token → Verdict
ancestry_done k outer ts = afterwards (after_ancestry k outer) (unclosed outer) ts

abbrev alternatives_done : List (ℕ × ℕ) → List Token → Verdict
alternatives_done outer ts = afterwards (after_alternatives outer) (unclosed outer) ts

record SameAt (u : ℕ) : Type 0 where
  unary : (x : Context) (ts : List Token) → judged (operand u) x ts ≡ (unary_in (level u) ts >>= λ p. unary_done x p.1)
  ancestry : (k : ℕ) (outer : List (ℕ × ℕ)) (ts : List Token) → judged (operand u) (context u k outer) ts ≡ (ancestry_in (level u) ts >>= λ p. ancestry_done k outer p.1)

alternatives-same : (v : ℕ) → SameAt v → (outer : List (ℕ × ℕ)) (ts : List Token)
    → judged (operand v) (context v v outer) ts ≡ (alternatives_of (ancestry_in (level v)) ts >>= λ p. alternatives_done outer p.1)
alternatives-same v s outer ts =
    s.ancestry v outer ts
    ∙ parted-same vertical_bar one_or_alternatives (ancestry_in (level v)) (ancestry_done v outer) (alternatives_done outer)
    (each-same vertical_bar (ancestry_in (level v)) (ancestry_done v outer) (alternatives_done outer) (ancestry_leaves (level v) (level_leaves v))
    (λ us.
    by_sign vertical_bar (goes (operand v) (context v v outer)) (after_alternatives outer) (unclosed outer) us
    ∙ split-same (taken vertical_bar us) (judged (operand v) (context v v outer)) (λ rest. ancestry_in (level v) rest >>= λ p. ancestry_done v outer p.1) (alternatives_done outer) (s.ancestry v outer))) ts

closed-same : (y : Tree) (x : Context) (p : Bool × List Token) → split p (judged lists x) (afterwards (λ t. Answer.refused) (Some UnbalancedParens)) ≡ (closed y p >>= λ q. unary_done x q.1)
closed-same y x (true, ts) = listed-same y x ts
closed-same y x (false, []) = refl
closed-same y x (false, t ∷ ts) = refl

round-same : (v : ℕ) → SameAt v → (x : Context) (ts : List Token)
    → judged (operand v) (context v v ((x.ancestry, x.alternatives) ∷ x.outer)) ts ≡ ((alternatives_of (ancestry_in (level v)) ts >>= λ within. closed within.0 (taken close_parenthesis within.1)) >>= λ p. unary_done x p.1)
round-same v s x ts =
    let outer : List (ℕ × ℕ) = (x.ancestry, x.alternatives) ∷ x.outer in
    alternatives-same v s outer ts
    ∙ then_same (alternatives_of (ancestry_in (level v)) ts) (λ within. closed within.0 (taken close_parenthesis within.1)) (λ p. unary_done x p.1) (λ p. alternatives_done outer p.1)
    (λ p. by_sign close_parenthesis (goes lists x) (λ t. Answer.refused) (Some UnbalancedParens) p.1 ∙ closed-same p.0 x (taken close_parenthesis p.1))

abbrev Before : ℕ → Type 0
Before zero = Unit {0}
Before (suc v) = SameAt v

inner-same : (u : ℕ) → Before u → Inner u (level u)
unfolding level parenthesised parted
inner-same zero b = record { unary = λ x lack ts. refl; round = λ x lack ts. refl }
inner-same (suc v) s = record { unary = λ x lack ts. s.unary x ts; round = λ x lack ts. round-same v s x ts }

opened-same : (u : ℕ) → Before u → (k : ℕ) (outer : List (ℕ × ℕ)) (lack : Option Fault) (ts : List Token)
    → then_judged (opens u (λ a. goes (operand a) (context a k outer))) lack ts ≡ ((level u).ancestry ts >>= λ p. ancestry_done k outer p.1)
unfolding level
opened-same zero b k outer lack ts = refl
opened-same (suc v) s k outer lack ts = s.ancestry k outer ts

abbrev multi_done : Context → List Token → Verdict
multi_done x ts = afterwards (after_multi x) (unclosed x.outer) ts

above-same : (u : ℕ) → Before u → (k : ℕ) (outer : List (ℕ × ℕ)) (y : Tree) (ts : List Token)
    → multi_done (context u k outer) ts ≡ (above (level u) y (taken greater_than_sign ts) >>= λ p. ancestry_done k outer p.1)
above-same u b k outer y ts =
    by_sign greater_than_sign (opens u (λ a. goes (operand a) (context a k outer))) (after_ancestry k outer) (unclosed outer) ts ∙ by_taken (taken greater_than_sign ts)
  where
    by_taken : (p : Bool × List Token)
        → split p (then_judged (opens u (λ a. goes (operand a) (context a k outer))) (unclosed outer)) (ancestry_done k outer) ≡ (above (level u) y p >>= λ q. ancestry_done k outer q.1)
    by_taken (true, us) = opened-same u b k outer (unclosed outer) us ∙ then_same ((level u).ancestry us) (λ p. Ok (Ancestry y p.0, p.1)) (λ q. ancestry_done k outer q.1) (λ p. ancestry_done k outer p.1) (λ p. refl)
    by_taken (false, us) = refl

multi-same : (u : ℕ) → ((x : Context) (ts : List Token) → judged (operand u) x ts ≡ (unary_in (level u) ts >>= λ p. unary_done x p.1)) → (k : ℕ) (outer : List (ℕ × ℕ)) (ts : List Token)
    → judged (operand u) (context u k outer) ts ≡ (multi_of (unary_in (level u)) ts >>= λ p. multi_done (context u k outer) p.1)
multi-same u same k outer ts =
    let x : Context = context u k outer in
    same x ts
    ∙ parted-same ampersand one_or_multi (unary_in (level u)) (unary_done x) (multi_done x)
    (each-same ampersand (unary_in (level u)) (unary_done x) (multi_done x) (unary_leaves (level u) (level_leaves u))
    (λ us.
    by_sign ampersand (goes (operand u) x) (after_multi x) (unclosed outer) us
    ∙ split-same (taken ampersand us) (judged (operand u) x) (λ rest. unary_in (level u) rest >>= λ p. unary_done x p.1) (multi_done x) (same x))) ts

at-same : (u : ℕ) → Before u → SameAt u
unfolding ancestry_in
at-same u b = record { unary = unary; ancestry = ancestry }
  where
    unary : (x : Context) (ts : List Token) → judged (operand u) x ts ≡ (unary_in (level u) ts >>= λ p. unary_done x p.1)
    unary = unary-same u (level u) (inner-same u b)

    ancestry : (k : ℕ) (outer : List (ℕ × ℕ)) (ts : List Token) → judged (operand u) (context u k outer) ts ≡ (ancestry_in (level u) ts >>= λ p. ancestry_done k outer p.1)
    ancestry k outer ts =
        multi-same u unary k outer ts
        ∙ then_same (multi_of (unary_in (level u)) ts) (λ of. above (level u) of.0 (taken greater_than_sign of.1)) (λ p. ancestry_done k outer p.1) (λ p. multi_done (context u k outer) p.1) (λ p. above-same u b k outer p.0 p.1)

each-level : (u : ℕ) → SameAt u
each-level zero = at-same zero tt
each-level (suc v) = at-same (suc v) (each-level v)

-- what follows a whole expression is passed over
passed_over : (ts : List Token) → alternatives_done [] ts ≡ Ok tt
passed_over [] = refl
passed_over (Name n ∷ ts) = refl
passed_over (Sign c ∷ ts) = by_test (eqb c close_parenthesis)
  where
    by_test : (b : Bool) → then_judged (cond b Answer.refused Answer.refused) None ts ≡ Ok tt
    by_test true = refl
    by_test false = refl

pub judged-same : (u : ℕ) (ts : List Token) → judged (operand u) (start u) ts ≡ (alternatives_of (level (suc u)).ancestry ts >>= λ p. Ok tt)
unfolding level
judged-same u ts = alternatives-same u (each-level u) [] ts ∙ by_result (alternatives_of (ancestry_in (level u)) ts)
  where
    by_result : (r : Result (Tree × List Token) Fault) → (r >>= λ p. alternatives_done [] p.1) ≡ (r >>= λ p. Ok tt)
    by_result (Ok p) = passed_over p.1
    by_result (Err f) = refl
