-- The tokens of a text are those that the grammar relates to it, and so are its trees.
use Rattle.std.proofs.Common.{◌≡◌, ℕ, Bool, true, false, true≢false, cond, eqb, ◌||◌, List, [], ◌∷◌, ◌++◌, Option, Some, None, Ok, refl, sym, ap, ◌∙◌, subst}
use Rattle.std.proofs.lemmas.Bool.{eqb-true}
use Rattle.std.specs.Char.{is_whitespace}
use Rattle.laws.specs.Runs.{prefix_of, after}
use Rattle.laws.specs.Text.{is_filled}
use Rattle.laws.proofs.Results.{ok_is}
use Rattle.laws.proofs.Runs.{cuts, prefix-after, all-prefix, bars-after}
use Rattle.texts.specs.Character.{passes}
use Rattle.texts.specs.declared.character.Class.TheVariants.{Blank}
use Rattle.literature.specs.Tokens.{Token, Name, Sign, is_name_character, is_sign, token_here, token_at, tokens}
use Rattle.literature.specs.Trees.{Tree}
use Rattle.literature.specs.Reading.{Fault, selector_of}
use Rattle.literature.specs.Grammar.{IsExpression}
use Rattle.literature.proofs.Tokens.{tokens_none, tokens_some}
use Rattle.literature.proofs.GrammarAgain.{selector-again}
use Rattle.literature.proofs.GrammarTakes.{selector-takes}
use Rattle.literature_grammar.specs.Texts.{IsAfterBlanks, IsToken, BeginsNoToken, AreTokens, IsSpelled}

-- ---- one token

abbrev Found : Type 0
Found = Option (Token × List ℕ)

some_is : {X : Type 0} (x y : X) → Some x ≡ Some y → x ≡ y
some_is x y e = cc

some_is_none : {X : Type 0} (x : X) → Some x ≡ None → ⊥
some_is_none x e = cc

-- a sign is no character of a name
sign-is_no_name : (c : ℕ) → is_sign c ≡ true → is_name_character c ≡ false
sign-is_no_name c is =
    by_tests (eqb c 42) (eqb c 124) (eqb c 38) (eqb c 62) (eqb c 33) (eqb c 58) (eqb c 44) (eqb c 91) (eqb c 93) (eqb c 40) (eqb c 41) refl refl refl refl refl refl refl refl refl refl refl is
  where
    at : (k : ℕ) → is_name_character k ≡ false → eqb c k ≡ true → is_name_character c ≡ false
    at k other e = ap is_name_character (eqb-true c k e) ∙ other

    by_tests : (b1 b2 b3 b4 b5 b6 b7 b8 b9 b10 b11 : Bool) → eqb c 42 ≡ b1 → eqb c 124 ≡ b2 → eqb c 38 ≡ b3 → eqb c 62 ≡ b4 → eqb c 33 ≡ b5 → eqb c 58 ≡ b6 → eqb c 44 ≡ b7 → eqb c 91 ≡ b8 → eqb c 93 ≡ b9 → eqb c 40 ≡ b10 → eqb c 41 ≡ b11
        → b1 || b2 || b3 || b4 || b5 || b6 || b7 || b8 || b9 || b10 || b11 ≡ true → is_name_character c ≡ false
    by_tests true b2 b3 b4 b5 b6 b7 b8 b9 b10 b11 e1 e2 e3 e4 e5 e6 e7 e8 e9 e10 e11 e = at 42 refl e1
    by_tests false true b3 b4 b5 b6 b7 b8 b9 b10 b11 e1 e2 e3 e4 e5 e6 e7 e8 e9 e10 e11 e = at 124 refl e2
    by_tests false false true b4 b5 b6 b7 b8 b9 b10 b11 e1 e2 e3 e4 e5 e6 e7 e8 e9 e10 e11 e = at 38 refl e3
    by_tests false false false true b5 b6 b7 b8 b9 b10 b11 e1 e2 e3 e4 e5 e6 e7 e8 e9 e10 e11 e = at 62 refl e4
    by_tests false false false false true b6 b7 b8 b9 b10 b11 e1 e2 e3 e4 e5 e6 e7 e8 e9 e10 e11 e = at 33 refl e5
    by_tests false false false false false true b7 b8 b9 b10 b11 e1 e2 e3 e4 e5 e6 e7 e8 e9 e10 e11 e = at 58 refl e6
    by_tests false false false false false false true b8 b9 b10 b11 e1 e2 e3 e4 e5 e6 e7 e8 e9 e10 e11 e = at 44 refl e7
    by_tests false false false false false false false true b9 b10 b11 e1 e2 e3 e4 e5 e6 e7 e8 e9 e10 e11 e = at 91 refl e8
    by_tests false false false false false false false false true b10 b11 e1 e2 e3 e4 e5 e6 e7 e8 e9 e10 e11 e = at 93 refl e9
    by_tests false false false false false false false false false true b11 e1 e2 e3 e4 e5 e6 e7 e8 e9 e10 e11 e = at 40 refl e10
    by_tests false false false false false false false false false false true e1 e2 e3 e4 e5 e6 e7 e8 e9 e10 e11 e = at 41 refl e11
    by_tests false false false false false false false false false false false e1 e2 e3 e4 e5 e6 e7 e8 e9 e10 e11 e = absurd (true≢false (sym e))

-- the longest name that stands there
abbrev name_here : ℕ → List ℕ → Found
name_here c cs = Some (Name (prefix_of is_name_character (c ∷ cs)), after is_name_character (c ∷ cs))

token-again : (t : Token) (cs rest : List ℕ) → IsToken cs t rest → token_here cs ≡ Some (t, rest)
token-again (Name []) cs rest (e, all, bars, filled) = absurd (true≢false (sym filled))
token-again (Name (c ∷ n)) cs rest (e, all, bars, filled) =
    let cut = cuts is_name_character (c ∷ n) rest all bars in
    ap token_here e
    ∙ (ap (λ (b : Bool). cond {A = Found} b (name_here c (n ++ rest)) (cond {A = Found} (is_sign c) (Some (Sign c, n ++ rest)) None)) all.0
    ∙ (λ j. Some (Name (cut.prefix j), cut.after j)))
token-again (Sign c) cs rest (e, is) =
    ap token_here e
    ∙ (ap (λ (b : Bool). cond {A = Found} b (name_here c rest) (cond {A = Found} (is_sign c) (Some (Sign c, rest)) None)) (sign-is_no_name c is)
    ∙ ap (λ (b : Bool). cond {A = Found} b (Some (Sign c, rest)) None) is)

-- what stands there is a token, or none begins there
abbrev IsHere : List ℕ → Found → Type 0
IsHere cs None = BeginsNoToken cs
IsHere cs (Some p) = IsToken cs p.0 p.1

empty-begins_none : BeginsNoToken []
empty-begins_none t rest is = some_is_none (t, rest) (sym (token-again t [] rest is))

here : (cs : List ℕ) → IsHere cs (token_here cs)
here [] = empty-begins_none
here (c ∷ cs) = by_tests (is_name_character c) (is_sign c) refl refl
  where
    none : is_name_character c ≡ false → is_sign c ≡ false → token_here (c ∷ cs) ≡ None
    none other no_sign =
        ap (λ (b : Bool). cond {A = Found} b (name_here c cs) (cond {A = Found} (is_sign c) (Some (Sign c, cs)) None)) other
        ∙ ap (λ (b : Bool). cond {A = Found} b (Some (Sign c, cs)) None) no_sign

    by_tests : (b d : Bool) → is_name_character c ≡ b → is_sign c ≡ d
        → IsHere (c ∷ cs) (cond {A = Found} b (name_here c cs) (cond {A = Found} d (Some (Sign c, cs)) None))
    by_tests true d is e = (prefix-after is_name_character (c ∷ cs), all-prefix is_name_character (c ∷ cs), bars-after is_name_character (c ∷ cs), ap (λ (b : Bool). is_filled (cond b (c ∷ prefix_of is_name_character cs) [])) is)
    by_tests false true other is = (refl, is)
    by_tests false false other no_sign = λ t rest is. some_is_none (t, rest) (sym (token-again t (c ∷ cs) rest is) ∙ none other no_sign)

-- ---- tokens after white space

blanks-again : (cs a : List ℕ) → IsAfterBlanks cs a → after (passes Blank) cs ≡ a
unfolding passes
blanks-again cs a (blanks, e, all, bars) = ap (after is_whitespace) e ∙ (cuts is_whitespace blanks a all bars).after

blanks-take : (cs : List ℕ) → IsAfterBlanks cs (after (passes Blank) cs)
unfolding passes
blanks-take cs = (prefix_of is_whitespace cs, prefix-after is_whitespace cs, all-prefix is_whitespace cs, bars-after is_whitespace cs)

at-again : (cs a : List ℕ) → IsAfterBlanks cs a → token_at cs ≡ token_here a
unfolding token_at
at-again cs a after_blanks = ap token_here (blanks-again cs a after_blanks)

none-again : (cs : List ℕ) → BeginsNoToken cs → token_here cs ≡ None
none-again cs never = by_found (token_here cs) (here cs)
  where
    by_found : (o : Found) → IsHere cs o → o ≡ None
    by_found None h = refl
    by_found (Some p) h = absurd (never p.0 p.1 h)

pub tokens-again : (ts : List Token) (cs : List ℕ) → AreTokens cs ts → tokens cs ≡ ts
tokens-again [] cs (a, blanks, never) = tokens_none cs (at-again cs a blanks ∙ none-again a never)
tokens-again (t ∷ ts) cs (a, b, blanks, is, more) = tokens_some cs b t (at-again cs a blanks ∙ token-again t a b is) ∙ ap (λ (us : List Token). t ∷ us) (tokens-again ts b more)

head_is : (t u : Token) (ts us : List Token) → t ∷ ts ≡ u ∷ us → t ≡ u
head_is t u ts us e = cc

rest_is : (t u : Token) (ts us : List Token) → t ∷ ts ≡ u ∷ us → ts ≡ us
rest_is t u ts us e = cc

filled : (t : Token) (ts : List Token) → t ∷ ts ≡ [] → ⊥
filled t ts e = cc

-- what the reader finds first
at-is : (cs : List ℕ) (o : Found) → token_at cs ≡ o → IsHere (after (passes Blank) cs) o
unfolding token_at
at-is cs o e = subst (IsHere (after (passes Blank) cs)) e (here (after (passes Blank) cs))

tokens-of : (ts : List Token) (cs : List ℕ) → tokens cs ≡ ts → AreTokens cs ts
tokens-of [] cs e = by_found (token_at cs) refl
  where
    by_found : (o : Found) → token_at cs ≡ o → AreTokens cs []
    by_found None is = (after (passes Blank) cs, blanks-take cs, at-is cs None is)
    by_found (Some p) is = absurd (filled p.0 (tokens p.1) (sym (tokens_some cs p.1 p.0 is) ∙ e))
tokens-of (t ∷ ts) cs e = by_found (token_at cs) refl (λ b same. tokens-of ts b same)
  where
    by_found : (o : Found) → token_at cs ≡ o → ((b : List ℕ) → tokens b ≡ ts → AreTokens b ts) → AreTokens cs (t ∷ ts)
    by_found None is more = absurd (filled t ts (sym e ∙ tokens_none cs is))
    by_found (Some p) is more =
        let both : p.0 ∷ tokens p.1 ≡ t ∷ ts = sym (tokens_some cs p.1 p.0 is) ∙ e in
        let first : p.0 ≡ t = head_is p.0 t (tokens p.1) ts both in
        (after (passes Blank) cs, p.1, blanks-take cs, subst (λ u. IsToken (after (passes Blank) cs) u p.1) first (at-is cs (Some p) is), more p.1 (rest_is p.0 t (tokens p.1) ts both))

pub tokens-take : (cs : List ℕ) → AreTokens cs (tokens cs)
tokens-take cs = tokens-of (tokens cs) cs refl

-- ---- trees

pub read-spelled : (cs : List ℕ) (x : Tree) → selector_of cs ≡ Ok x → IsSpelled cs x
read-spelled cs x e =
    let is = selector-takes cs x e in
    (tokens cs, is.0, tokens-take cs, is.1)

pub spelled-read : (cs : List ℕ) (x : Tree) → IsSpelled cs x → selector_of cs ≡ Ok x
spelled-read cs x (ts, rest, are, is) = selector-again cs x (rest, subst (λ us. IsExpression us x rest) (sym (tokens-again ts cs are)) is)

pub unique : (cs : List ℕ) (x y : Tree) → IsSpelled cs x → IsSpelled cs y → x ≡ y
unique cs x y is other = ok_is {F = Fault} x y (sym (spelled-read cs x is) ∙ spelled-read cs y other)
