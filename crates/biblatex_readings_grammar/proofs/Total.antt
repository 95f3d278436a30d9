-- What is made of all tokens of a text, one token after the other, and one character after the other where characters make a run.
use Rattle.std.proofs.Common.{◌≡◌, ℕ, zero, suc, Bool, true, false, cond, ◌||◌, eqb, List, [], ◌∷◌, ◌++◌, length, Option, Some, None, Result, Ok, Err, refl, sym, ap, ◌∙◌, subst, arith}
use Rattle.std.specs.Char.{is_ascii_alphabetic}
use Rattle.std.proofs.lemmas.Bool.{or_parts, eqb-true, not-true}
use Rattle.std.proofs.lemmas.Bool.Decides.{nat_tests}
use Rattle.laws.specs.Characters.{dollar_sign, hyphen, backslash, open_brace, close_brace, tilde}
use Rattle.laws.specs.Results.{◌>>=◌}
use Rattle.laws.specs.Runs.{prefix_of, after}
use Rattle.laws.specs.Steps.{go_on, each_below, each}
use Rattle.laws.proofs.Runs.{cuts}
use Rattle.biblatex_tex.specs.Character.{is_blank, is_plain, passes}
use Rattle.biblatex_tex.specs.declared.character.Class.TheVariants.{Letter, Hyphen, Plain}
use Rattle.biblatex_tex.specs.declared.error.ContentError.{ContentError}
use Rattle.biblatex_tex.specs.declared.error.ContentError.TheVariants.{MalformedCommand}
use Rattle.biblatex_tex.specs.Token.{Token, Text, Hyphens, Tie, Open, Close, Dollar, Sign, Command, begins_command, command_at, named_at, token_at, tokens_of}
use Rattle.biblatex_tex.proofs.TokenLexing.{gathered-begin, gathered-some, gathered-end, gathered-err}
use Rattle.biblatex_readings_grammar.specs.Commands.{IsCommand}

-- ---- tokens

pub tokens-more : (cs rest : List ℕ) (t : Token) → token_at cs ≡ Ok (Some t, rest) → tokens_of cs ≡ (tokens_of rest >>= λ ts. Ok (t ∷ ts))
tokens-more cs rest t is = sym (gathered-begin cs) ∙ sym (gathered-some [] cs rest t is)

pub tokens-none : (cs rest : List ℕ) → token_at cs ≡ Ok (None, rest) → tokens_of cs ≡ Ok []
tokens-none cs rest is = sym (gathered-begin cs) ∙ gathered-end [] cs rest is

pub tokens-err : (cs : List ℕ) (f : ContentError) → token_at cs ≡ Err f → tokens_of cs ≡ Err f
tokens-err cs f is = sym (gathered-begin cs) ∙ gathered-err [] cs f is

pub tokens-nil : tokens_of [] ≡ Ok []
unfolding token_at
tokens-nil = tokens-none [] [] refl

abbrev Malformed : {A : Type 0} → Result A ContentError → Type 0
Malformed r = (f : ContentError) → r ≡ Err f → f ≡ MalformedCommand

abbrev refused : {A : Type 0} → ContentError → Result A ContentError
refused f = Err f

err_is : {A : Type 0} (f g : ContentError) → refused {A = A} f ≡ refused {A = A} g → f ≡ g
err_is f g e = cc

chosen_malformed : {A : Type 0} (b : Bool) (x y : Result A ContentError) → Malformed x → Malformed y → Malformed (cond b x y)
chosen_malformed true x y p q = p
chosen_malformed false x y p q = q

fine : {A : Type 0} (x : A) → Malformed (Ok x)
fine x f e = absurd cc

command-malformed : (cs : List ℕ) → Malformed (command_at cs)
command-malformed [] f e = sym (err_is {A = Option Token × List ℕ} MalformedCommand f e)
command-malformed (c ∷ cs) f e = chosen_malformed (passes Letter c) (Ok (named_at (c ∷ cs))) (Ok (Some (Sign c), cs)) (fine (named_at (c ∷ cs))) (fine (Some (Sign c), cs)) f e

token-malformed : (cs : List ℕ) → Malformed (token_at cs)
unfolding token_at
token-malformed [] = fine (None, [])
token-malformed (c ∷ cs) =
    chosen_malformed (eqb c backslash) _ _ (command-malformed cs)
    (chosen_malformed (eqb c open_brace) _ _ (fine (Some (Open (begins_command cs)), cs))
    (chosen_malformed (eqb c close_brace) _ _ (fine (Some Close, cs))
    (chosen_malformed (eqb c dollar_sign) _ _ (fine (Some (Dollar false), cs))
    (chosen_malformed (eqb c tilde) _ _ (fine (Some Tie, cs))
    (chosen_malformed (eqb c hyphen) _ _ (fine (Some (Hyphens (prefix_of (passes Hyphen) (c ∷ cs))), after (passes Hyphen) (c ∷ cs)))
    (fine (Some (Text (prefix_of (passes Plain) (c ∷ cs))), after (passes Plain) (c ∷ cs))))))))

each_below-malformed : (n : ℕ) (cs : List ℕ) → Malformed (each_below n token_at cs)
unfolding each_below
each_below-malformed zero cs f e = absurd cc
each_below-malformed (suc n) cs f e = by_step (λ rest. each_below-malformed n rest) (token_at cs) (token-malformed cs) f e
  where
    by_rest : (t : Token) (r : Result (List Token × List ℕ) ContentError) → Malformed r → Malformed (◌>>=◌ {B = List Token × List ℕ} r (λ p. Ok (t ∷ p.0, p.1)))
    by_rest t (Err g) m f e = m f (ap (refused {A = List Token × List ℕ}) (err_is {A = List Token × List ℕ} g f e))
    by_rest t (Ok p) m f e = absurd cc

    by_step : ((rest : List ℕ) → Malformed (each_below n token_at rest)) → (r : Result (Option Token × List ℕ) ContentError) → Malformed r
        → Malformed (r >>= λ p. go_on (λ rest. each_below n token_at rest) p.0 p.1)
    by_step more (Err g) m f e = m f (ap (refused {A = Option Token × List ℕ}) (err_is {A = List Token × List ℕ} g f e))
    by_step more (Ok (None, rest)) m f e = absurd cc
    by_step more (Ok (Some t, rest)) m f e = by_rest t (each_below n token_at rest) (more rest) f e

-- there is one fault of tokens
pub tokens-malformed : (cs : List ℕ) (f : ContentError) → tokens_of cs ≡ Err f → f ≡ MalformedCommand
unfolding tokens_of each
tokens-malformed cs f e = by_list (each_below (suc (length cs)) token_at cs) (each_below-malformed (suc (length cs)) cs) e
  where
    by_list : (r : Result (List Token × List ℕ) ContentError) → Malformed r → ◌>>=◌ {B = List Token} r (λ p. Ok p.0) ≡ Err f → f ≡ MalformedCommand
    by_list (Err g) m h = m f (ap (refused {A = List Token × List ℕ}) (err_is {A = List Token} g f h))
    by_list (Ok p) m h = absurd cc

-- ---- what is made of the tokens of a text

abbrev pub total : {X : Type 0} → (List Token → Result X ContentError) → List ℕ → Result X ContentError
total make cs = tokens_of cs >>= make

pub total-same : {X : Type 0} (make other : List Token → Result X ContentError) (cs : List ℕ) → ((ts : List Token) → tokens_of cs ≡ Ok ts → make ts ≡ other ts) → total make cs ≡ total other cs
total-same {X} make other cs same = by_tokens (tokens_of cs) refl
  where
    by_tokens : (r : Result (List Token) ContentError) → tokens_of cs ≡ r → (r >>= make) ≡ (r >>= other)
    by_tokens (Err f) is = refl
    by_tokens (Ok ts) is = same ts is

regrouped : {X : Type 0} (make : List Token → Result X ContentError) (t : Token) (r : Result (List Token) ContentError) → (r >>= (λ ts. Ok (t ∷ ts)) >>= make) ≡ (r >>= λ ts. make (t ∷ ts))
regrouped make t (Ok ts) = refl
regrouped make t (Err f) = refl

-- what is made with a token more is what is made of the rest in the other way
pub total-more : {X : Type 0} (make other : List Token → Result X ContentError) (cs rest : List ℕ) (t : Token) → token_at cs ≡ Ok (Some t, rest)
    → ((ts : List Token) → tokens_of rest ≡ Ok ts → make (t ∷ ts) ≡ other ts) → total make cs ≡ total other rest
total-more {X} make other cs rest t is same =
    ap (λ (r : Result (List Token) ContentError). r >>= make) (tokens-more cs rest t is) ∙ (regrouped make t (tokens_of rest) ∙ total-same (λ ts. make (t ∷ ts)) other rest same)

pub total-nil : {X : Type 0} (make : List Token → Result X ContentError) → total make [] ≡ make []
total-nil make = ap (λ (r : Result (List Token) ContentError). r >>= make) tokens-nil

-- ---- runs

-- Characters of a class make a token together.
pub record MakesRun (test : ℕ → Bool) (run : List ℕ → Token) : Type 0 where
  pub at : (c : ℕ) (cs : List ℕ) → test c ≡ true → token_at (c ∷ cs) ≡ Ok (Some (run (c ∷ prefix_of test cs)), after test cs)

-- a run before tokens, if there is one
abbrev pub run_before : (List ℕ → Token) → List ℕ → List Token → List Token
run_before run [] ts = ts
run_before run (c ∷ cs) ts = run (c ∷ cs) ∷ ts

pub total-run : {X : Type 0} (test : ℕ → Bool) (run : List ℕ → Token) → MakesRun test run → (make : List Token → Result X ContentError) (cs : List ℕ)
    → total make cs ≡ total (λ ts. make (run_before run (prefix_of test cs) ts)) (after test cs)
total-run {X} test run makes make [] = refl
total-run {X} test run makes make (c ∷ cs) = by_test (test c) refl
  where
    by_test : (b : Bool) → test c ≡ b → total make (c ∷ cs) ≡ total (λ ts. make (run_before run (cond b (c ∷ prefix_of test cs) []) ts)) (cond b (after test cs) (c ∷ cs))
    by_test true is = total-more make (λ ts. make (run (c ∷ prefix_of test cs) ∷ ts)) (c ∷ cs) (after test cs) (run (c ∷ prefix_of test cs)) (makes.at c cs is) (λ ts e. refl)
    by_test false is = refl

-- the first character of a run may be made of by itself
pub total-split : {X : Type 0} (test : ℕ → Bool) (run : List ℕ → Token) → MakesRun test run → (make other : List Token → Result X ContentError) (c : ℕ) (cs : List ℕ) → test c ≡ true
    → ((p : List ℕ) (ts : List Token) → prefix_of test cs ≡ p → make (run (c ∷ p) ∷ ts) ≡ other (run_before run p ts)) → total make (c ∷ cs) ≡ total other cs
total-split {X} test run makes make other c cs is same =
    total-more make (λ ts. other (run_before run (prefix_of test cs) ts)) (c ∷ cs) (after test cs) (run (c ∷ prefix_of test cs)) (makes.at c cs is) (λ ts e. same (prefix_of test cs) ts refl)
    ∙ sym (total-run test run makes other cs)

-- ---- which tokens stand where

is_backslash : (c : ℕ) → is_plain c ≡ true → eqb c backslash ≡ false
is_backslash c e = grind (arith, nat_tests)

pub text-run : MakesRun is_plain Text
unfolding token_at passes
text-run = record { at = at }
  where
    tests : (c : ℕ) → is_plain c ≡ true → (eqb c backslash || eqb c open_brace || eqb c close_brace || eqb c dollar_sign || eqb c tilde || eqb c hyphen) ≡ false
    tests c e = not-true _ e

    at : (c : ℕ) (cs : List ℕ) → is_plain c ≡ true → token_at (c ∷ cs) ≡ Ok (Some (Text (c ∷ prefix_of is_plain cs)), after is_plain cs)
    at c cs e =
        let p6 = or_parts _ (eqb c hyphen) (tests c e) in
        let p5 = or_parts _ (eqb c tilde) p6.0 in
        let p4 = or_parts _ (eqb c dollar_sign) p5.0 in
        let p3 = or_parts _ (eqb c close_brace) p4.0 in
        let p2 = or_parts (eqb c backslash) (eqb c open_brace) p3.0 in
        let n1 = p2.0 in
        let n2 = p2.1 in
        let n3 = p3.1 in
        let n4 = p4.1 in
        let n5 = p5.1 in
        let n6 = p6.1 in
        rw (n1, n2, n3, n4, n5, n6) refl

abbrev pub is_hyphen : ℕ → Bool
is_hyphen c = eqb c hyphen

pub hyphen-run : MakesRun is_hyphen Hyphens
unfolding token_at passes
hyphen-run = record { at = at }
  where
    here : (cs : List ℕ) → token_at (hyphen ∷ cs) ≡ Ok (Some (Hyphens (hyphen ∷ prefix_of is_hyphen cs)), after is_hyphen cs)
    here cs = refl

    at : (c : ℕ) (cs : List ℕ) → is_hyphen c ≡ true → token_at (c ∷ cs) ≡ Ok (Some (Hyphens (c ∷ prefix_of is_hyphen cs)), after is_hyphen cs)
    at c cs e = subst (λ (x : ℕ). token_at (x ∷ cs) ≡ Ok (Some (Hyphens (x ∷ prefix_of is_hyphen cs)), after is_hyphen cs)) (sym (eqb-true c hyphen e)) (here cs)

pub nil-at : token_at [] ≡ Ok (None, [])
unfolding token_at
nil-at = refl

pub tie-at : (cs : List ℕ) → token_at (tilde ∷ cs) ≡ Ok (Some Tie, cs)
unfolding token_at
tie-at cs = refl

pub open-at : (cs : List ℕ) → token_at (open_brace ∷ cs) ≡ Ok (Some (Open (begins_command cs)), cs)
unfolding token_at
open-at cs = refl

pub close-at : (cs : List ℕ) → token_at (close_brace ∷ cs) ≡ Ok (Some Close, cs)
unfolding token_at
close-at cs = refl

pub dollar-at : (cs : List ℕ) → token_at (dollar_sign ∷ cs) ≡ Ok (Some (Dollar false), cs)
unfolding token_at
dollar-at cs = refl

pub end-at : token_at (backslash ∷ []) ≡ Err MalformedCommand
unfolding token_at
end-at = refl

pub sign-at : (c : ℕ) (cs : List ℕ) → is_ascii_alphabetic c ≡ false → token_at (backslash ∷ c ∷ cs) ≡ Ok (Some (Sign c), cs)
unfolding token_at passes
sign-at c cs e = rw e refl

letters_at : (cs : List ℕ) (c : ℕ) (ds : List ℕ) → cs ≡ c ∷ ds → is_ascii_alphabetic c ≡ true
    → token_at (backslash ∷ cs) ≡ Ok (Some (Command (prefix_of is_ascii_alphabetic cs) (prefix_of is_blank (after is_ascii_alphabetic cs))), after is_blank (after is_ascii_alphabetic cs))
unfolding token_at passes
letters_at cs c ds is e = subst (λ (x : List ℕ). token_at (backslash ∷ x) ≡ Ok (Some (Command (prefix_of is_ascii_alphabetic x) (prefix_of is_blank (after is_ascii_alphabetic x))), after is_blank (after is_ascii_alphabetic x))) (sym is) (rw e refl)

-- a command of letters, with its name, its blanks and what follows
pub letters-at : (c : ℕ) (ds : List ℕ) → is_ascii_alphabetic c ≡ true
    → token_at (backslash ∷ c ∷ ds) ≡ Ok (Some (Command (prefix_of is_ascii_alphabetic (c ∷ ds)) (prefix_of is_blank (after is_ascii_alphabetic (c ∷ ds)))), after is_blank (after is_ascii_alphabetic (c ∷ ds)))
letters-at c ds e = letters_at (c ∷ ds) c ds refl e

-- a command of the grammar is a token
pub record CommandAt (cs name rest : List ℕ) : Type 0 where
  pub blanks : List ℕ
  pub at : token_at cs ≡ Ok (Some (Command name blanks), rest)

pub command-at : (cs name rest : List ℕ) → IsCommand cs name rest → CommandAt cs name rest
command-at cs [] rest (a, e, all, filled, bars, blanks) = absurd cc
command-at cs (c ∷ name) rest (a, e, all, filled, bars, (t, f, alls, ends)) =
    let first = cuts is_ascii_alphabetic (c ∷ name) a all bars in
    let second = cuts is_blank t rest alls ends in
    let before : after is_ascii_alphabetic (c ∷ (name ++ a)) ≡ t ++ rest = first.after ∙ f in
    let found = letters_at (c ∷ (name ++ a)) c (name ++ a) refl all.0 in
    let named : token_at (backslash ∷ c ∷ (name ++ a)) ≡ Ok (Some (Command (c ∷ name) (prefix_of is_blank (after is_ascii_alphabetic (c ∷ (name ++ a))))), after is_blank (after is_ascii_alphabetic (c ∷ (name ++ a))))
    = found ∙ ap (λ (x : List ℕ). Ok (Some (Command x (prefix_of is_blank (after is_ascii_alphabetic (c ∷ (name ++ a))))), after is_blank (after is_ascii_alphabetic (c ∷ (name ++ a))))) first.prefix in
    record {
      blanks = prefix_of is_blank (after is_ascii_alphabetic (c ∷ (name ++ a)));
      at = ap token_at e ∙ (named ∙ ap (λ (x : List ℕ). Ok (Some (Command (c ∷ name) (prefix_of is_blank (after is_ascii_alphabetic (c ∷ (name ++ a))))), x)) (ap (after is_blank) before ∙ second.after));
    }
