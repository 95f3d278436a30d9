-- The tokens of a text, one after the other.
use Rattle.std.proofs.Common.{◌≡◌, ℕ, zero, suc, ◌<◌, Bool, true, false, cond, List, [], ◌∷◌, length, Option, Some, None, refl, ap, subst, arith}
use Rattle.std.specs.Option.{option_map_or}
use Rattle.laws.specs.Runs.{prefix_of, after}
use Rattle.laws.proofs.Runs.{length-after}
use Rattle.texts.specs.Character.{passes}
use Rattle.texts.specs.declared.character.Class.TheVariants.{Blank}
use Rattle.literature.specs.Tokens.{Token, Name, Sign, is_name_character, is_sign, token_here, token_at, tokens_below, tokens}

-- what follows a token is shorter than n
abbrev Leaves : ℕ → Option (Token × List ℕ) → Type 0
Leaves n None = Unit {0}
Leaves n (Some p) = length p.1 < n

here_shorter : (cs : List ℕ) → Leaves (length cs) (token_here cs)
here_shorter [] = tt
here_shorter (c ∷ cs) = by_tests (is_name_character c) refl (is_sign c)
  where
    by_tests : (b : Bool) → is_name_character c ≡ b → (d : Bool)
        → Leaves (length (c ∷ cs)) (cond b (Some (Name (prefix_of is_name_character (c ∷ cs)), after is_name_character (c ∷ cs))) (cond d (Some (Sign c, cs)) None))
    by_tests true is d =
        let same : after is_name_character (c ∷ cs) ≡ after is_name_character cs = rw is refl in
        omega (arith, ap length same, length-after is_name_character cs)
    by_tests false is true = omega arith
    by_tests false is false = tt

leaves_at : (n : ℕ) (o : Option (Token × List ℕ)) (t : Token) (rest : List ℕ) → o ≡ Some (t, rest) → Leaves n o → length rest < n
leaves_at n o t rest e h = subst (Leaves n) e h

token_shorter : (cs rest : List ℕ) (t : Token) → token_at cs ≡ Some (t, rest) → length rest < length cs
unfolding token_at
token_shorter cs rest t is =
    let less : length rest < length (after (passes Blank) cs) = leaves_at (length (after (passes Blank) cs)) (token_here (after (passes Blank) cs)) t rest is (here_shorter (after (passes Blank) cs)) in
    omega (arith, length-after (passes Blank) cs)

-- a number above the text's length is enough
enough : (n m : ℕ) (cs : List ℕ) → length cs < n → length cs < m → tokens_below n cs ≡ tokens_below m cs
unfolding tokens_below
enough zero m cs below_n below_m = absurd (omega arith)
enough (suc n) zero cs below_n below_m = absurd (omega arith)
enough (suc n) (suc m) cs below_n below_m = by_token (λ rest less_n less_m. enough n m rest less_n less_m) (token_at cs) refl
  where
    by_token : ((rest : List ℕ) → length rest < n → length rest < m → tokens_below n rest ≡ tokens_below m rest) → (o : Option (Token × List ℕ)) → token_at cs ≡ o
        → option_map_or (λ p. p.0 ∷ tokens_below n p.1) o [] ≡ option_map_or (λ p. p.0 ∷ tokens_below m p.1) o []
    by_token more None is = refl
    by_token more (Some (t, rest)) is =
        let less : length rest < length cs = token_shorter cs rest t is in
        ap (λ (ts : List Token). t ∷ ts) (more rest (omega arith) (omega arith))

-- no token stands here
pub tokens_none : (cs : List ℕ) → token_at cs ≡ None → tokens cs ≡ []
unfolding tokens tokens_below
tokens_none cs is = rw is refl

-- a token, and those of what follows it
pub tokens_some : (cs rest : List ℕ) (t : Token) → token_at cs ≡ Some (t, rest) → tokens cs ≡ t ∷ tokens rest
unfolding tokens tokens_below
tokens_some cs rest t is =
    let less : length rest < length cs = token_shorter cs rest t is in
    let same : tokens_below (length cs) rest ≡ tokens_below (suc (length rest)) rest = enough (length cs) (suc (length rest)) rest less (omega arith) in
    rw is (ap (λ (ts : List Token). t ∷ ts) same)
