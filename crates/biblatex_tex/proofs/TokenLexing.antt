-- The tokens of a text, one after the other.
use Rattle.std.proofs.Common.{◌≡◌, ℕ, ◌<◌, Bool, true, false, cond, eqb, List, [], ◌∷◌, ◌++◌, length, Option, Some, None, Result, Ok, Err, refl, sym, ap, ◌∙◌, append_assoc, arith}
use Rattle.std.specs.Prelude.{IfOk, IfSome}
use Rattle.std.proofs.lemmas.List.{append-nil}
use Rattle.laws.specs.Characters.{dollar_sign, hyphen, backslash, open_brace, close_brace, tilde}
use Rattle.laws.specs.Results.{◌>>=◌}
use Rattle.laws.specs.Runs.{after}
use Rattle.laws.specs.Steps.{Shortens, each}
use Rattle.laws.proofs.Results.{if_ok_at}
use Rattle.laws.proofs.Runs.{length-after}
use Rattle.laws.proofs.Steps.{each-none, each-some, each-err}
use Rattle.biblatex_tex.specs.Character.{passes}
use Rattle.biblatex_tex.specs.declared.character.Class.TheVariants.{Blank, Letter, Hyphen, Plain}
use Rattle.biblatex_tex.specs.declared.error.ContentError.{ContentError}
use Rattle.biblatex_tex.specs.Token.{Token, command_at, named_at, token_at, tokens_of}

-- where something is given, fewer than n characters are left
abbrev LeavesFewer : ℕ → Option Token × List ℕ → Type 0
LeavesFewer n p = IfSome p.0 (λ _. length p.1 < n)

either_if_ok : {F A : Type 0} (Q : A → Type 0) (b : Bool) (x y : Result A F) → (b ≡ true → IfOk x Q) → (b ≡ false → IfOk y Q) → IfOk (cond b x y) Q
either_if_ok Q true x y p q = p refl
either_if_ok Q false x y p q = q refl

command-leaves : (cs : List ℕ) → IfOk (command_at cs) (LeavesFewer (length (0 ∷ cs)))
command-leaves [] = tt
command-leaves (c ∷ cs) =
    either_if_ok (LeavesFewer (length (0 ∷ c ∷ cs))) (passes Letter c) (Ok (named_at (c ∷ cs))) _
    (λ _. omega (arith, length-after (passes Blank) (after (passes Letter) (c ∷ cs)), length-after (passes Letter) (c ∷ cs)))
    (λ _. omega arith)

-- a run that begins with a character of it leaves fewer
run-leaves : (test : ℕ → Bool) (c : ℕ) (cs : List ℕ) → test c ≡ true → length (after test (c ∷ cs)) < length (c ∷ cs)
run-leaves test c cs e = rw e (omega (arith, length-after test cs))

token-leaves : (cs : List ℕ) → IfOk (token_at cs) (LeavesFewer (length cs))
unfolding token_at passes
token-leaves [] = tt
token-leaves (c ∷ cs) =
    let Q = LeavesFewer (length (c ∷ cs)) in
    either_if_ok Q (eqb c backslash) _ _ (λ _. command-leaves cs) (λ e1.
    either_if_ok Q (eqb c open_brace) _ _ (λ _. omega arith) (λ e2.
    either_if_ok Q (eqb c close_brace) _ _ (λ _. omega arith) (λ e3.
    either_if_ok Q (eqb c dollar_sign) _ _ (λ _. omega arith) (λ e4.
    either_if_ok Q (eqb c tilde) _ _ (λ _. omega arith) (λ e5.
    either_if_ok Q (eqb c hyphen) _ _ (λ e. run-leaves (passes Hyphen) c cs e) (λ e6. run-leaves (passes Plain) c cs (rw (e1, e2, e3, e4, e5, e6) refl)))))))

pub tokens_shorten : Shortens token_at
tokens_shorten cs rest t is = if_ok_at (LeavesFewer (length cs)) (token_at cs) (Some t, rest) is (token-leaves cs)

-- tokens after others
abbrev pub gathered : List Token → Result (List Token) ContentError → Result (List Token) ContentError
gathered prefix r = r >>= λ ts. Ok (prefix ++ ts)

gathered_none : (r : Result (List Token) ContentError) → gathered [] r ≡ r
gathered_none (Ok ts) = refl
gathered_none (Err f) = refl

-- before the first token nothing was gathered
pub gathered-begin : (cs : List ℕ) → gathered [] (tokens_of cs) ≡ tokens_of cs
gathered-begin cs = gathered_none (tokens_of cs)

regrouped : (prefix : List Token) (t : Token) (r : Result (List Token × List ℕ) ContentError)
    → gathered (prefix ++ t ∷ []) (r >>= λ p. Ok p.0) ≡ gathered prefix (◌>>=◌ {B = List Token × List ℕ} r (λ p. Ok (t ∷ p.0, p.1)) >>= λ p. Ok p.0)
regrouped prefix t (Ok p) = ap (λ (ts : List Token). Ok ts) (append_assoc prefix (t ∷ []) p.0)
regrouped prefix t (Err f) = refl

-- a token stands after those that were gathered
pub gathered-some : (prefix : List Token) (cs rest : List ℕ) (t : Token) → token_at cs ≡ Ok (Some t, rest) → gathered (prefix ++ t ∷ []) (tokens_of rest) ≡ gathered prefix (tokens_of cs)
unfolding tokens_of
gathered-some prefix cs rest t is =
    regrouped prefix t (each token_at rest) ∙ ap (λ (r : Result (List Token × List ℕ) ContentError). gathered prefix (r >>= λ p. Ok p.0)) (sym (each-some token_at tokens_shorten cs rest t is))

-- at the end of the text the gathered tokens are all
pub gathered-end : (prefix : List Token) (cs rest : List ℕ) → token_at cs ≡ Ok (None, rest) → gathered prefix (tokens_of cs) ≡ Ok prefix
unfolding tokens_of
gathered-end prefix cs rest is = ap (λ (r : Result (List Token × List ℕ) ContentError). gathered prefix (r >>= λ p. Ok p.0)) (each-none token_at cs rest is) ∙ ap (λ (ts : List Token). Ok ts) (append-nil prefix)

-- a fault of a token is that of the tokens
pub gathered-err : (prefix : List Token) (cs : List ℕ) (f : ContentError) → token_at cs ≡ Err f → gathered prefix (tokens_of cs) ≡ Err f
unfolding tokens_of
gathered-err prefix cs f is = ap (λ (r : Result (List Token × List ℕ) ContentError). gathered prefix (r >>= λ p. Ok p.0)) (each-err token_at cs f is)
