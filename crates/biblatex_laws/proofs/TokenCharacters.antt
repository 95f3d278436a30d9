-- The tokens of characters are made of characters.
use Rattle.std.proofs.Common.{◌≡◌, ℕ, zero, suc, Bool, true, false, cond, eqb, List, [], ◌∷◌, length, Option, Some, None, Result, Ok, refl, sym, subst}
use Rattle.std.specs.Prelude.{IfOk, IfSome}
use Rattle.std.specs.List.{AllByRecursion}
use Rattle.laws.specs.Characters.{dollar_sign, hyphen, backslash, open_brace, close_brace, tilde}
use Rattle.laws.specs.Runs.{prefix_of, after}
use Rattle.laws.specs.Steps.{Step, each, each_below, go_on}
use Rattle.laws.proofs.Results.{bind_if_ok}
use Rattle.laws.proofs.Runs.{prefix-after}
use Rattle.biblatex_tex.specs.Character.{passes}
use Rattle.biblatex_tex.specs.declared.character.Class.TheVariants.{Blank, Letter, Hyphen, Plain}
use Rattle.biblatex_tex.specs.Token.{Token, Text, Hyphens, Tie, Open, Close, Dollar, Sign, Command, written, named_at, command_at, token_at, tokens_of, dollars_in, partnered, paired, paired_of}
use Rattle.biblatex_laws.specs.Raw.{AreCharacters}
use Rattle.biblatex_laws.proofs.CharacterLists.{append, head, left, right, tail}

-- a run of characters, and what follows it
pub prefix_characters : (test : ℕ → Bool) (cs : List ℕ) → AreCharacters cs → AreCharacters (prefix_of test cs)
prefix_characters test cs p = left (prefix_of test cs) (after test cs) (subst AreCharacters (prefix-after test cs) p)

pub after_characters : (test : ℕ → Bool) (cs : List ℕ) → AreCharacters cs → AreCharacters (after test cs)
after_characters test cs p = right (prefix_of test cs) (after test cs) (subst AreCharacters (prefix-after test cs) p)

-- steps over characters
module _ {F X : Type 0} (P : X → Type 0) (step : Step F X) (gives : (text : List ℕ) → AreCharacters text → IfOk (step text) (λ p. IfSome p.0 P × AreCharacters p.1)) where
  by_gift : (n : ℕ) → ((rest : List ℕ) → AreCharacters rest → IfOk (each_below n step rest) (λ q. AllByRecursion P q.0)) → (gift : Option X) (rest : List ℕ) → IfSome gift P × AreCharacters rest
      → IfOk (go_on (λ rest. each_below n step rest) gift rest) (λ q. AllByRecursion P q.0)
  by_gift n more None rest given = tt
  by_gift n more (Some x) rest given =
      bind_if_ok (λ (q : List X × List ℕ). AllByRecursion P q.0) (λ (q : List X × List ℕ). AllByRecursion P q.0) (each_below n step rest) (λ q. Ok (x ∷ q.0, q.1)) (more rest given.1)
      (λ q all. (given.0, all))

  below_characters : (n : ℕ) (text : List ℕ) → AreCharacters text → IfOk (each_below n step text) (λ p. AllByRecursion P p.0)
  unfolding each_below
  below_characters zero text s = tt
  below_characters (suc n) text s =
      bind_if_ok (λ (p : Option X × List ℕ). IfSome p.0 P × AreCharacters p.1) (λ (q : List X × List ℕ). AllByRecursion P q.0) (step text) (λ p. go_on (λ rest. each_below n step rest) p.0 p.1) (gives text s)
      (λ p given. by_gift n (λ rest r. below_characters n rest r) p.0 p.1 given)

  each_characters : (text : List ℕ) → AreCharacters text → IfOk (each step text) (λ p. AllByRecursion P p.0)
  unfolding each
  each_characters text s = below_characters (suc (length text)) text s

abbrev pub IsTokenText : Token → Type 0
IsTokenText t = AreCharacters (written t)

abbrev IsStepText : Option Token × List ℕ → Type 0
IsStepText p = IfSome p.0 IsTokenText × AreCharacters p.1

either_if_ok : {F A : Type 0} (Q : A → Type 0) (b : Bool) (x y : Result A F) → IfOk x Q → IfOk y Q → IfOk (cond b x y) Q
either_if_ok Q true x y p q = p
either_if_ok Q false x y p q = q

command_characters : (cs : List ℕ) → AreCharacters cs → IfOk (command_at cs) IsStepText
command_characters [] p = tt
command_characters (c ∷ cs) p =
    let rest = after_characters (passes Letter) (c ∷ cs) p in
    either_if_ok IsStepText (passes Letter c) (Ok (named_at (c ∷ cs))) (Ok (Some (Sign c), cs)) (
      append (prefix_of (passes Letter) (c ∷ cs)) (prefix_of (passes Blank) (after (passes Letter) (c ∷ cs))) (prefix_characters (passes Letter) (c ∷ cs) p) (prefix_characters (passes Blank) (after (passes Letter) (c ∷ cs)) rest),
      after_characters (passes Blank) (after (passes Letter) (c ∷ cs)) rest,
    )
    (head c cs p, tail c cs p)

token_characters : (cs : List ℕ) → AreCharacters cs → IfOk (token_at cs) IsStepText
unfolding token_at
token_characters [] p = (tt, refl)
token_characters (c ∷ cs) p =
    let rest = tail c cs p in
    either_if_ok IsStepText (eqb c backslash) _ _ (command_characters cs rest)
    (either_if_ok IsStepText (eqb c open_brace) _ _ (refl, rest)
    (either_if_ok IsStepText (eqb c close_brace) _ _ (refl, rest)
    (either_if_ok IsStepText (eqb c dollar_sign) _ _ (refl, rest)
    (either_if_ok IsStepText (eqb c tilde) _ _ (refl, rest)
    (either_if_ok IsStepText (eqb c hyphen) (Ok (Some (Hyphens (prefix_of (passes Hyphen) (c ∷ cs))), after (passes Hyphen) (c ∷ cs))) (Ok (Some (Text (prefix_of (passes Plain) (c ∷ cs))), after (passes Plain) (c ∷ cs)))
    (prefix_characters (passes Hyphen) (c ∷ cs) p, after_characters (passes Hyphen) (c ∷ cs) p)
    (prefix_characters (passes Plain) (c ∷ cs) p, after_characters (passes Plain) (c ∷ cs) p))))))

tokens_characters : (cs : List ℕ) → AreCharacters cs → IfOk (tokens_of cs) (AllByRecursion IsTokenText)
unfolding tokens_of
tokens_characters cs p =
    bind_if_ok (λ (q : List Token × List ℕ). AllByRecursion IsTokenText q.0) (AllByRecursion IsTokenText) (each token_at cs) (λ q. Ok q.0) (each_characters IsTokenText token_at token_characters cs p) (λ q all. all)

partnered_written : (t : Token) (bs : List Bool) → written (partnered t bs) ≡ written t
partnered_written (Text cs) bs = refl
partnered_written (Hyphens cs) bs = refl
partnered_written Tie bs = refl
partnered_written (Open b) bs = refl
partnered_written Close bs = refl
partnered_written (Dollar b) bs = refl
partnered_written (Sign c) bs = refl
partnered_written (Command name blanks) bs = refl

all_paired : (ts : List Token) → AllByRecursion IsTokenText ts → AllByRecursion IsTokenText (paired ts)
all_paired [] all = tt
all_paired (t ∷ ts) all = (subst AreCharacters (sym (partnered_written t (dollars_in ts))) all.0, all_paired ts all.1)

pub paired_characters : (cs : List ℕ) → AreCharacters cs → IfOk (paired_of cs) (AllByRecursion IsTokenText)
unfolding paired_of
paired_characters cs p = bind_if_ok (AllByRecursion IsTokenText) (AllByRecursion IsTokenText) (tokens_of cs) (λ ts. Ok (paired ts)) (tokens_characters cs p) (λ ts all. all_paired ts all)
