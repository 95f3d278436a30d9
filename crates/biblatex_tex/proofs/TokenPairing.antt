-- Going back over tokens.
use Rattle.std.proofs.Common.{◌≡◌, ℕ, Bool, List, [], ◌∷◌, ◌++◌, Ok, Err, refl, sym, ap, ◌∙◌, append_assoc}
use Rattle.std.proofs.lemmas.List.{append-nil}
use Rattle.biblatex_tex.specs.Token.{Token, partnered, paired, dollars_before, dollars_in, tokens_of, paired_of}
use Rattle.biblatex_tex.specs.Results.{refusal_of}
use Rattle.laws.specs.Results.{Gives}
use Rattle.biblatex_tex.specs.declared.error.ContentError.{ContentError}
use Rattle.biblatex_tex.specs.declared.error.ContentError.TheVariants.{MalformedCommand}
use Rattle.biblatex_tex.specs.declared.error.ContentError.TheVariants as errors

-- the tokens that are left are followed by some that have been made what they are, and these have such dollar signs
pub record GoesBack (whole left made : List Token) (dollars : List Bool) : Type 0 where
  pub back : List Token
  pub parts : whole ≡ left ++ back
  pub made_are : made ≡ paired back
  pub dollars_are : dollars ≡ dollars_in back

pub goes_back-begin : (whole : List Token) → GoesBack whole whole [] []
goes_back-begin whole = record { back = []; parts = sym (append-nil whole); made_are = refl; dollars_are = refl }

pub goes_back-more : (whole left others made : List Token) (dollars : List Bool) (t : Token) → GoesBack whole left made dollars → left ≡ others ++ t ∷ []
    → GoesBack whole others (partnered t dollars ∷ made) (dollars_before t dollars)
goes_back-more whole left others made dollars t g e =
    record {
      back = t ∷ g.back;
      parts = g.parts ∙ (ap (λ (ts : List Token). ts ++ g.back) e ∙ append_assoc others (t ∷ []) g.back);
      made_are = rw (g.made_are, g.dollars_are) refl;
      dollars_are = ap (dollars_before t) g.dollars_are;
    }

pub goes_back-end : (whole made : List Token) (dollars : List Bool) → GoesBack whole [] made dollars → paired whole ≡ made
goes_back-end whole made dollars g = ap paired g.parts ∙ sym g.made_are

-- a call that reads the tokens of a text refuses it as they do
pub tokens_of-fails : {X : Type 0} (view : X → List Token) (e : ContentError) (cs : List ℕ) → tokens_of cs ≡ Err e → Gives refusal_of view (Err e) (tokens_of cs)
tokens_of-fails view errors.Memory cs is = tt
tokens_of-fails view errors.MalformedCommand cs is = is

-- a fault of the tokens is one of the paired tokens
pub paired_of-err : (cs : List ℕ) → tokens_of cs ≡ Err MalformedCommand → paired_of cs ≡ Err MalformedCommand
unfolding paired_of
paired_of-err cs e = rw e refl

pub paired_of-ok : (cs : List ℕ) (ts made : List Token) → tokens_of cs ≡ Ok ts → paired ts ≡ made → paired_of cs ≡ Ok made
unfolding paired_of
paired_of-ok cs ts made e p = rw e (ap (λ (x : List Token). Ok x) p)

pub paired_of-fails : {X Y : Type 0} (view : X → List Token) (view' : Y → List Token) (e : ContentError) (cs : List ℕ) → Gives refusal_of view (Err e) (tokens_of cs) → Gives refusal_of view' (Err e) (paired_of cs)
paired_of-fails view view' errors.Memory cs g = tt
paired_of-fails view view' errors.MalformedCommand cs g = paired_of-err cs g
