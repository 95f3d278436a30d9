-- A piece without dollar signs, read token by token.
use Rattle.std.proofs.Common.{◌≡◌, ℕ, Bool, true, false, not, ◌&&◌, List, [], ◌∷◌, ◌++◌, Option, Some, None, Result, Ok, Err, refl, sym, ap, ◌∙◌}
use Rattle.std.specs.List.{list_all}
use Rattle.std.specs.Prelude.{IfSome}
use Rattle.std.proofs.lemmas.List.Folds.{list_all-append}
use Rattle.laws.specs.Results.{◌>>=◌}
use Rattle.biblatex_tex.specs.declared.error.ContentError.{ContentError}
use Rattle.biblatex_tex.specs.Token.{Token, Text, Hyphens, Tie, Open, Close, Dollar, Sign, Command, partnered, paired, dollars_in, token_at, tokens_of}
use Rattle.biblatex_tex.proofs.TokenLexing.{gathered, gathered-begin, gathered-some, gathered-end}
use Rattle.biblatex_tex.proofs.TokenPairing.{paired_of-ok}
use Rattle.biblatex_content.specs.declared.joining.Joining.{Joining}
use Rattle.biblatex_content.specs.Styled.{Member}
use Rattle.biblatex_content.specs.Views.{joined}
use Rattle.biblatex_content.specs.Ordinary.{State, is_dollar, step, steps, begun, ended_in, ordinary}
use Rattle.biblatex_content.specs.OrdinaryViews.{GivesJoined}
use Rattle.biblatex_content.proofs.Tests.{first_of_two, second_of_two, both}

abbrev pub is_other : Token → Bool
is_other t = not (is_dollar t)

-- other tokens than dollar signs have no partners
partnered_other : (t : Token) (dollars : List Bool) → is_other t ≡ true → partnered t dollars ≡ t
partnered_other (Text cs) dollars e = refl
partnered_other (Hyphens cs) dollars e = refl
partnered_other Tie dollars e = refl
partnered_other (Open is_command) dollars e = refl
partnered_other Close dollars e = refl
partnered_other (Dollar has_partner) dollars e = absurd cc
partnered_other (Sign c) dollars e = refl
partnered_other (Command name blanks) dollars e = refl

paired_others : (ts : List Token) → list_all is_other ts ≡ true → paired ts ≡ ts
paired_others [] e = refl
paired_others (t ∷ ts) e =
    ap (λ (x : Token). x ∷ paired ts) (partnered_other t (dollars_in ts) (first_of_two (is_other t) (list_all is_other ts) e))
    ∙ ap (λ (xs : List Token). t ∷ xs) (paired_others ts (second_of_two (is_other t) (list_all is_other ts) e))

-- the state that was reached, or another one
abbrev state_in : State → Result State ContentError → State
state_in other (Ok s) = s
state_in other (Err f) = other

-- one step more
steps_last : (ts : List Token) (t : Token) (s r next : State) → steps ts s ≡ Ok r → step t r ≡ Ok next → steps (ts ++ t ∷ []) s ≡ Ok next
steps_last [] t s r next e last =
    let same : s ≡ r = ap (state_in s) e in
    ap (λ (x : State). step t x >>= λ y. Ok y) same ∙ ap (λ (x : Result State ContentError). x >>= λ y. Ok y) last
steps_last (u ∷ ts) t s r next e last = by_step (step u s) e (λ x h. steps_last ts t x r next h last)
  where
    by_step : (first : Result State ContentError) → (first >>= λ x. steps ts x) ≡ Ok r → ((x : State) → steps ts x ≡ Ok r → steps (ts ++ t ∷ []) x ≡ Ok next) → (first >>= λ x. steps (ts ++ t ∷ []) x) ≡ Ok next
    by_step (Ok x) h more = more x h
    by_step (Err f) h more = absurd cc

-- tokens of a text have been read, no dollar sign among them, up to a state
pub record Streams (whole left : List ℕ) (s : State) : Type 0 where
  pub tokens : List Token
  pub parts : gathered tokens (tokens_of left) ≡ tokens_of whole
  pub others : list_all is_other tokens ≡ true
  pub reached : steps tokens (begun []) ≡ Ok s

pub streams_begin : (whole left : List ℕ) (s : State) → left ≡ whole → s ≡ begun [] → Streams whole left s
streams_begin whole left s same begins =
    record { tokens = []; parts = ap (λ (cs : List ℕ). gathered [] (tokens_of cs)) same ∙ gathered-begin whole; others = refl; reached = ap (λ (x : State). Ok x) (sym begins) }

pub streams_more : (whole left rest : List ℕ) (s next : State) (t : Token) → Streams whole left s → token_at left ≡ Ok (Some t, rest) → is_dollar t ≡ false → step t s ≡ Ok next → Streams whole rest next
streams_more whole left rest s next t r e other stepped =
    let tokens = r.tokens in
    record {
      tokens = tokens ++ t ∷ [];
      parts = gathered-some tokens left rest t e ∙ r.parts;
      others = list_all-append is_other tokens (t ∷ []) ∙ both (list_all is_other tokens) (is_other t && true) r.others (both (is_other t) true (ap not other) refl);
      reached = steps_last tokens t (begun []) s next r.reached stepped;
    }

-- at the end of the text the piece gives what the state does
pub streams_end : (whole left rest : List ℕ) (s : State) → Streams whole left s → token_at left ≡ Ok (None, rest) → ordinary whole ≡ ended_in s.mode s.frames s.done
unfolding ordinary
streams_end whole left rest s r e =
    let all : tokens_of whole ≡ Ok r.tokens = sym r.parts ∙ gathered-end r.tokens left rest e in
    ap (λ (x : Result (List Token) ContentError). x >>= λ tokens. (steps tokens (begun []) >>= λ y. ended_in y.mode y.frames y.done)) (paired_of-ok whole r.tokens r.tokens all (paired_others r.tokens r.others))
    ∙ ap (λ (x : Result State ContentError). x >>= λ y. ended_in y.mode y.frames y.done) r.reached

pub gives_whole : (o : Option Joining) (read ended : Result (List Member) ContentError) → read ≡ ended → IfSome o (λ j. ended ≡ Ok (joined j)) → GivesJoined (Ok o) read
gives_whole None read ended same h = tt
gives_whole (Some j) read ended same h = same ∙ h
