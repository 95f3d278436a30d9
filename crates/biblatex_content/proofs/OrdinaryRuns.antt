-- A piece that is texts and runs of hyphens alone.
use Rattle.std.proofs.Common.{◌≡◌, ℕ, Bool, true, false, ◌&&◌, List, [], ◌∷◌, ◌++◌, length, Some, None, Result, Ok, Err, refl, sym, ap, ◌∙◌}
use Rattle.std.specs.List.{flat_map, list_all}
use Rattle.std.proofs.lemmas.List.{append-nil}
use Rattle.std.proofs.lemmas.List.Concat.{flat_map-append}
use Rattle.std.proofs.lemmas.List.Folds.{list_all-append}
use Rattle.laws.specs.Results.{◌>>=◌, EndsWith}
use Rattle.biblatex_tex.specs.declared.error.ContentError.{ContentError}
use Rattle.biblatex_tex.specs.declared.error.ContentError.TheVariants as errors
use Rattle.biblatex_tex.specs.declared.error.ContentError.TheVariants.{MalformedCommand}
use Rattle.biblatex_tex.specs.Results.{refusal_of}
use Rattle.biblatex_tex.specs.Token.{Token, Text, Hyphens, Tie, Open, Close, Dollar, Sign, Command, partnered, paired, dollars_in, token_at, tokens_of, paired_of}
use Rattle.biblatex_tex.proofs.TokenLexing.{gathered, gathered-begin, gathered-some, gathered-end}
use Rattle.biblatex_tex.proofs.TokenPairing.{paired_of-ok, paired_of-err}
use Rattle.biblatex_content.specs.declared.chunk.Kind.TheVariants.{Normal}
use Rattle.biblatex_content.specs.Styled.{Member, letters}
use Rattle.biblatex_content.specs.Ordinary.{State, given, dashes, step, steps, begun, ended_in, is_run, shown, ordinary}
use Rattle.biblatex_content.proofs.StyledMembers.{letters_more}
use Rattle.biblatex_content.proofs.Tests.{first_of_two, second_of_two, both}

-- such tokens are no dollar signs
partnered_run : (t : Token) (dollars : List Bool) → is_run t ≡ true → partnered t dollars ≡ t
partnered_run (Text cs) dollars e = refl
partnered_run (Hyphens cs) dollars e = refl
partnered_run Tie dollars e = absurd cc
partnered_run (Open is_command) dollars e = absurd cc
partnered_run Close dollars e = absurd cc
partnered_run (Dollar has_partner) dollars e = absurd cc
partnered_run (Sign c) dollars e = absurd cc
partnered_run (Command name blanks) dollars e = absurd cc

paired_runs : (ts : List Token) → list_all is_run ts ≡ true → paired ts ≡ ts
paired_runs [] e = refl
paired_runs (t ∷ ts) e =
    ap (λ (x : Token). x ∷ paired ts) (partnered_run t (dollars_in ts) (first_of_two (is_run t) (list_all is_run ts) e))
    ∙ ap (λ (xs : List Token). t ∷ xs) (paired_runs ts (second_of_two (is_run t) (list_all is_run ts) e))

-- characters are given where no mark waits
given_begun : (cs : List ℕ) (done : List Member) → given cs (begun done) ≡ begun (done ++ letters Normal cs)
given_begun [] done = ap begun (sym (append-nil done))
given_begun (c ∷ cs) done = refl

step_run : (t : Token) (done : List Member) → is_run t ≡ true → step t (begun done) ≡ Ok (begun (done ++ letters Normal (shown t)))
unfolding step
step_run (Text []) done e = ap (λ (ms : List Member). Ok (begun ms)) (sym (append-nil done))
step_run (Text (c ∷ cs)) done e = refl
step_run (Hyphens cs) done e = ap (λ (s : State). Ok s) (given_begun (dashes (length cs)) done)
step_run Tie done e = absurd cc
step_run (Open is_command) done e = absurd cc
step_run Close done e = absurd cc
step_run (Dollar has_partner) done e = absurd cc
step_run (Sign c) done e = absurd cc
step_run (Command name blanks) done e = absurd cc

steps_runs : (ts : List Token) (done : List Member) → list_all is_run ts ≡ true → steps ts (begun done) ≡ Ok (begun (done ++ letters Normal (flat_map shown ts)))
steps_runs [] done e = ap (λ (ms : List Member). Ok (begun ms)) (sym (append-nil done))
steps_runs (t ∷ ts) done e =
    ap (λ (r : Result State ContentError). r >>= λ x. steps ts x) (step_run t done (first_of_two (is_run t) (list_all is_run ts) e))
    ∙ (steps_runs ts (done ++ letters Normal (shown t)) (second_of_two (is_run t) (list_all is_run ts) e)
    ∙ ap (λ (ms : List Member). Ok (begun ms)) (letters_more done Normal (shown t) (flat_map shown ts)))

-- what a piece of such tokens gives
ordinary_runs : (cs : List ℕ) (ts : List Token) → tokens_of cs ≡ Ok ts → list_all is_run ts ≡ true → ordinary cs ≡ Ok (letters Normal (flat_map shown ts))
unfolding ordinary
ordinary_runs cs ts e runs =
    ap (λ (r : Result (List Token) ContentError). r >>= λ tokens. (steps tokens (begun []) >>= λ s. ended_in s.mode s.frames s.done)) (paired_of-ok cs ts ts e (paired_runs ts runs))
    ∙ ap (λ (r : Result State ContentError). r >>= λ s. ended_in s.mode s.frames s.done) (steps_runs ts [] runs)

ordinary_malformed : (cs : List ℕ) → paired_of cs ≡ Err MalformedCommand → ordinary cs ≡ Err MalformedCommand
unfolding ordinary
ordinary_malformed cs e = ap (λ (r : Result (List Token) ContentError). r >>= λ tokens. (steps tokens (begun []) >>= λ s. ended_in s.mode s.frames s.done)) e

-- a fault of the tokens is one of the piece
pub runs_fail : (e : ContentError) (cs : List ℕ) → tokens_of cs ≡ Err e → EndsWith (refusal_of e) (ordinary cs)
runs_fail errors.Memory cs is = tt
runs_fail errors.MalformedCommand cs is = ordinary_malformed cs (paired_of-err cs is)

-- tokens of a text have been read, each a text or a run of hyphens, and what they give is a text
pub record ReadRuns (whole left text : List ℕ) : Type 0 where
  pub runs : List Token
  pub parts : gathered runs (tokens_of left) ≡ tokens_of whole
  pub each : list_all is_run runs ≡ true
  pub gives : text ≡ flat_map shown runs

pub runs_begin : (whole left text : List ℕ) → left ≡ whole → text ≡ [] → ReadRuns whole left text
runs_begin whole left text same none =
    record { runs = []; parts = ap (λ (cs : List ℕ). gathered [] (tokens_of cs)) same ∙ gathered-begin whole; each = refl; gives = none }

pub runs_more : (whole left rest text new : List ℕ) (t : Token) → ReadRuns whole left text → token_at left ≡ Ok (Some t, rest) → is_run t ≡ true → new ≡ text ++ shown t → ReadRuns whole rest new
runs_more whole left rest text new t r e run longer =
    let runs = r.runs in
    let gives = r.gives in
    record {
      runs = runs ++ t ∷ [];
      parts = gathered-some runs left rest t e ∙ r.parts;
      each = list_all-append is_run runs (t ∷ []) ∙ both (list_all is_run runs) (is_run t && true) r.each (both (is_run t) true run refl);
      gives = longer ∙ (ap (λ (cs : List ℕ). cs ++ shown t) gives
          ∙ (ap (λ (cs : List ℕ). flat_map shown runs ++ cs) (sym (append-nil (shown t))) ∙ sym (flat_map-append shown runs (t ∷ []))));
    }

pub runs_end : (whole left rest text : List ℕ) → ReadRuns whole left text → token_at left ≡ Ok (None, rest) → ordinary whole ≡ Ok (letters Normal text)
runs_end whole left rest text r e =
    ordinary_runs whole r.runs (sym r.parts ∙ gathered-end r.runs left rest e) r.each ∙ ap (λ (cs : List ℕ). Ok (letters Normal cs)) (sym r.gives)
