-- Runs of one class of characters are the longest runs of its test.
use Rattle.std.proofs.Common.{◌≡◌, ℕ, Bool, true, false, cond, List, [], ◌∷◌, ◌++◌, Option, Some, None, refl, sym, ap, ◌∙◌}
use Rattle.std.specs.Option.{option_map_or}
use Rattle.laws.specs.Runs.{AllPassTest, Bars}
use Rattle.laws.specs.Runs
use Rattle.laws.proofs.Runs.{cuts, prefix-after, all-prefix, bars-after}
use Rattle.biblatex_text.specs.Run.{only_if, next, prefix_of, after}
use Rattle.biblatex_text.specs.Items.{key_run}
use Rattle.biblatex_grammar.specs.Characters.{IsRun, is_of_identifier, is_of_key}
use Rattle.biblatex_grammar.proofs.Classes.{identifier-same, key-same, round_key-same}
use Rattle.biblatex_grammar.proofs.States.{Run, of_identifier, brace, parenthesis}

-- the run takes each character that passes the test, and goes on as it is
pub record Takes (run : Run) (test : ℕ → Bool) : Type 0 where
  pub each : (c : ℕ) → next run c ≡ only_if (test c) run

pub prefix-same : (run : Run) (test : ℕ → Bool) → Takes run test → (cs : List ℕ) → prefix_of run cs ≡ Runs.prefix_of test cs
prefix-same run test takes [] = refl
prefix-same run test takes (c ∷ cs) = ap (λ o. option_map_or (λ more. c ∷ prefix_of more cs) o []) (takes.each c) ∙ by_test (prefix-same run test takes cs) (test c)
  where
    by_test : prefix_of run cs ≡ Runs.prefix_of test cs → (b : Bool) → option_map_or (λ more. c ∷ prefix_of more cs) (only_if b run) [] ≡ cond b (c ∷ Runs.prefix_of test cs) []
    by_test more true = ap (λ (x : List ℕ). c ∷ x) more
    by_test more false = refl

pub after-same : (run : Run) (test : ℕ → Bool) → Takes run test → (cs : List ℕ) → after run cs ≡ Runs.after test cs
after-same run test takes [] = refl
after-same run test takes (c ∷ cs) = ap (λ o. option_map_or (λ more. after more cs) o (c ∷ cs)) (takes.each c) ∙ by_test (after-same run test takes cs) (test c)
  where
    by_test : after run cs ≡ Runs.after test cs → (b : Bool) → option_map_or (λ more. after more cs) (only_if b run) (c ∷ cs) ≡ cond b (Runs.after test cs) (c ∷ cs)
    by_test more true = more
    by_test more false = refl

pub takes_identifier : Takes of_identifier is_of_identifier
takes_identifier = record { each = λ c. ap (λ b. only_if b of_identifier) (sym (identifier-same c)) }

pub takes_key : Takes (key_run brace) (is_of_key 125)
takes_key = record { each = λ c. ap (λ b. only_if b (key_run brace)) (sym (key-same c)) }

pub takes_round_key : Takes (key_run parenthesis) (is_of_key 41)
takes_round_key = record { each = λ c. ap (λ b. only_if b (key_run parenthesis)) (sym (round_key-same c)) }

-- the run that the grammar relates is the prefix, and what follows it
pub run-prefix : (run : Run) (test : ℕ → Bool) → Takes run test → (cs t rest : List ℕ) → IsRun test cs t rest → prefix_of run cs ≡ t
run-prefix run test takes cs t rest (e, all, bars) = ap (prefix_of run) e ∙ (prefix-same run test takes (t ++ rest) ∙ (cuts test t rest all bars).prefix)

pub run-after : (run : Run) (test : ℕ → Bool) → Takes run test → (cs t rest : List ℕ) → IsRun test cs t rest → after run cs ≡ rest
run-after run test takes cs t rest (e, all, bars) = ap (after run) e ∙ (after-same run test takes (t ++ rest) ∙ (cuts test t rest all bars).after)

-- and the prefix and what follows it are related
pub run-takes : (run : Run) (test : ℕ → Bool) → Takes run test → (cs : List ℕ) → IsRun test cs (prefix_of run cs) (after run cs)
run-takes run test takes cs = rw (prefix-same run test takes cs, after-same run test takes cs) (prefix-after test cs, all-prefix test cs, bars-after test cs)

-- a run and what follows it are the text
pub parts : (run : Run) (cs : List ℕ) → cs ≡ prefix_of run cs ++ after run cs
parts run [] = refl
parts run (c ∷ cs) = by_next (next run c) (λ more. parts more cs)
  where
    by_next : (o : Option Run) → ((more : Run) → cs ≡ prefix_of more cs ++ after more cs) → c ∷ cs ≡ option_map_or (λ more. c ∷ prefix_of more cs) o [] ++ option_map_or (λ more. after more cs) o (c ∷ cs)
    by_next None all = refl
    by_next (Some more) all = ap (λ (x : List ℕ). c ∷ x) (all more)
