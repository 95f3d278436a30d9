-- The reader's runs and brackets, which its crate does not export. Each is named here by a definition of that crate in which it stands.
use Rattle.std.proofs.Common.{◌≡◌, ℕ, cond, ◌&&◌, eqb, List, [], ◌∷◌, Option, Some, None, Result, Ok, refl}
use Rattle.std.specs.Option.{option_map}
use Rattle.std.specs.List.{list_any}
use Rattle.std.specs.Char.{is_ascii_digit}
use Rattle.laws.specs.Results.{◌>>=◌}
use Rattle.biblatex_text.specs.Raw.{At, Piece}
use Rattle.biblatex_text.specs.Run.{next, depth_after, after}
use Rattle.biblatex_text.specs.States.{identifier}
use Rattle.biblatex_text.specs.Reading.{Refusal, after_blanks, closed_at}
use Rattle.biblatex_text.specs.Value.{unquoted_at, braced_at, quoted_at, is_end, is_number}
use Rattle.biblatex_text.specs.Fields.{closing}
use Rattle.biblatex_text.specs.Items.{opening_at, remark_at, item_or_end_at, next_item_at}

-- what a function is defined on
abbrev pub domain : {A B : Type 0} → (A → B) → Type 0
domain {A} f = A

abbrev pub Run : Type 0
Run = domain next

abbrev pub Bracket : Type 0
Bracket = domain closing

-- the value that a type determines which is about it
abbrev pub the : {A : Type 0} (P : A → Type 0) {a : A} → P a → A
the P {a} p = a

-- the run after a character
abbrev pub then_run : Option Run → Run → Run
then_run None run = run
then_run (Some more) run = more

abbrev pub blank : Run
blank = the (λ run. (cs : List ℕ) → after run cs ≡ after_blanks cs) (λ cs. refl)

abbrev pub comment : Run
comment = then_run (next blank 37) blank

abbrev pub outside : Run
unfolding next_item_at
outside = the (λ run. (n : ℕ) (cs : List ℕ) → item_or_end_at n (after run cs) ≡ next_item_at n cs) (λ n cs. refl)

abbrev pub hidden : Run
hidden = then_run (next outside 37) outside

abbrev pub of_identifier : Run
of_identifier = the (λ run. (x : domain identifier) → run ≡ identifier x) (λ x. refl)

abbrev pub brace : Bracket
brace = the (λ bracket. opening_at (123 ∷ []) ≡ Ok (bracket, [])) refl

abbrev pub parenthesis : Bracket
parenthesis = the (λ bracket. opening_at (40 ∷ []) ≡ Ok (bracket, [])) refl

abbrev pub number : Run
number = the (λ run. (cs : List ℕ) → is_end (after run cs) && list_any is_ascii_digit cs ≡ is_number cs) (λ cs. refl)

abbrev pub fraction : Run
fraction = then_run (next number 46) number

abbrev pub first_remark : Run
first_remark = the (λ run. (cs : List ℕ) → closed_at (after run cs) ≡ remark_at (123 ∷ cs)) (λ cs. refl)

abbrev pub remark : ℕ → Run
remark = the (λ run. (c : ℕ) → option_map (λ d. run d) (depth_after 0 c) ≡ next first_remark c) (λ c. refl)

-- a piece that a run ends, of a text whose end a step takes
abbrev pub Closed : (List ℕ → Result (List ℕ) Refusal) → (ℕ → List ℕ → Result (At Piece × List ℕ) Refusal) → Run → Type 0
Closed end read run = (made : ℕ → List ℕ → List ℕ → At Piece × List ℕ) × ((n : ℕ) (cs : List ℕ) → (end (after run cs) >>= λ rest. Ok (made n cs rest)) ≡ read n cs)

abbrev pub first_braced : Run
unfolding braced_at
first_braced = the (Closed closed_at braced_at) (_, λ n cs. refl)

abbrev pub braced : ℕ → Run
unfolding braced_at
braced = the (λ run. (escape : Run) × ((c : ℕ) → cond (eqb c 92) (Some escape) (option_map (λ d. run d) (depth_after 0 c)) ≡ next first_braced c)) (_, λ c. refl)

abbrev pub braced_escape : ℕ → Run
braced_escape d = then_run (next (braced d) 92) blank

abbrev pub first_quoted : Run
unfolding quoted_at
first_quoted = the (Closed unquoted_at quoted_at) (_, λ n cs. refl)

abbrev pub quoted : ℕ → Run
unfolding quoted_at
quoted = the (λ run. (escape : Run) × ((c : ℕ) → cond (eqb c 92) (Some escape) (cond (eqb c 34 && eqb 0 0) None (option_map (λ d. run d) (depth_after 0 c))) ≡ next first_quoted c)) (_, λ c. refl)

abbrev pub quoted_escape : ℕ → Run
quoted_escape d = then_run (next (quoted d) 92) blank
