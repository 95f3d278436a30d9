-- What is read of the rest of a text from a state on, a piece of the text after the other.
use Rattle.std.proofs.Common.{◌≡◌, ℕ, suc, ◌-◌, ◌/◌, ◌%◌, ◌<◌, ◌≤◌, Bool, true, false, cond, eqb, List, [], ◌∷◌, ◌++◌, length, Option, Some, None, Result, Ok, Err, refl, sym, ap, ◌∙◌, subst, append_assoc, arith}
use Rattle.std.specs.Prelude.{IfOk, IfSome}
use Rattle.std.specs.Char.{is_ascii_alphabetic}
use Rattle.std.proofs.lemmas.Bool.{eq-eqb}
use Rattle.std.proofs.lemmas.Bool.Decides.{nat_tests}
use Rattle.std.proofs.lemmas.List.{append-nil, take_all}
use Rattle.laws.specs.Characters.{dollar_sign, hyphen, backslash, open_brace, close_brace, tilde, no_break_space, em_dash}
use Rattle.laws.specs.Results.{◌>>=◌}
use Rattle.laws.specs.Runs.{prefix_of, after, AllPassTest, Bars}
use Rattle.laws.specs.Text.{text}
use Rattle.laws.proofs.Results.{if_ok_at, bind_bind}
use Rattle.laws.proofs.Runs.{cuts}
use Rattle.biblatex_tex.specs.Character.{is_blank, is_plain, passes}
use Rattle.biblatex_tex.specs.Command.{sign_mark, letter_mark}
use Rattle.biblatex_tex.specs.declared.character.Class.TheVariants.{Blank, Letter}
use Rattle.biblatex_tex.specs.declared.error.ContentError.{ContentError}
use Rattle.biblatex_tex.specs.declared.error.ContentError.TheVariants.{MalformedCommand}
use Rattle.biblatex_tex.specs.Token.{Token, Text, Hyphens, Tie, Open, Close, Dollar, Sign, Command, begins_command, command_at, named_at, token_at, tokens_of, innermost, dollars_in, partnered, paired, paired_of}
use Rattle.biblatex_content.specs.declared.chunk.Kind.{Kind}
use Rattle.biblatex_content.specs.Styled.{Member, Letter, Math, letters}
use Rattle.biblatex_content.specs.Ordinary.{State, begun, given, given_text, text_in, dashes, opened, mode_after, marks_after, dollar, sign, command, unit, is_open, settled, step, steps, ended_in, ordinary}
use Rattle.biblatex_readings_grammar.specs.Math.{bars, IsBalanced, nothing, character, escaped, braces}
use Rattle.biblatex_readings_grammar.proofs.Modes.{Mode, Frames, free, argument_of, groups_of, math_of, around, standing, counting, IsReady}
use Rattle.biblatex_readings_grammar.proofs.AccentMarks.{with_marks-letters, done_with, left_with, free_left, done-join, left-join}
use Rattle.biblatex_readings_grammar.proofs.Total.{total, total-more, total-split, total-run, total-nil, tokens-err, tokens-none, tokens-malformed, MakesRun, run_before, text-run, hyphen-run, is_hyphen, tie-at, open-at, close-at, dollar-at, sign-at, end-at, letters-at, CommandAt}
use Rattle.biblatex_readings_grammar.proofs.Dollars.{Standing, own_dollar, own_tie, own_hyphen, own_text, standing_of, spelled}

abbrev pub Members : Type 0
Members = Result (List Member) ContentError

-- ---- from a state on

abbrev pub ended : State → Members
ended r = ended_in r.mode r.frames r.done

abbrev pub run : State → List Token → Members
run s ts = steps (paired ts) s >>= ended

-- what is read of the rest of a text from a state on
abbrev pub whole : List ℕ → State → Members
whole cs s = total (run s) cs

run-step : (s r : State) (t : Token) (ts : List Token) → step (partnered t (dollars_in ts)) s ≡ Ok r → run s (t ∷ ts) ≡ run r ts
run-step s r t ts e = ap (λ (x : Result State ContentError). x >>= (λ q. steps (paired ts) q) >>= ended) e

run-fails : (s : State) (t : Token) (ts : List Token) (f : ContentError) → step (partnered t (dollars_in ts)) s ≡ Err f → run s (t ∷ ts) ≡ Err f
run-fails s t ts f e = ap (λ (x : Result State ContentError). x >>= (λ q. steps (paired ts) q) >>= ended) e

pub whole-step : (cs rest : List ℕ) (t : Token) (s r : State) → token_at cs ≡ Ok (Some t, rest) → ((ts : List Token) → tokens_of rest ≡ Ok ts → step (partnered t (dollars_in ts)) s ≡ Ok r) → whole cs s ≡ whole rest r
whole-step cs rest t s r is same = total-more (run s) (run r) cs rest t is (λ ts e. run-step s r t ts (same ts e))

abbrev refused : ContentError → Members
refused f = Err f

total-refused : (cs : List ℕ) → total (λ ts. refused MalformedCommand) cs ≡ Err MalformedCommand
total-refused cs = by_tokens (tokens_of cs) refl
  where
    by_tokens : (r : Result (List Token) ContentError) → tokens_of cs ≡ r → (r >>= λ ts. refused MalformedCommand) ≡ Err MalformedCommand
    by_tokens (Err f) is = ap refused (tokens-malformed cs f is)
    by_tokens (Ok ts) is = refl

pub whole-fails : (cs rest : List ℕ) (t : Token) (s : State) → token_at cs ≡ Ok (Some t, rest) → ((ts : List Token) → tokens_of rest ≡ Ok ts → step (partnered t (dollars_in ts)) s ≡ Err MalformedCommand) → whole cs s ≡ Err MalformedCommand
whole-fails cs rest t s is same = total-more (run s) (λ ts. refused MalformedCommand) cs rest t is (λ ts e. run-fails s t ts MalformedCommand (same ts e)) ∙ total-refused rest

-- a backslash at the end
pub whole-end : (s : State) → whole (backslash ∷ []) s ≡ Err MalformedCommand
whole-end s = ap (λ (r : Result (List Token) ContentError). r >>= run s) (tokens-err (backslash ∷ []) MalformedCommand end-at)

pub whole-fault : (cs : List ℕ) (f : ContentError) (s : State) → tokens_of cs ≡ Err f → whole cs s ≡ Err MalformedCommand
whole-fault cs f s is = ap (λ (r : Result (List Token) ContentError). r >>= run s) is ∙ ap refused (tokens-malformed cs f is)

-- the end of the text
pub whole-nil : (s : State) → whole [] s ≡ ended s
whole-nil s = total-nil (run s)

-- a whole piece
pub ordinary-whole : (cs : List ℕ) → ordinary cs ≡ whole cs (begun [])
unfolding ordinary paired_of
ordinary-whole cs = bind_bind (tokens_of cs) (λ ts. Ok (paired ts)) (λ ts. steps ts (begun []) >>= ended)

-- ---- what is given

-- the state after members that were given in a state outside math
abbrev pub gave : Kind → Frames → Mode → List Member → List ℕ → List Member → State
gave kind frames mode done marks ms = standing kind frames free (done_with done marks ms) (left_with mode marks ms)

pub given-gave : (kind : Kind) (frames : Frames) (mode : Mode) (done : List Member) (marks cs : List ℕ) → given cs (standing kind frames mode done marks) ≡ gave kind frames mode done marks (letters kind cs)
given-gave kind frames mode done marks [] = refl
given-gave kind frames mode done marks (c ∷ cs) = ap (λ (x : List Member). standing kind frames free (done ++ x) []) (sym (with_marks-letters kind marks (c ∷ cs)))

abbrev fine : State → Result State ContentError
fine s = Ok s

ok_given : (kind : Kind) (frames : Frames) (mode : Mode) (done : List Member) (marks cs : List ℕ) → Ok (given cs (standing kind frames mode done marks)) ≡ fine (gave kind frames mode done marks (letters kind cs))
ok_given kind frames mode done marks cs = ap fine (given-gave kind frames mode done marks cs)

-- in any mode the members that are given after others are given with them
pub gave-join : (kind : Kind) (frames : Frames) (mode : Mode) (done : List Member) (marks : List ℕ) (ms ns : List Member)
    → gave kind frames mode (done_with done marks ms) (left_with free marks ms) ns ≡ gave kind frames mode done marks (ms ++ ns)
gave-join kind frames mode done marks ms ns =
    ap (λ (x : List Member). standing kind frames free x (left_with mode (left_with free marks ms) ns)) (done-join done marks ms ns)
    ∙ ap (λ (x : List ℕ). standing kind frames free (done_with done marks (ms ++ ns)) x) (left-join mode marks ms ns)

-- what is given after a first member
more_given : (kind : Kind) (frames : Frames) (mode : Mode) (done : List Member) (marks : List ℕ) (m : Member) (ns : List Member)
    → gave kind frames free (done_with done marks (m ∷ [])) [] ns ≡ gave kind frames mode done marks (m ∷ ns)
more_given kind frames mode done marks m ns =
    ap (λ (x : List Member). standing kind frames free x (left_with free [] ns)) (done-join done marks (m ∷ []) ns)
    ∙ ap (λ (x : List ℕ). standing kind frames free (done_with done marks (m ∷ ns)) x) (none_left ns)
  where
    none_left : (xs : List Member) → left_with free [] xs ≡ []
    none_left [] = take_all 0 [] (omega arith)
    none_left (x ∷ xs) = refl

-- nothing is given
pub gave-nil : (kind : Kind) (frames : Frames) (done : List Member) (marks : List ℕ) → gave kind frames free done marks [] ≡ standing kind frames free done marks
gave-nil kind frames done marks = ap (λ (x : List ℕ). standing kind frames free done x) (free_left marks)

-- ---- characters, signs and commands

ready-step : (kind : Kind) (frames : Frames) (mode : Mode) (done : List Member) (marks : List ℕ) (t : Token) → IsReady mode
    → step t (standing kind frames mode done marks) ≡ unit t (standing kind frames mode done marks)
unfolding step
ready-step kind frames mode done marks t ready = ready.at t (standing kind frames mode done marks)

pub tie-whole : (kind : Kind) (frames : Frames) (mode : Mode) (done : List Member) (marks rest : List ℕ) → IsReady mode
    → whole (tilde ∷ rest) (standing kind frames mode done marks) ≡ whole rest (gave kind frames mode done marks (letters kind (no_break_space ∷ [])))
tie-whole kind frames mode done marks rest ready =
    whole-step (tilde ∷ rest) rest Tie (standing kind frames mode done marks) _ (tie-at rest) (λ ts e. ready-step kind frames mode done marks Tie ready ∙ ok_given kind frames mode done marks (no_break_space ∷ []))

pub sign-whole : (kind : Kind) (frames : Frames) (mode : Mode) (done : List Member) (marks : List ℕ) (c : ℕ) (rest : List ℕ) → IsReady mode → is_ascii_alphabetic c ≡ false
    → whole (backslash ∷ c ∷ rest) (standing kind frames mode done marks) ≡ whole rest (sign (sign_mark c) c (standing kind frames mode done marks))
sign-whole kind frames mode done marks c rest ready other =
    whole-step (backslash ∷ c ∷ rest) rest (Sign c) (standing kind frames mode done marks) (sign (sign_mark c) c (standing kind frames mode done marks)) (sign-at c rest other)
    (λ ts e. ready-step kind frames mode done marks (Sign c) ready)

pub command-whole : (kind : Kind) (frames : Frames) (mode : Mode) (done : List Member) (marks cs name rest : List ℕ) → IsReady mode → CommandAt cs name rest
    → whole cs (standing kind frames mode done marks) ≡ whole rest (command (letter_mark (text name)) (text name) (standing kind frames mode done marks))
command-whole kind frames mode done marks cs name rest ready c =
    whole-step cs rest (Command name c.blanks) (standing kind frames mode done marks) (command (letter_mark (text name)) (text name) (standing kind frames mode done marks)) c.at
    (λ ts e. ready-step kind frames mode done marks (Command name c.blanks) ready)

-- characters after the first of a run
text-given : (kind : Kind) (frames : Frames) (done : List Member) (marks : List ℕ) (p : List ℕ) (ts : List Token)
    → run (standing kind frames free done marks) (run_before Text p ts) ≡ run (gave kind frames free done marks (letters kind p)) ts
unfolding step
text-given kind frames done marks [] ts = ap (λ (x : State). run x ts) (sym (gave-nil kind frames done marks))
text-given kind frames done marks (c ∷ p) ts = run-step (standing kind frames free done marks) _ (Text (c ∷ p)) ts (ok_given kind frames free done marks (c ∷ p))

pub plain-whole : (kind : Kind) (frames : Frames) (mode : Mode) (done : List Member) (marks : List ℕ) (c : ℕ) (rest : List ℕ) → IsReady mode → is_plain c ≡ true → ((p : List ℕ) → text_in mode (c ∷ p) ≡ c ∷ p)
    → whole (c ∷ rest) (standing kind frames mode done marks) ≡ whole rest (gave kind frames mode done marks (letters kind (c ∷ [])))
plain-whole kind frames mode done marks c rest ready plain kept =
    total-split is_plain Text text-run (run (standing kind frames mode done marks)) (run (gave kind frames mode done marks (letters kind (c ∷ [])))) c rest plain
    (λ p ts e.
    run-step (standing kind frames mode done marks) _ (Text (c ∷ p)) ts
    (ready-step kind frames mode done marks (Text (c ∷ p)) ready
    ∙ (ap (λ (x : List ℕ). fine (given_text x (standing kind frames mode done marks))) (kept p) ∙ ok_given kind frames mode done marks (c ∷ p)))
    ∙ (ap (λ (x : State). run x ts) (sym (more_given kind frames mode done marks (Letter kind c) (letters kind p)))
    ∙ sym (text-given kind frames (done_with done marks (Letter kind c ∷ [])) [] p ts)))

-- blanks before an argument are skipped
pub blank-whole : (kind : Kind) (frames : Frames) (mode : Mode) (waited : List ℕ) (done : List Member) (marks : List ℕ) (c : ℕ) (rest : List ℕ) → is_blank c ≡ true → is_plain c ≡ true
    → whole (c ∷ rest) (standing kind frames (argument_of mode waited) done marks) ≡ whole rest (standing kind frames (argument_of mode waited) done marks)
unfolding step passes
blank-whole kind frames mode waited done marks c rest blank plain =
    let s = standing kind frames (argument_of mode waited) done marks in
    total-split is_plain Text text-run (run s) (run s) c rest plain (λ p ts e. by_rest p ts)
  where
    skips : (p : List ℕ) → after (passes Blank) (c ∷ p) ≡ after (passes Blank) p
    skips p = rw blank refl

    here : (p : List ℕ) (ts : List Token) → run (standing kind frames (argument_of mode waited) done marks) (Text (c ∷ p) ∷ ts) ≡ run (given_text (after (passes Blank) p) (standing kind frames (argument_of mode waited) done marks)) ts
    here p ts =
        run-step (standing kind frames (argument_of mode waited) done marks) _ (Text (c ∷ p)) ts (ap (λ (x : List ℕ). fine (given_text x (standing kind frames (argument_of mode waited) done marks))) (skips p))

    by_rest : (p : List ℕ) (ts : List Token) → run (standing kind frames (argument_of mode waited) done marks) (Text (c ∷ p) ∷ ts) ≡ run (standing kind frames (argument_of mode waited) done marks) (run_before Text p ts)
    by_rest [] ts = here [] ts
    by_rest (d ∷ p) ts = here (d ∷ p) ts ∙ sym (run-step (standing kind frames (argument_of mode waited) done marks) _ (Text (d ∷ p)) ts refl)

-- ---- hyphens

hyphens-given : (kind : Kind) (frames : Frames) (done : List Member) (marks : List ℕ) (p : List ℕ) (ts : List Token)
    → run (standing kind frames free done marks) (run_before Hyphens p ts) ≡ run (gave kind frames free done marks (letters kind (dashes (length p)))) ts
unfolding step
hyphens-given kind frames done marks [] ts = ap (λ (x : State). run x ts) (sym (gave-nil kind frames done marks))
hyphens-given kind frames done marks (c ∷ p) ts = run-step (standing kind frames free done marks) _ (Hyphens (c ∷ p)) ts (ok_given kind frames free done marks (dashes (length (c ∷ p))))

dashes-three : (n : ℕ) → dashes (suc (suc (suc n))) ≡ em_dash ∷ dashes n
dashes-three n =
    let quotient : suc (suc (suc n)) / 3 ≡ suc (n / 3) = omega arith in
    let left : suc (suc (suc n)) % 3 ≡ n % 3 = omega arith in
    rw (quotient, left) refl

pub three-whole : (kind : Kind) (frames : Frames) (done : List Member) (marks rest : List ℕ)
    → whole (hyphen ∷ hyphen ∷ hyphen ∷ rest) (standing kind frames free done marks) ≡ whole rest (gave kind frames free done marks (letters kind (em_dash ∷ [])))
unfolding step
three-whole kind frames done marks rest =
    let s = standing kind frames free done marks in
    let r = gave kind frames free done marks (letters kind (em_dash ∷ [])) in
    let p = prefix_of is_hyphen rest in
    total-more (run s) (λ ts. run r (run_before Hyphens p ts)) (hyphen ∷ hyphen ∷ hyphen ∷ rest) (after is_hyphen rest) (Hyphens (hyphen ∷ hyphen ∷ hyphen ∷ p)) (hyphen-run.at hyphen (hyphen ∷ hyphen ∷ rest) refl)
    (λ ts e.
    run-step s _ (Hyphens (hyphen ∷ hyphen ∷ hyphen ∷ p)) ts (ok_given kind frames free done marks (dashes (length (hyphen ∷ hyphen ∷ hyphen ∷ p))))
    ∙ (ap (λ (x : List ℕ). run (gave kind frames free done marks (letters kind x)) ts) (dashes-three (length p))
    ∙ (ap (λ (x : State). run x ts) (sym (more_given kind frames free done marks (Letter kind em_dash) (letters kind (dashes (length p)))))
    ∙ sym (hyphens-given kind frames (done_with done marks (Letter kind em_dash ∷ [])) [] p ts))))
    ∙ sym (total-run is_hyphen Hyphens hyphen-run (run r) rest)

-- hyphens that no hyphen follows
pub hyphens-whole : (kind : Kind) (frames : Frames) (done : List Member) (marks p rest : List ℕ) → AllPassTest is_hyphen p → Bars is_hyphen rest
    → whole (hyphen ∷ (p ++ rest)) (standing kind frames free done marks) ≡ whole rest (gave kind frames free done marks (letters kind (dashes (length (hyphen ∷ p)))))
unfolding step
hyphens-whole kind frames done marks p rest all bars =
    let s = standing kind frames free done marks in
    let cut = cuts is_hyphen p rest all bars in
    whole-step (hyphen ∷ (p ++ rest)) rest (Hyphens (hyphen ∷ p)) s _
    (hyphen-run.at hyphen (p ++ rest) refl ∙ (ap (λ (x : List ℕ). here x (after is_hyphen (p ++ rest))) cut.prefix ∙ ap (here p) cut.after))
    (λ ts e. ok_given kind frames free done marks (dashes (length (hyphen ∷ p))))
  where
    here : List ℕ → List ℕ → Result (Option Token × List ℕ) ContentError
    here q left = Ok (Some (Hyphens (hyphen ∷ q)), left)

-- the first hyphen of a run is an argument
pub argument_hyphen-whole : (kind : Kind) (frames : Frames) (mode : Mode) (waited : List ℕ) (done : List Member) (marks rest : List ℕ)
    → whole (hyphen ∷ rest) (standing kind frames (argument_of mode waited) done marks) ≡ whole rest (gave kind frames (argument_of mode waited) done marks (letters kind (hyphen ∷ [])))
unfolding step
argument_hyphen-whole kind frames mode waited done marks rest =
    let s = standing kind frames (argument_of mode waited) done marks in
    let r = gave kind frames (argument_of mode waited) done marks (letters kind (hyphen ∷ [])) in
    total-split is_hyphen Hyphens hyphen-run (run s) (run r) hyphen rest refl
    (λ p ts e.
    let one : length (hyphen ∷ p) - 1 ≡ length p = omega arith in
    run-step s _ (Hyphens (hyphen ∷ p)) ts (ap (λ (n : ℕ). fine (given (hyphen ∷ dashes n) s)) one ∙ ok_given kind frames (argument_of mode waited) done marks (hyphen ∷ dashes (length p)))
    ∙ (ap (λ (x : State). run x ts) (sym (more_given kind frames (argument_of mode waited) done marks (Letter kind hyphen) (letters kind (dashes (length p)))))
    ∙ sym (hyphens-given kind frames (done_with done marks (Letter kind hyphen ∷ [])) [] p ts)))

-- ---- groups

pub open-whole : (cs : List ℕ) (s : State) → ((f : Bool) → step (Open f) s ≡ Ok (opened f s)) → whole (open_brace ∷ cs) s ≡ whole cs (opened (begins_command cs) s)
open-whole cs s same = whole-step (open_brace ∷ cs) cs (Open (begins_command cs)) s (opened (begins_command cs) s) (open-at cs) (λ ts e. same (begins_command cs))

pub ready-open : (kind : Kind) (frames : Frames) (mode : Mode) (done : List Member) (marks : List ℕ) (f : Bool) → IsReady mode → step (Open f) (standing kind frames mode done marks) ≡ Ok (opened f (standing kind frames mode done marks))
ready-open kind frames mode done marks f ready = ready-step kind frames mode done marks (Open f) ready

pub groups-open : (kind : Kind) (frames : Frames) (mode : Mode) (waited : List ℕ) (done : List Member) (marks : List ℕ) (f : Bool)
    → step (Open f) (standing kind frames (groups_of mode waited) done marks) ≡ Ok (opened f (standing kind frames (groups_of mode waited) done marks))
unfolding step
groups-open kind frames mode waited done marks f = refl

pub close-whole : (inside kind : Kind) (frames : Frames) (mode : Mode) (done : List Member) (marks cs : List ℕ)
    → whole (close_brace ∷ cs) (standing inside (around kind mode frames) free done marks) ≡ whole cs (standing kind frames (mode_after mode) done (marks_after mode marks))
unfolding step
close-whole inside kind frames mode done marks cs =
    whole-step (close_brace ∷ cs) cs Close (standing inside (around kind mode frames) free done marks) (standing kind frames (mode_after mode) done (marks_after mode marks)) (close-at cs) (λ ts e. refl)

-- a group that was not opened
pub close-fails : (kind : Kind) (done : List Member) (marks cs : List ℕ) → whole (close_brace ∷ cs) (standing kind [] free done marks) ≡ Err MalformedCommand
unfolding step
close-fails kind done marks cs = whole-fails (close_brace ∷ cs) cs Close (standing kind [] free done marks) (close-at cs) (λ ts e. refl)

-- no argument
pub close-no_argument : (kind : Kind) (frames : Frames) (mode : Mode) (waited : List ℕ) (done : List Member) (marks cs : List ℕ) → whole (close_brace ∷ cs) (standing kind frames (argument_of mode waited) done marks) ≡ Err MalformedCommand
unfolding step
close-no_argument kind frames mode waited done marks cs =
    whole-fails (close_brace ∷ cs) cs Close (standing kind frames (argument_of mode waited) done marks) (close-at cs) (λ ts e. refl)

pub nil-no_argument : (kind : Kind) (frames : Frames) (mode : Mode) (waited : List ℕ) (done : List Member) (marks : List ℕ) → whole [] (standing kind frames (argument_of mode waited) done marks) ≡ Err MalformedCommand
nil-no_argument kind frames mode waited done marks = whole-nil (standing kind frames (argument_of mode waited) done marks)

-- a group that is open at the end
pub nil-fails : (inside kind : Kind) (frames : Frames) (mode : Mode) (done : List Member) (marks : List ℕ) → whole [] (standing inside (around kind mode frames) free done marks) ≡ Err MalformedCommand
nil-fails inside kind frames mode done marks = whole-nil (standing inside (around kind mode frames) free done marks)

pub nil-ends : (kind : Kind) (done : List Member) (marks : List ℕ) → whole [] (standing kind [] free done marks) ≡ Ok done
nil-ends kind done marks = whole-nil (standing kind [] free done marks)

-- ---- groups after a command end

abbrev NoOpen : Option Token × List ℕ → Type 0
NoOpen p = IfSome p.0 (λ t. is_open t ≡ false)

either_if_ok : {F A : Type 0} (Q : A → Type 0) (b : Bool) (x y : Result A F) → (b ≡ true → IfOk x Q) → (b ≡ false → IfOk y Q) → IfOk (cond b x y) Q
either_if_ok Q true x y p q = p refl
either_if_ok Q false x y p q = q refl

command-no_open : (cs : List ℕ) → IfOk (command_at cs) NoOpen
command-no_open [] = tt
command-no_open (c ∷ cs) = either_if_ok NoOpen (passes Letter c) (Ok (named_at (c ∷ cs))) (Ok (Some (Sign c), cs)) (λ _. refl) (λ _. refl)

token-no_open : (c : ℕ) (cs : List ℕ) → eqb c open_brace ≡ false → IfOk (token_at (c ∷ cs)) NoOpen
unfolding token_at
token-no_open c cs other =
    either_if_ok NoOpen (eqb c backslash) _ _ (λ _. command-no_open cs) (λ e1.
    either_if_ok NoOpen (eqb c open_brace) _ _ (λ e. absurd (clash (eqb c open_brace) other e)) (λ e2.
    either_if_ok NoOpen (eqb c close_brace) _ _ (λ _. refl) (λ e3.
    either_if_ok NoOpen (eqb c dollar_sign) _ _ (λ _. refl) (λ e4.
    either_if_ok NoOpen (eqb c tilde) _ _ (λ _. refl) (λ e5.
    either_if_ok NoOpen (eqb c hyphen) _ _ (λ _. refl) (λ e6. refl))))))
  where
    clash : (b : Bool) → b ≡ false → b ≡ true → ⊥
    clash true e f = absurd cc
    clash false e f = cc

partnered-open : (t : Token) (bs : List Bool) → is_open (partnered t bs) ≡ is_open t
partnered-open (Text cs) bs = refl
partnered-open (Hyphens cs) bs = refl
partnered-open Tie bs = refl
partnered-open (Open f) bs = refl
partnered-open Close bs = refl
partnered-open (Dollar f) bs = refl
partnered-open (Sign c) bs = refl
partnered-open (Command name blanks) bs = refl

groups_nil : (kind : Kind) (frames : Frames) (mode : Mode) (waited : List ℕ) (done : List Member) (marks : List ℕ)
    → ended (standing kind frames (groups_of mode waited) done marks) ≡ ended (gave kind frames (groups_of mode waited) done marks [])
groups_nil kind [] mode waited done marks = refl
groups_nil kind (f ∷ fs) mode waited done marks = refl

-- a token that opens no group is read as if nothing had been before it
groups_step : (kind : Kind) (frames : Frames) (mode : Mode) (waited : List ℕ) (done : List Member) (marks : List ℕ) (t : Token) (ts : List Token) → is_open t ≡ false
    → run (standing kind frames (groups_of mode waited) done marks) (t ∷ ts) ≡ run (gave kind frames (groups_of mode waited) done marks []) (t ∷ ts)
unfolding step
groups_step kind frames mode waited done marks t ts none =
    ap (λ (x : Bool). unit (partnered t (dollars_in ts)) (settled x (standing kind frames (groups_of mode waited) done marks)) >>= (λ q. steps (paired ts) q) >>= ended) (partnered-open t (dollars_in ts) ∙ none)

pub groups_end-whole : (kind : Kind) (frames : Frames) (mode : Mode) (waited : List ℕ) (done : List Member) (marks cs : List ℕ) → Bars (λ c. eqb c open_brace) cs
    → whole cs (standing kind frames (groups_of mode waited) done marks) ≡ whole cs (gave kind frames (groups_of mode waited) done marks [])
unfolding step
groups_end-whole kind frames mode waited done marks [] bars =
    whole-nil (standing kind frames (groups_of mode waited) done marks) ∙ (groups_nil kind frames mode waited done marks ∙ sym (whole-nil (gave kind frames (groups_of mode waited) done marks [])))
groups_end-whole kind frames mode waited done marks (c ∷ cs) bars = by_token (token_at (c ∷ cs)) refl
  where
    by_token : (r : Result (Option Token × List ℕ) ContentError) → token_at (c ∷ cs) ≡ r
        → whole (c ∷ cs) (standing kind frames (groups_of mode waited) done marks) ≡ whole (c ∷ cs) (gave kind frames (groups_of mode waited) done marks [])
    by_token (Err f) is =
        whole-fault (c ∷ cs) f (standing kind frames (groups_of mode waited) done marks) (tokens-err (c ∷ cs) f is)
        ∙ sym (whole-fault (c ∷ cs) f (gave kind frames (groups_of mode waited) done marks []) (tokens-err (c ∷ cs) f is))
    by_token (Ok (None, rest)) is =
        ap (λ (r : Result (List Token) ContentError). r >>= run (standing kind frames (groups_of mode waited) done marks)) (tokens-none (c ∷ cs) rest is)
        ∙ (groups_nil kind frames mode waited done marks
        ∙ sym (ap (λ (r : Result (List Token) ContentError). r >>= run (gave kind frames (groups_of mode waited) done marks [])) (tokens-none (c ∷ cs) rest is)))
    by_token (Ok (Some t, rest)) is =
        let none : is_open t ≡ false = if_ok_at NoOpen (token_at (c ∷ cs)) (Some t, rest) is (token-no_open c cs bars) in
        total-more (run (standing kind frames (groups_of mode waited) done marks)) (λ ts. run (gave kind frames (groups_of mode waited) done marks []) (t ∷ ts)) (c ∷ cs) rest t is
        (λ ts e. groups_step kind frames mode waited done marks t ts none)
        ∙ sym (total-more (run (gave kind frames (groups_of mode waited) done marks [])) (λ ts. run (gave kind frames (groups_of mode waited) done marks []) (t ∷ ts)) (c ∷ cs) rest t is (λ ts e. refl))

-- ---- dollar signs

pub dollar-whole : (kind : Kind) (frames : Frames) (mode : Mode) (done : List Member) (marks cs : List ℕ) (b : Bool) → IsReady mode → ((ts : List Token) → tokens_of cs ≡ Ok ts → innermost (dollars_in ts) ≡ b)
    → whole (dollar_sign ∷ cs) (standing kind frames mode done marks) ≡ whole cs (dollar b (standing kind frames mode done marks))
dollar-whole kind frames mode done marks cs b ready same =
    whole-step (dollar_sign ∷ cs) cs (Dollar false) (standing kind frames mode done marks) (dollar b (standing kind frames mode done marks)) (dollar-at cs)
    (λ ts e. ap (λ (x : Bool). step (Dollar x) (standing kind frames mode done marks)) (same ts e) ∙ ready-step kind frames mode done marks (Dollar b) ready)

-- ---- math pieces

math-text : (outside : Frames) (kind : Kind) (frames : Frames) (done : List Member) (marks m p : List ℕ) → step (Text p) (counting outside kind frames done marks m) ≡ Ok (counting outside kind frames done marks (m ++ p))
unfolding step
math-text outside kind frames done marks m p = refl

math-hyphens : (outside : Frames) (kind : Kind) (frames : Frames) (done : List Member) (marks m p : List ℕ) → step (Hyphens p) (counting outside kind frames done marks m) ≡ Ok (counting outside kind frames done marks (m ++ p))
unfolding step
math-hyphens outside kind frames done marks m p = refl

-- a token of characters adds them
record Adds (run : List ℕ → Token) (outside : Frames) (kind : Kind) (frames : Frames) (done : List Member) (marks : List ℕ) : Type 0 where
  pub at : (m p : List ℕ) (bs : List Bool) → step (partnered (run p) bs) (counting outside kind frames done marks m) ≡ Ok (counting outside kind frames done marks (m ++ p))

math-run : (test : ℕ → Bool) (token : List ℕ → Token) → MakesRun test token → (outside : Frames) (kind : Kind) (frames : Frames) (done : List Member) (marks m : List ℕ) → Adds token outside kind frames done marks → (c : ℕ) (cs : List ℕ) → test c ≡ true
    → whole (c ∷ cs) (counting outside kind frames done marks m) ≡ whole cs (counting outside kind frames done marks (m ++ c ∷ []))
math-run test token makes outside kind frames done marks m adds c cs is =
    total-split test token makes (run (counting outside kind frames done marks m)) (run (counting outside kind frames done marks (m ++ c ∷ []))) c cs is (λ p ts e. by_rest p ts)
  where
    by_rest : (p : List ℕ) (ts : List Token) → run (counting outside kind frames done marks m) (token (c ∷ p) ∷ ts) ≡ run (counting outside kind frames done marks (m ++ c ∷ [])) (run_before token p ts)
    by_rest [] ts = run-step (counting outside kind frames done marks m) _ (token (c ∷ [])) ts (adds.at m (c ∷ []) (dollars_in ts))
    by_rest (d ∷ p) ts =
        run-step (counting outside kind frames done marks m) _ (token (c ∷ d ∷ p)) ts (adds.at m (c ∷ d ∷ p) (dollars_in ts))
        ∙ (ap (λ (x : List ℕ). run (counting outside kind frames done marks x) ts) (sym (append_assoc m (c ∷ []) (d ∷ p)))
        ∙ sym (run-step (counting outside kind frames done marks (m ++ c ∷ [])) _ (token (d ∷ p)) ts (adds.at (m ++ c ∷ []) (d ∷ p) (dollars_in ts))))

text-adds : (outside : Frames) (kind : Kind) (frames : Frames) (done : List Member) (marks : List ℕ) → Adds Text outside kind frames done marks
text-adds outside kind frames done marks = record { at = λ m p bs. math-text outside kind frames done marks m p }

hyphens-add : (outside : Frames) (kind : Kind) (frames : Frames) (done : List Member) (marks : List ℕ) → Adds Hyphens outside kind frames done marks
hyphens-add outside kind frames done marks = record { at = λ m p bs. math-hyphens outside kind frames done marks m p }

math-plain : (outside : Frames) (kind : Kind) (frames : Frames) (done : List Member) (marks m p rest : List ℕ) → AllPassTest is_plain p
    → whole (p ++ rest) (counting outside kind frames done marks m) ≡ whole rest (counting outside kind frames done marks (m ++ p))
math-plain outside kind frames done marks m [] rest all = ap (λ (x : List ℕ). whole rest (counting outside kind frames done marks x)) (sym (append-nil m))
math-plain outside kind frames done marks m (c ∷ p) rest all =
    math-run is_plain Text text-run outside kind frames done marks m (text-adds outside kind frames done marks) c (p ++ rest) all.0
    ∙ (math-plain outside kind frames done marks (m ++ c ∷ []) p rest all.1 ∙ ap (λ (x : List ℕ). whole rest (counting outside kind frames done marks x)) (append_assoc m (c ∷ []) p))

math-escaped : (outside : Frames) (kind : Kind) (frames : Frames) (done : List Member) (marks m : List ℕ) (c : ℕ) (cs : List ℕ)
    → whole (backslash ∷ c ∷ cs) (counting outside kind frames done marks m) ≡ whole cs (counting outside kind frames done marks (m ++ backslash ∷ c ∷ []))
unfolding step
math-escaped outside kind frames done marks m c cs = by_test (is_ascii_alphabetic c) refl
  where
    at : List ℕ → State
    at x = counting outside kind frames done marks x

    by_test : (b : Bool) → is_ascii_alphabetic c ≡ b → whole (backslash ∷ c ∷ cs) (at m) ≡ whole cs (at (m ++ backslash ∷ c ∷ []))
    by_test true e =
        let s = spelled c cs e in
        let name : List ℕ = prefix_of is_ascii_alphabetic (c ∷ cs) in
        let blanks : List ℕ = prefix_of is_blank (after is_ascii_alphabetic (c ∷ cs)) in
        let rest : List ℕ = after is_blank (after is_ascii_alphabetic (c ∷ cs)) in
        let same : m ++ (backslash ∷ (name ++ blanks)) ≡ (m ++ backslash ∷ c ∷ []) ++ (s.name ++ s.blanks)
        = ap (λ (x : List ℕ). m ++ (backslash ∷ (x ++ blanks))) s.named ∙ (ap (λ (x : List ℕ). m ++ (backslash ∷ c ∷ (s.name ++ x))) s.left ∙ sym (append_assoc m (backslash ∷ c ∷ []) (s.name ++ s.blanks))) in
        whole-step (backslash ∷ c ∷ cs) rest (Command name blanks) (at m) (at (m ++ (backslash ∷ (name ++ blanks)))) (letters-at c cs e) (λ ts is. refl)
        ∙ (ap (λ (x : List ℕ). whole rest (at x)) same
        ∙ (ap (λ (x : List ℕ). whole x (at ((m ++ backslash ∷ c ∷ []) ++ (s.name ++ s.blanks)))) s.after
        ∙ (sym (math-plain outside kind frames done marks (m ++ backslash ∷ c ∷ []) (s.name ++ s.blanks) s.rest s.plain) ∙ ap (λ (x : List ℕ). whole x (at (m ++ backslash ∷ c ∷ []))) (sym s.parts))))
    by_test false e = whole-step (backslash ∷ c ∷ cs) cs (Sign c) (at m) (at (m ++ backslash ∷ c ∷ [])) (sign-at c cs e) (λ ts is. refl)

math-tie : (outside : Frames) (kind : Kind) (frames : Frames) (done : List Member) (marks m cs : List ℕ)
    → whole (tilde ∷ cs) (counting outside kind frames done marks m) ≡ whole cs (counting outside kind frames done marks (m ++ tilde ∷ []))
unfolding step
math-tie outside kind frames done marks m cs =
    whole-step (tilde ∷ cs) cs Tie (counting outside kind frames done marks m) (counting outside kind frames done marks (m ++ tilde ∷ [])) (tie-at cs) (λ ts e. refl)

math-open : (outside : Frames) (kind : Kind) (frames : Frames) (done : List Member) (marks m cs : List ℕ)
    → whole (open_brace ∷ cs) (counting outside kind frames done marks m) ≡ whole cs (counting outside kind (around kind (math_of outside) frames) done marks (m ++ open_brace ∷ []))
unfolding step
math-open outside kind frames done marks m cs =
    whole-step (open_brace ∷ cs) cs (Open (begins_command cs)) (counting outside kind frames done marks m) (counting outside kind (around kind (math_of outside) frames) done marks (m ++ open_brace ∷ [])) (open-at cs) (λ ts e. refl)

math-close : (outside : Frames) (inside kind : Kind) (frames : Frames) (done : List Member) (marks m cs : List ℕ)
    → whole (close_brace ∷ cs) (counting outside inside (around kind (math_of outside) frames) done marks m) ≡ whole cs (counting outside kind frames done marks (m ++ close_brace ∷ []))
unfolding step
math-close outside inside kind frames done marks m cs =
    whole-step (close_brace ∷ cs) cs Close (counting outside inside (around kind (math_of outside) frames) done marks m) (counting outside kind frames done marks (m ++ close_brace ∷ [])) (close-at cs) (λ ts e. refl)

-- a dollar sign within braces
math-dollar : (outside : Frames) (kind : Kind) (frames : Frames) (done : List Member) (marks m cs : List ℕ) → eqb (length frames) (length outside) ≡ false
    → whole (dollar_sign ∷ cs) (counting outside kind frames done marks m) ≡ whole cs (counting outside kind frames done marks (m ++ dollar_sign ∷ []))
unfolding step
math-dollar outside kind frames done marks m cs deeper =
    whole-step (dollar_sign ∷ cs) cs (Dollar false) (counting outside kind frames done marks m) (counting outside kind frames done marks (m ++ dollar_sign ∷ [])) (dollar-at cs) (λ ts e. rw deeper refl)

-- the dollar sign that ends the piece
pub math-ends : (kind : Kind) (frames : Frames) (done : List Member) (marks m cs : List ℕ)
    → whole (dollar_sign ∷ cs) (counting frames kind frames done marks m) ≡ whole cs (standing kind frames free (done ++ Math m ∷ []) marks)
unfolding step
math-ends kind frames done marks m cs =
    let same = eq-eqb (length frames) (length frames) refl in
    whole-step (dollar_sign ∷ cs) cs (Dollar false) (counting frames kind frames done marks m) (standing kind frames free (done ++ Math m ∷ []) marks) (dollar-at cs) (λ ts e. rw same refl)

abbrev deeper : Bool → Frames → Frames → Type 0
deeper within outside frames = (length outside ≤ length frames) × (within ≡ true → length outside < length frames)

no_equal : (a b : ℕ) → b < a → eqb a b ≡ false
no_equal a b less = grind (arith, nat_tests)

math-character : (within : Bool) (outside : Frames) (kind : Kind) (frames : Frames) (done : List Member) (marks m : List ℕ) (c : ℕ) (cs : List ℕ) → Standing within c → deeper within outside frames
    → whole (c ∷ cs) (counting outside kind frames done marks m) ≡ whole cs (counting outside kind frames done marks (m ++ c ∷ []))
math-character within outside kind frames done marks m c cs (own_dollar inside e) deep =
    subst (λ (x : ℕ). whole (x ∷ cs) (counting outside kind frames done marks m) ≡ whole cs (counting outside kind frames done marks (m ++ x ∷ []))) (sym e)
    (math-dollar outside kind frames done marks m cs (no_equal (length frames) (length outside) (deep.1 inside)))
math-character within outside kind frames done marks m c cs (own_tie e) deep =
    subst (λ (x : ℕ). whole (x ∷ cs) (counting outside kind frames done marks m) ≡ whole cs (counting outside kind frames done marks (m ++ x ∷ []))) (sym e) (math-tie outside kind frames done marks m cs)
math-character within outside kind frames done marks m c cs (own_hyphen e) deep = math-run is_hyphen Hyphens hyphen-run outside kind frames done marks m (hyphens-add outside kind frames done marks) c cs e
math-character within outside kind frames done marks m c cs (own_text e) deep = math-run is_plain Text text-run outside kind frames done marks m (text-adds outside kind frames done marks) c cs e

-- a text with balanced braces is added as it is
pub math-balanced : (within : Bool) (t : List ℕ) → IsBalanced within t → (rest : List ℕ) (outside : Frames) (kind : Kind) (frames : Frames) (done : List Member) (marks m : List ℕ) → deeper within outside frames
    → whole (t ++ rest) (counting outside kind frames done marks m) ≡ whole rest (counting outside kind frames done marks (m ++ t))
math-balanced within t (nothing w) rest outside kind frames done marks m deep = ap (λ (x : List ℕ). whole rest (counting outside kind frames done marks x)) (sym (append-nil m))
math-balanced within t (character w c more bar is) rest outside kind frames done marks m deep =
    math-character w outside kind frames done marks m c (more ++ rest) (standing_of w c bar) deep
    ∙ (math-balanced w more is rest outside kind frames done marks (m ++ c ∷ []) deep ∙ ap (λ (x : List ℕ). whole rest (counting outside kind frames done marks x)) (append_assoc m (c ∷ []) more))
math-balanced within t (escaped w c more is) rest outside kind frames done marks m deep =
    math-escaped outside kind frames done marks m c (more ++ rest)
    ∙ (math-balanced w more is rest outside kind frames done marks (m ++ backslash ∷ c ∷ []) deep ∙ ap (λ (x : List ℕ). whole rest (counting outside kind frames done marks x)) (append_assoc m (backslash ∷ c ∷ []) more))
math-balanced within t (braces w inner more inside is) rest outside kind frames done marks m deep =
    let parted : (inner ++ close_brace ∷ more) ++ rest ≡ inner ++ close_brace ∷ (more ++ rest) = append_assoc inner (close_brace ∷ more) rest in
    let within_them : deeper true outside (around kind (math_of outside) frames) = (omega (arith, deep.0), λ e. omega (arith, deep.0)) in
    ap (λ (x : List ℕ). whole (open_brace ∷ x) (counting outside kind frames done marks m)) parted
    ∙ (math-open outside kind frames done marks m (inner ++ close_brace ∷ (more ++ rest))
    ∙ (math-balanced true inner inside (close_brace ∷ (more ++ rest)) outside kind (around kind (math_of outside) frames) done marks (m ++ open_brace ∷ []) within_them
    ∙ (math-close outside kind kind frames done marks ((m ++ open_brace ∷ []) ++ inner) (more ++ rest)
    ∙ (math-balanced w more is rest outside kind frames done marks (((m ++ open_brace ∷ []) ++ inner) ++ close_brace ∷ []) deep
    ∙ ap (λ (x : List ℕ). whole rest (counting outside kind frames done marks x)) (same m inner more)))))
  where
    same : (m inner more : List ℕ) → (((m ++ open_brace ∷ []) ++ inner) ++ close_brace ∷ []) ++ more ≡ m ++ (open_brace ∷ (inner ++ close_brace ∷ more))
    same m inner more =
        append_assoc ((m ++ open_brace ∷ []) ++ inner) (close_brace ∷ []) more
        ∙ (append_assoc (m ++ open_brace ∷ []) inner (close_brace ∷ more) ∙ append_assoc m (open_brace ∷ []) (inner ++ close_brace ∷ more))
