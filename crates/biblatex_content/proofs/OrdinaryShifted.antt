-- What was read before a piece stands before what the piece gives.
use Rattle.std.proofs.Common.{◌≡◌, ℕ, Bool, true, false, cond, List, [], ◌∷◌, ◌++◌, length, Option, Some, None, Result, Ok, Err, refl, sym, ap, ◌∙◌, append_assoc}
use Rattle.std.specs.Prelude.{◌==◌, ◌&&◌}
use Rattle.std.proofs.lemmas.List.{append-nil}
use Rattle.laws.specs.Characters.{dollar_sign, no_break_space}
use Rattle.laws.specs.Results.{◌>>=◌}
use Rattle.laws.specs.Text.{text}
use Rattle.biblatex_tex.specs.declared.error.ContentError.{ContentError}
use Rattle.biblatex_content.specs.declared.ordinary.Frame.{Frame}
use Rattle.biblatex_content.specs.declared.ordinary.Mode.{Mode}
use Rattle.biblatex_content.specs.declared.ordinary.Mode.TheVariants.{Free, Argument, Groups, InMath}
use Rattle.biblatex_tex.specs.Accent.{marked}
use Rattle.biblatex_tex.specs.Command.{sign_mark, letter_mark, letter_character}
use Rattle.biblatex_content.specs.Ordinary.{State, given, given_text, text_in, hyphens_in, closed_to, closed_in, sign, command, character_or_groups, unit, settled, is_open, braces, is_dollar, in_math, step_in, step, steps, ended_in, begun, ordinary}
use Rattle.biblatex_content.specs.Styled.{Member, Math, letters}
use Rattle.biblatex_tex.specs.Token.{Token, Text, Hyphens, Tie, Open, Close, Dollar, Sign, Command, written, paired_of}
use Rattle.biblatex_content.specs.Views.{following}

-- the same state after these members
abbrev shift : List Member → State → State
shift p s = record s { done = p ++ s.done }

abbrev shifted : List Member → Result State ContentError → Result State ContentError
shifted p r = r >>= λ s. Ok (shift p s)

given-shift : (p : List Member) (cs : List ℕ) (s : State) → given cs (shift p s) ≡ shift p (given cs s)
given-shift p [] s = refl
given-shift p (c ∷ cs) s = ap (λ (d : List Member). record s { done = d; marks = []; mode = Free }) (append_assoc p s.done (letters s.kind (marked s.marks (c ∷ cs))))

given_ok-shift : (p : List Member) (cs : List ℕ) (s : State) → Ok (given cs (shift p s)) ≡ shifted p (Ok (given cs s))
given_ok-shift p cs s = ap (λ (x : State). Ok x) (given-shift p cs s)

text-shift : (p : List Member) (cs : List ℕ) (s : State) → Ok (given_text cs (shift p s)) ≡ shifted p (Ok (given_text cs s))
text-shift p [] s = refl
text-shift p (c ∷ cs) s = given_ok-shift p (c ∷ cs) s

closed_to-shift : (p : List Member) (fs : List Frame) (s : State) → closed_to fs (shift p s) ≡ shifted p (closed_to fs s)
closed_to-shift p [] s = refl
closed_to-shift p (f ∷ fs) s = refl

closed_in-shift : (p : List Member) (mode : Mode) (s : State) → closed_in mode (shift p s) ≡ shifted p (closed_in mode s)
closed_in-shift p (Argument kept) s = refl
closed_in-shift p Free s = closed_to-shift p s.frames s
closed_in-shift p (Groups kept) s = closed_to-shift p s.frames s
closed_in-shift p (InMath depth) s = closed_to-shift p s.frames s

sign-shift : (p : List Member) (mark : Option ℕ) (c : ℕ) (s : State) → Ok (sign mark c (shift p s)) ≡ shifted p (Ok (sign mark c s))
sign-shift p (Some mark) c s = refl
sign-shift p None c s = given_ok-shift p _ s

character-shift : (p : List Member) (c : Option ℕ) (s : State) → Ok (character_or_groups c (shift p s)) ≡ shifted p (Ok (character_or_groups c s))
character-shift p (Some c) s = given_ok-shift p (c ∷ []) s
character-shift p None s = refl

command-shift : (p : List Member) (mark : Option ℕ) (name : List ℕ) (s : State) → Ok (command mark name (shift p s)) ≡ shifted p (Ok (command mark name s))
command-shift p (Some mark) name s = refl
command-shift p None name s = character-shift p (letter_character name) s

unit-shift : (p : List Member) (t : Token) (s : State) → unit t (shift p s) ≡ shifted p (unit t s)
unit-shift p (Text cs) s = text-shift p (text_in s.mode cs) s
unit-shift p (Hyphens cs) s = given_ok-shift p (hyphens_in s.mode (length cs)) s
unit-shift p Tie s = given_ok-shift p (no_break_space ∷ []) s
unit-shift p (Open is_command) s = refl
unit-shift p Close s = closed_in-shift p s.mode s
unit-shift p (Dollar true) s = refl
unit-shift p (Dollar false) s = given_ok-shift p (dollar_sign ∷ []) s
unit-shift p (Sign c) s = sign-shift p (sign_mark c) c s
unit-shift p (Command name blanks) s = command-shift p (letter_mark (text name)) (text name) s

braces-shift : (p : List Member) (t : Token) (s : State) → braces t (shift p s) ≡ shifted p (braces t s)
braces-shift p (Open is_command) s = refl
braces-shift p Close s = closed_to-shift p s.frames s
braces-shift p (Text cs) s = refl
braces-shift p (Hyphens cs) s = refl
braces-shift p Tie s = refl
braces-shift p (Dollar has_partner) s = refl
braces-shift p (Sign c) s = refl
braces-shift p (Command name blanks) s = refl

-- a further token of a math piece
abbrev more_math : Token → Result State ContentError → Result State ContentError
more_math t r = r >>= λ s. Ok (record s { math = s.math ++ written t })

more_math-shift : (p : List Member) (t : Token) (r : Result State ContentError) → more_math t (shifted p r) ≡ shifted p (more_math t r)
more_math-shift p t (Ok s) = refl
more_math-shift p t (Err f) = refl

abbrev math_end : State → State
math_end s = record s { done = s.done ++ Math s.math ∷ []; math = []; mode = Free }

in_math-shift : (p : List Member) (depth : ℕ) (t : Token) (s : State) → in_math depth t (shift p s) ≡ shifted p (in_math depth t s)
in_math-shift p depth t s = by_test (is_dollar t && length s.frames == depth)
  where
    ends : Ok (math_end (shift p s)) ≡ shifted p (Ok (math_end s))
    ends = ap (λ (d : List Member). Ok (record s { done = d; math = []; mode = Free })) (append_assoc p s.done (Math s.math ∷ []))

    by_test : (b : Bool) → cond b (Ok (math_end (shift p s))) (more_math t (braces t (shift p s))) ≡ shifted p (cond b (Ok (math_end s)) (more_math t (braces t s)))
    by_test true = ends
    by_test false = ap (more_math t) (braces-shift p t s) ∙ more_math-shift p t (braces t s)

settled_unit-shift : (p : List Member) (opens : Bool) (t : Token) (s : State) → unit t (settled opens (shift p s)) ≡ shifted p (unit t (settled opens s))
settled_unit-shift p true t s = unit-shift p t s
settled_unit-shift p false t s = unit-shift p t (given [] s)

step_in-shift : (p : List Member) (mode : Mode) (t : Token) (s : State) → step_in mode t (shift p s) ≡ shifted p (step_in mode t s)
step_in-shift p (InMath depth) t s = in_math-shift p depth t s
step_in-shift p Free t s = unit-shift p t s
step_in-shift p (Argument kept) t s = unit-shift p t s
step_in-shift p (Groups kept) t s = settled_unit-shift p (is_open t) t s

step-shift : (p : List Member) (t : Token) (s : State) → step t (shift p s) ≡ shifted p (step t s)
unfolding step
step-shift p t s = step_in-shift p s.mode t s

steps-shift : (p : List Member) (ts : List Token) (s : State) → steps ts (shift p s) ≡ shifted p (steps ts s)
steps-shift p [] s = refl
steps-shift p (t ∷ ts) s = ap (λ (r : Result State ContentError). r >>= λ x. steps ts x) (step-shift p t s) ∙ by_step (λ x. steps-shift p ts x) (step t s)
  where
    by_step : ((x : State) → steps ts (shift p x) ≡ shifted p (steps ts x)) → (r : Result State ContentError) → (shifted p r >>= λ x. steps ts x) ≡ shifted p (r >>= λ x. steps ts x)
    by_step more (Ok x) = more x
    by_step more (Err f) = refl

ended-shift : (p : List Member) (mode : Mode) (fs : List Frame) (done : List Member) → ended_in mode fs (p ++ done) ≡ following p (ended_in mode fs done)
ended-shift p Free [] done = refl
ended-shift p (Groups kept) [] done = refl
ended-shift p Free (f ∷ fs) done = refl
ended-shift p (Groups kept) (f ∷ fs) done = refl
ended-shift p (Argument kept) fs done = refl
ended-shift p (InMath depth) fs done = refl

-- a piece that is read after these members
abbrev pub onto : List Member → Result (List Token) ContentError → Result (List Member) ContentError
onto p tokens = tokens >>= λ ts. steps ts (begun p) >>= λ s. ended_in s.mode s.frames s.done

ended_all-shift : (p : List Member) (r : Result State ContentError) → (shifted p r >>= λ s. ended_in s.mode s.frames s.done) ≡ following p (r >>= λ s. ended_in s.mode s.frames s.done)
ended_all-shift p (Ok s) = ended-shift p s.mode s.frames s.done
ended_all-shift p (Err f) = refl

onto-shift : (p : List Member) (tokens : Result (List Token) ContentError) → onto p tokens ≡ following p (onto [] tokens)
onto-shift p (Err f) = refl
onto-shift p (Ok ts) =
    ap (λ (d : List Member). steps ts (begun d) >>= λ s. ended_in s.mode s.frames s.done) (sym (append-nil p))
    ∙ (ap (λ (r : Result State ContentError). r >>= λ s. ended_in s.mode s.frames s.done) (steps-shift p ts (begun [])) ∙ ended_all-shift p (steps ts (begun [])))

-- what was read before a piece stands before what the piece gives
pub ordinary-following : (p : List Member) (cs : List ℕ) → onto p (paired_of cs) ≡ following p (ordinary cs)
unfolding ordinary
ordinary-following p cs = onto-shift p (paired_of cs)
