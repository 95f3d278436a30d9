-- Reading an ordinary field, token by token.
use Rattle.std.specs.Prelude.{ℕ, ◌-◌, ◌/◌, ◌%◌, Bool, true, false, ◌==◌, ◌&&◌, List, [], ◌∷◌, ◌++◌, length, take, replicate, if◌then◌else◌, Option, Some, None, Result, Ok, Err}
use Rattle.laws.specs.Characters.{dollar_sign, hyphen, no_break_space, en_dash, em_dash}
use Rattle.laws.specs.Results.{◌>>=◌}
use Rattle.laws.specs.Runs.{after}
use Rattle.laws.specs.Text.{text}
use Rattle.biblatex_tex.specs.Character.{passes}
use Rattle.biblatex_tex.specs.declared.character.Class.TheVariants.{Blank}
use Rattle.biblatex_content.specs.declared.chunk.Kind.{Kind}
use Rattle.biblatex_content.specs.declared.chunk.Kind.TheVariants.{Normal, Verbatim}
use Rattle.biblatex_tex.specs.declared.error.ContentError.{ContentError}
use Rattle.biblatex_tex.specs.declared.error.ContentError.TheVariants.{MalformedCommand}
use Rattle.biblatex_content.specs.declared.ordinary.Mode.{Mode}
use Rattle.biblatex_content.specs.declared.ordinary.Mode.TheVariants.{Free, Argument, Groups, InMath}
use Rattle.biblatex_content.specs.declared.ordinary.Frame.{Frame}
use Rattle.biblatex_content.specs.Styled.{Member, Math, letters}
use Rattle.biblatex_tex.specs.Accent.{marked}
use Rattle.biblatex_tex.specs.Command.{sign_mark, sign_text, letter_mark, letter_character}
use Rattle.biblatex_tex.specs.Token.{Token, Text, Hyphens, Tie, Open, Close, Dollar, Sign, Command, written, paired_of}

-- What has been read: the members so far, the kind that is read in, the groups that are open (the innermost first) with
-- the kind and the mode around each, the marks that wait for a character (the last to come is the first to be put on),
-- and the math piece that has been begun. The mode says what comes next: anything; the argument of an accent, or groups
-- directly after a command, with the number of marks that still wait where these give nothing; or more of a math piece,
-- with the number of groups round it.
pub record State : Type 0 where
  pub done : List Member
  pub kind : Kind
  pub frames : List Frame
  pub marks : List ℕ
  pub mode : Mode
  pub math : List ℕ

-- a run of hyphens, three by three
abbrev pub last_dash : ℕ → List ℕ
last_dash n = if n == 1 then hyphen ∷ [] else (if n == 2 then en_dash ∷ [] else [])

abbrev pub dashes : ℕ → List ℕ
dashes n = replicate (n / 3) em_dash ++ last_dash (n % 3)

-- the first hyphen of a run is an argument by itself
abbrev pub hyphens_in : Mode → ℕ → List ℕ
hyphens_in (Argument kept) n = hyphen ∷ dashes (n - 1)
hyphens_in mode n = dashes n

-- blanks before an argument are skipped
abbrev pub text_in : Mode → List ℕ → List ℕ
text_in (Argument kept) cs = after (passes Blank) cs
text_in mode cs = cs

-- how many marks still wait where what is read now gives nothing
abbrev pub kept_in : Mode → List ℕ → ℕ
kept_in (Argument kept) marks = kept
kept_in (Groups kept) marks = kept
kept_in mode marks = length marks

-- characters, of which the first takes the marks that wait
abbrev pub marked_after : List ℕ → State → State
marked_after cs s = record s { done = s.done ++ letters s.kind (marked s.marks cs); marks = [] }

-- characters are given; where there is none, the marks that waited for it go
abbrev pub given : List ℕ → State → State
given [] s = record s { marks = take (kept_in s.mode s.marks) s.marks; mode = Free }
given (c ∷ cs) s = record (marked_after (c ∷ cs) s) { mode = Free }

-- blanks before an argument are no argument
abbrev pub given_text : List ℕ → State → State
given_text [] s = s
given_text (c ∷ cs) s = given (c ∷ cs) s

-- an accent waits for its argument
abbrev pub accented : ℕ → State → State
accented mark s = record s { marks = s.marks ++ mark ∷ []; mode = Argument (kept_in s.mode s.marks) }

-- a group is Verbatim, unless it begins with a backslash, or is an argument, or follows a command that is passed over
abbrev pub kind_in : Mode → Bool → Kind → Kind
kind_in Free is_command kind = if is_command then kind else Verbatim
kind_in mode is_command kind = kind

abbrev pub mode_in : Mode → Mode
mode_in (InMath depth) = InMath depth
mode_in mode = Free

-- a group begins
abbrev pub opened : Bool → State → State
opened is_command s = record s {
  frames = record { kind = s.kind; mode = s.mode } ∷ s.frames;
  kind = kind_in s.mode is_command s.kind;
  mode = mode_in s.mode;
}

-- after an argument its marks wait no more
abbrev pub mode_after : Mode → Mode
mode_after (Argument kept) = Free
mode_after mode = mode

abbrev pub marks_after : Mode → List ℕ → List ℕ
marks_after (Argument kept) marks = take kept marks
marks_after mode marks = marks

-- a group ends, if one is open
abbrev pub closed_to : List Frame → State → Result State ContentError
closed_to [] s = Err MalformedCommand
closed_to (f ∷ fs) s = Ok (record s { frames = fs; kind = f.kind; marks = marks_after f.mode s.marks; mode = mode_after f.mode })

-- no accent may wait for an argument at the end of a group
abbrev pub closed_in : Mode → State → Result State ContentError
closed_in (Argument kept) s = Err MalformedCommand
closed_in mode s = closed_to s.frames s

-- math begins, and takes no mark; a dollar sign without a partner is itself
abbrev pub dollar : Bool → State → State
dollar true s = record s { marks = []; mode = InMath (length s.frames) }
dollar false s = given (dollar_sign ∷ []) s

-- a backslash and a sign: the mark of an accent waits for its argument, another sign gives what it stands for
abbrev pub sign : Option ℕ → ℕ → State → State
sign (Some mark) c s = accented mark s
sign None c s = given (sign_text c) s

-- a command of letters: an accent, a character, or one that is passed over for the groups directly after it
abbrev pub character_or_groups : Option ℕ → State → State
character_or_groups (Some c) s = given (c ∷ []) s
character_or_groups None s = record s { mode = Groups (kept_in s.mode s.marks) }

abbrev pub command : Option ℕ → List ℕ → State → State
command (Some mark) name s = accented mark s
command None name s = character_or_groups (letter_character name) s

-- a token outside math
abbrev pub unit : Token → State → Result State ContentError
unit (Text cs) s = Ok (given_text (text_in s.mode cs) s)
unit (Hyphens cs) s = Ok (given (hyphens_in s.mode (length cs)) s)
unit Tie s = Ok (given (no_break_space ∷ []) s)
unit (Open is_command) s = Ok (opened is_command s)
unit Close s = closed_in s.mode s
unit (Dollar has_partner) s = Ok (dollar has_partner s)
unit (Sign c) s = Ok (sign (sign_mark c) c s)
unit (Command name blanks) s = Ok (command (letter_mark (text name)) (text name) s)

abbrev pub is_open : Token → Bool
is_open (Open is_command) = true
is_open t = false

-- groups after a command end where something else than a group follows
abbrev pub settled : Bool → State → State
settled true s = s
settled false s = given [] s

-- braces in a math piece open and close groups, and other tokens change none
abbrev pub braces : Token → State → Result State ContentError
braces (Open is_command) s = Ok (opened is_command s)
braces Close s = closed_to s.frames s
braces t s = Ok s

abbrev pub is_dollar : Token → Bool
is_dollar (Dollar has_partner) = true
is_dollar t = false

-- a token in a math piece: the dollar sign at its own depth ends it, all else stays as written
abbrev pub in_math : ℕ → Token → State → Result State ContentError
in_math depth t s = if is_dollar t && length s.frames == depth
    then Ok (record s { done = s.done ++ Math s.math ∷ []; math = []; mode = Free })
    else (braces t s >>= λ r. Ok (record r { math = r.math ++ written t }))

abbrev pub step_in : Mode → Token → State → Result State ContentError
step_in (InMath depth) t s = in_math depth t s
step_in (Groups kept) t s = unit t (settled (is_open t) s)
step_in mode t s = unit t s

unfoldable pub step : Token → State → Result State ContentError
step t s = step_in s.mode t s

abbrev pub steps : List Token → State → Result State ContentError
steps [] s = Ok s
steps (t ∷ ts) s = step t s >>= λ r. steps ts r

-- at the end no group is open, and no accent waits
abbrev pub ended_in : Mode → List Frame → List Member → Result (List Member) ContentError
ended_in Free [] done = Ok done
ended_in (Groups kept) [] done = Ok done
ended_in mode fs done = Err MalformedCommand

-- at the start of a piece, after what was read before it
abbrev pub begun : List Member → State
begun done = record { done = done; kind = Normal; frames = []; marks = []; mode = Free; math = [] }

-- whether a token is a text or a run of hyphens
abbrev pub is_run : Token → Bool
is_run (Text cs) = true
is_run (Hyphens cs) = true
is_run t = false

-- what such a token gives outside groups
abbrev pub shown : Token → List ℕ
shown (Text cs) = cs
shown (Hyphens cs) = dashes (length cs)
shown t = []

-- what a piece of an ordinary field gives
unfoldable pub ordinary : List ℕ → Result (List Member) ContentError
ordinary cs = do
  tokens ← paired_of cs
  s ← steps tokens (begun [])
  ended_in s.mode s.frames s.done
