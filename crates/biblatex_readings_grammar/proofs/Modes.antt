-- What comes next in a reading, and the states in which a row begins.
use Rattle.std.proofs.Common.{◌≡◌, ℕ, List, [], refl}
use Rattle.std.specs.Prelude.{true, false, None}
use Rattle.biblatex_content.specs.declared.chunk.Kind.{Kind}
use Rattle.biblatex_content.specs.Styled.{Member}
use Rattle.biblatex_content.specs.Ordinary as reading
use Rattle.biblatex_content.specs.Ordinary.{State, begun, kept_in, opened, dollar, character_or_groups, unit, step_in}
use Rattle.biblatex_tex.specs.Token.{Token}

abbrev type_of : {A : Type 0} → A → Type 0
type_of {A} x = A

abbrev pub Mode : Type 0
Mode = type_of (begun []).mode

abbrev pub Frames : Type 0
Frames = type_of (begun []).frames

-- Anything comes next.
abbrev pub free : Mode
free = (begun []).mode

abbrev before : Mode → List ℕ → State
before mode marks = record (begun []) { mode = mode; marks = marks }

-- The argument of an accent comes next, after a mode in which these marks waited.
abbrev pub argument_of : Mode → List ℕ → Mode
argument_of mode marks = (reading.accented 0 (before mode marks)).mode

-- Groups come next, after a mode in which these marks waited.
abbrev pub groups_of : Mode → List ℕ → Mode
groups_of mode marks = (character_or_groups None (before mode marks)).mode

-- More of a math piece comes next, which began in these groups.
abbrev pub math_of : Frames → Mode
math_of frames = (dollar true (record (begun []) { frames = frames })).mode

-- the groups with one more, which is opened in this kind and mode
abbrev pub around : Kind → Mode → Frames → Frames
around kind mode frames = (opened false (record (begun []) { kind = kind; mode = mode; frames = frames })).frames

-- a state outside math
abbrev pub standing : Kind → Frames → Mode → List Member → List ℕ → State
standing kind frames mode done marks = record { done = done; kind = kind; frames = frames; marks = marks; mode = mode; math = [] }

-- a state in a math piece that began in the groups `outside`
abbrev pub counting : Frames → Kind → Frames → List Member → List ℕ → List ℕ → State
counting outside kind frames done marks math = record { done = done; kind = kind; frames = frames; marks = marks; mode = math_of outside; math = math }

-- In such a mode a token is read by itself.
pub record IsReady (mode : Mode) : Type 0 where
  pub at : (t : Token) (s : State) → step_in mode t s ≡ unit t s

pub free_ready : IsReady free
free_ready = record { at = λ t s. refl }

pub argument_ready : (mode : Mode) (marks : List ℕ) → IsReady (argument_of mode marks)
argument_ready mode marks = record { at = λ t s. refl }
