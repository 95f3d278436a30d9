-- The content of an ordinary field, as a relation by cases: what is written, in which kind it is read, what it gives, and what follows.
-- Characters are numbers.
use Rattle.std.specs.Prelude.{◌≡◌, ℕ, ◌==◌, List, [], ◌∷◌, ◌++◌, Some, None}
use Rattle.laws.specs.Characters.{dollar_sign, hyphen, backslash, open_brace, close_brace, en_dash, em_dash}
use Rattle.laws.specs.Runs.{Bars}
use Rattle.laws.specs.Text.{text}
use Rattle.biblatex_tex.specs.Accent.{with_mark}
use Rattle.biblatex_tex.specs.Command.{sign_mark, letter_mark, letter_character}
use Rattle.biblatex_content.specs.declared.chunk.Kind.{Kind}
use Rattle.biblatex_content.specs.declared.chunk.Kind.TheVariants.{Normal, Verbatim}
use Rattle.biblatex_content.specs.Styled.{Member, Letter, Math, letters}
use Rattle.biblatex_readings_grammar.specs.Commands.{AreBlanks, IsCommand, Spells}
use Rattle.biblatex_readings_grammar.specs.Math.{IsMath}

-- The mark of an accent goes on the first character of its argument and takes its kind; nothing takes none, and before math it goes.
abbrev pub accented : ℕ → List Member → List Member
accented mark [] = []
accented mark (Letter kind c ∷ ms) = letters kind (with_mark mark (c ∷ [])) ++ ms
accented mark (Math t ∷ ms) = Math t ∷ ms

-- no such character stands there
abbrev pub Lacks : ℕ → List ℕ → Type 0
Lacks mark cs = Bars (λ c. c == mark) cs

mutual
  -- Rows one after the other, each giving its members.
  pub data AreRows : Kind → List ℕ → List Member → List ℕ → Type 0 where
    no_rows : (kind : Kind) (rest : List ℕ) → AreRows kind rest [] rest
    row : (kind : Kind) (cs a rest : List ℕ) (ms ns : List Member) → IsRow kind cs ms a → AreRows kind a ns rest → AreRows kind cs (ms ++ ns) rest

  -- A row of the table; the first that fits.
  pub data IsRow : Kind → List ℕ → List Member → List ℕ → Type 0 where
    -- `---`
    three_hyphens : (kind : Kind) (rest : List ℕ) → IsRow kind (hyphen ∷ hyphen ∷ hyphen ∷ rest) (letters kind (em_dash ∷ [])) rest
    -- `--`
    two_hyphens : (kind : Kind) (rest : List ℕ) → Lacks hyphen rest → IsRow kind (hyphen ∷ hyphen ∷ rest) (letters kind (en_dash ∷ [])) rest
    -- a hyphen alone is itself
    one_hyphen : (kind : Kind) (rest : List ℕ) → Lacks hyphen rest → IsRow kind (hyphen ∷ rest) (letters kind (hyphen ∷ [])) rest
    -- `{..}` whose first character is `\`: its content, in the kind around it
    command_group : (kind : Kind) (a rest : List ℕ) (ms : List Member) → AreRows kind (backslash ∷ a) ms (close_brace ∷ rest) → IsRow kind (open_brace ∷ backslash ∷ a) ms rest
    -- another `{..}`: its content as Verbatim
    group : (kind : Kind) (a rest : List ℕ) (ms : List Member) → Lacks backslash a → AreRows Verbatim a ms (close_brace ∷ rest) → IsRow kind (open_brace ∷ a) ms rest
    -- any other
    unit : (kind : Kind) (cs rest : List ℕ) (ms : List Member) → IsUnit kind cs ms rest → IsRow kind cs ms rest

  -- The rows without hyphens and groups, which may be arguments of accents too.
  pub data IsUnit : Kind → List ℕ → List Member → List ℕ → Type 0 where
    -- what stands for characters
    characters : (kind : Kind) (cs given rest : List ℕ) → Spells cs given rest → IsUnit kind cs (letters kind given) rest
    -- `\` and a sign that is an accent: its argument with the mark
    accent_sign : (kind : Kind) (c mark : ℕ) (a rest : List ℕ) (ms : List Member) → sign_mark c ≡ Some mark → IsArgument kind a ms rest → IsUnit kind (backslash ∷ c ∷ a) (accented mark ms) rest
    -- a command of letters that is an accent: its argument with the mark
    accent_letter : (kind : Kind) (mark : ℕ) (cs name a rest : List ℕ) (ms : List Member) → IsCommand cs name a → letter_mark (text name) ≡ Some mark → IsArgument kind a ms rest → IsUnit kind cs (accented mark ms) rest
    -- another command of letters gives nothing; groups directly after it are read in the kind around it
    passed_over : (kind : Kind) (cs name a rest : List ℕ) (ms : List Member) → IsCommand cs name a → letter_mark (text name) ≡ None → letter_character (text name) ≡ None → AreGroups kind a ms rest → IsUnit kind cs ms rest
    -- `$..$`: a math piece, as written
    math : (kind : Kind) (a t rest : List ℕ) → IsMath a t rest → IsUnit kind (dollar_sign ∷ a) (Math t ∷ []) rest

  -- The argument of an accent: blanks are skipped; then a group in the kind around it, a hyphen, or a row of the others.
  pub data IsArgument : Kind → List ℕ → List Member → List ℕ → Type 0 where
    in_braces : (kind : Kind) (cs a rest : List ℕ) (ms : List Member) → AreBlanks cs (open_brace ∷ a) → AreRows kind a ms (close_brace ∷ rest) → IsArgument kind cs ms rest
    a_hyphen : (kind : Kind) (cs rest : List ℕ) → AreBlanks cs (hyphen ∷ rest) → IsArgument kind cs (letters kind (hyphen ∷ [])) rest
    a_unit : (kind : Kind) (cs a rest : List ℕ) (ms : List Member) → AreBlanks cs a → IsUnit kind a ms rest → IsArgument kind cs ms rest

  -- All the groups that stand directly one after the other, perhaps none.
  pub data AreGroups : Kind → List ℕ → List Member → List ℕ → Type 0 where
    no_groups : (kind : Kind) (rest : List ℕ) → Lacks open_brace rest → AreGroups kind rest [] rest
    a_group : (kind : Kind) (a b rest : List ℕ) (ms ns : List Member) → AreRows kind a ms (close_brace ∷ b) → AreGroups kind b ns rest → AreGroups kind (open_brace ∷ a) (ms ++ ns) rest

-- A piece of an ordinary field is rows that are read as Normal, up to its end.
abbrev pub IsOrdinary : List ℕ → List Member → Type 0
IsOrdinary cs ms = AreRows Normal cs ms []
