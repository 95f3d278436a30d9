-- How a styled text is written, so that reading it gives it back where it is tidy and no two of its hyphens are neighbours.
use Rattle.std.specs.Prelude.{ℕ, Bool, true, false, ◌==◌, List, [], ◌∷◌, ◌++◌, if◌then◌else◌, codes, String}
use Rattle.std.specs.List.{flat_map}
use Rattle.std.specs.Global.{Global}
use Rattle.biblatex_content.specs.declared.chunk.Kind.{Kind}
use Rattle.biblatex_content.specs.declared.chunk.Kind.TheVariants.{Normal, Verbatim}
use Rattle.biblatex_content.specs.Styled.{Member, Letter, Math}
use Rattle.biblatex_tex.specs.Token.{begins_command}
use Rattle.biblatex_content.specs.Verbatim.{is_escapable}
use Rattle.laws.specs.Characters.{dollar_sign, backslash, circumflex, open_brace, close_brace, tilde, no_break_space}
use Rattle.laws.specs.Text.{characters}

-- a character, after a backslash or not
abbrev pub escaped : Bool → ℕ → List ℕ
escaped true c = backslash ∷ c ∷ []
escaped false c = c ∷ []

-- a character of an ordinary field: some after a backslash, some by a command, a no-break space as a tie
abbrev pub written_character : ℕ → List ℕ
written_character c = if c == backslash then codes "\\textbackslash{}"
    else (if c == tilde then codes "\\textasciitilde{}"
    else (if c == circumflex then codes "\\textasciicircum{}"
    else (if c == no_break_space then tilde ∷ [] else escaped (is_escapable c false false) c)))

-- an empty group, where else a group would begin with a command
abbrev pub guard : List ℕ → List ℕ
guard cs = if begins_command cs then open_brace ∷ close_brace ∷ [] else []

-- the end of a group, if one is open
abbrev pub closing : Bool → List ℕ
closing true = close_brace ∷ []
closing false = []

-- what stands before a character of the kind, where a group of verbatim characters may be open: the end of the group before
-- a normal one, the start of a group before a verbatim one
abbrev pub turning : Bool → Kind → ℕ → List ℕ
turning is_open Normal c = closing is_open
turning true Verbatim c = []
turning false Verbatim c = open_brace ∷ guard (written_character c)

-- characters of this kind stand in a group
abbrev pub is_grouped : Kind → Bool
is_grouped Normal = false
is_grouped Verbatim = true

-- an ordinary field, where a group may be open: verbatim characters stand in braces, math between dollar signs
abbrev pub written_from : Bool → List Member → List ℕ
written_from is_open [] = closing is_open
written_from is_open (Letter kind c ∷ ms) = turning is_open kind c ++ written_character c ++ written_from (is_grouped kind) ms
written_from is_open (Math text ∷ ms) = closing is_open ++ dollar_sign ∷ text ++ dollar_sign ∷ written_from false ms

abbrev pub written_ordinary : List Member → List ℕ
written_ordinary ms = written_from false ms

-- a character of a verbatim field: braces and backslashes after a backslash
abbrev pub written_as_is : ℕ → List ℕ
written_as_is c = escaped (is_escapable c true false) c

-- a verbatim field, in which math is text too
abbrev pub written_verbatim : List Member → List ℕ
written_verbatim [] = []
written_verbatim (Letter kind c ∷ ms) = written_as_is c ++ written_verbatim ms
written_verbatim (Math text ∷ ms) = flat_map written_as_is text ++ written_verbatim ms

-- a field, verbatim or ordinary
abbrev pub written_content : Bool → List Member → List ℕ
written_content false ms = written_ordinary ms
written_content true ms = written_verbatim ms

-- an ordinary field of which this text stands already, where a group may be open and these members are to come
abbrev pub written_after : String Global → Bool → List Member → List ℕ
written_after text is_open ms = characters text ++ written_from is_open ms
