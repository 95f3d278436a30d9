-- The content of a field as it is written: run by run, and a chunk after what stands before it.
use Rattle.std.specs.Prelude.{ℕ, Bool, true, false, not, ◌==◌, ◌||◌, List, ◌++◌}
use Rattle.std.specs.Fmt.{WritesInCalls}
use Rattle.std.specs.List.{flat_map}
use Rattle.laws.specs.Characters.{backslash, circumflex, tilde, no_break_space}
use Rattle.laws.specs.Text.{text}
use Rattle.biblatex_content.specs.Styled.{Member}
use Rattle.biblatex_content.specs.Verbatim.{is_escapable}
use Rattle.biblatex_content.specs.Writing.{written_character, written_as_is, written_from}

-- a character of a field, verbatim or ordinary, as it is written
abbrev pub written_in : Bool → ℕ → List ℕ
written_in true c = written_as_is c
written_in false c = written_character c

-- characters one after the other
abbrev pub spelled : Bool → List ℕ → List ℕ
spelled is_verbatim cs = flat_map (written_in is_verbatim) cs

-- whether a character is written after a backslash, by a command, or as another one
abbrev pub is_special : Bool → ℕ → Bool
is_special true c = is_escapable c true false
is_special false c = c == backslash || c == tilde || c == circumflex || c == no_break_space || is_escapable c false false

-- whether it is written as it is
abbrev pub stands_as_it_is : Bool → ℕ → Bool
stands_as_it_is is_verbatim c = not (is_special is_verbatim c)

-- what is written of the characters ds after v is, with what took the target from w to v, written of cs
abbrev pub LeavesSpelled : {W : Type 0} → (W → List ℕ → W → Type 0) → Bool → W → List ℕ → W → List ℕ → Type 0
LeavesSpelled took is_verbatim w cs v ds = (u : _) → WritesInCalls took v (text (spelled is_verbatim ds)) u → WritesInCalls took w (text (spelled is_verbatim cs)) u

-- members of an ordinary field were written where a group may have been open, and one may be open after them: whatever members follow, what is
-- written of these is, with what took the target from w to v, written of all
abbrev pub WritesMembers : {W : Type 0} → (W → List ℕ → W → Type 0) → W → Bool → List Member → W → Bool → Type 0
WritesMembers took w is_open ms v is_next = (more : List Member) (u : _) → WritesInCalls took v (text (written_from is_next more)) u → WritesInCalls took w (text (written_from is_open (ms ++ more))) u
