-- The reading of an ordinary field in the code, as the state that it stands for.
use Rattle.std.specs.Global.{Global}
use Rattle.std.specs.Prelude.{◌≡◌, List, reverse, Option, Some, None, Result, Ok, Err, String}
use Rattle.biblatex_tex.specs.Results.{refusal_of}
use Rattle.biblatex_tex.specs.declared.error.ContentError.{ContentError}
use Rattle.biblatex_content.specs.declared.chunk.Kind.TheVariants.{Normal}
use Rattle.biblatex_content.specs.declared.joining.Joining.{Joining}
use Rattle.biblatex_content.specs.declared.ordinary.Reading.{Reading}
use Rattle.biblatex_content.specs.Ordinary.{State}
use Rattle.biblatex_content.specs.Styled.{Member, letters}
use Rattle.biblatex_content.specs.Views.{joined}
use Rattle.laws.specs.Results.{EndsWith}
use Rattle.laws.specs.Text.{characters}

abbrev pub state_view : Reading → State
state_view r = record {
  done = joined r.contents;
  kind = r.kind;
  frames = reverse r.frames.items;
  marks = r.marks.items;
  mode = r.mode;
  math = characters r.math;
}

-- A text is what a piece of an ordinary field gives, or an error is its refusal; where there is no text, nothing is said.
abbrev pub GivesText : Result (Option (String Global)) ContentError → Result (List Member) ContentError → Type 0
GivesText (Ok None) read = Unit {0}
GivesText (Ok (Some s)) read = read ≡ Ok (letters Normal (characters s))
GivesText (Err e) read = EndsWith (refusal_of e) read

-- The same of what was joined.
abbrev pub GivesJoined : Result (Option Joining) ContentError → Result (List Member) ContentError → Type 0
GivesJoined (Ok None) read = Unit {0}
GivesJoined (Ok (Some j)) read = read ≡ Ok (joined j)
GivesJoined (Err e) read = EndsWith (refusal_of e) read
