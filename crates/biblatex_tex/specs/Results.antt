-- Which errors are refusals.
use Rattle.std.specs.Prelude.{Option, Some, None}
use Rattle.biblatex_tex.specs.declared.error.ContentError.{ContentError}
use Rattle.biblatex_tex.specs.declared.error.ContentError.TheVariants.{Memory, MalformedCommand}

-- the refusal that an error is; out of memory is none
abbrev pub refusal_of : ContentError → Option ContentError
refusal_of Memory = None
refusal_of MalformedCommand = Some MalformedCommand
