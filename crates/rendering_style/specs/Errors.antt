-- Refusals and styles as they lie in memory.
use Rattle.std.specs.Prelude.{Option, Some, None, string_bytes}
use Rattle.rendering_style.specs.Opening.{Refusal, macro_ring, too_deep}
use Rattle.rendering_style.specs.declared.error.StyleError.{StyleError}
use Rattle.rendering_style.specs.declared.error.StyleError.TheVariants as errors

-- the refusal that an error is; out of memory is none
abbrev pub refusal_of : StyleError → Option Refusal
refusal_of errors.Memory = None
refusal_of (errors.MacroRing name) = Some (macro_ring (string_bytes name))
refusal_of errors.TooDeep = Some too_deep
