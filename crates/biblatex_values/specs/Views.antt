-- Which errors are refusals.
use Rattle.std.specs.Prelude.{Option, Some, None}
use Rattle.biblatex_dates.specs.declared.error.TypeErrorKind.{TypeErrorKind}
use Rattle.biblatex_dates.specs.declared.error.TypeErrorKind.TheVariants as faults
use Rattle.biblatex_values.specs.declared.error.ListError.{ListError}
use Rattle.biblatex_values.specs.declared.error.ListError.TheVariants as errors

-- the refusal that an error is; out of memory is none
abbrev pub refusal_of : ListError → Option TypeErrorKind
refusal_of errors.Memory = None
refusal_of errors.Unreadable = Some faults.Unreadable
