-- What the calls of a type return.
use Rattle.std.specs.Prelude.{◌≡◌, List, Option, Some, None, Result, Ok, Err}
use Rattle.biblatex_text.specs.declared.spanned.Spanned.{Spanned}
use Rattle.biblatex_content.specs.declared.chunk.Chunk.{Chunk}
use Rattle.biblatex_content.specs.Views.{span_start, span_end}
use Rattle.biblatex_dates.specs.declared.error.TypeErrorKind.{TypeErrorKind}
use Rattle.biblatex_dates.specs.declared.error.TypeErrorKind.TheVariants as faults
use Rattle.biblatex_values.specs.declared.error.ListError.{ListError}
use Rattle.biblatex_values.specs.declared.error.ListError.TheVariants as list_errors
use Rattle.biblatex_field_types.specs.declared.error.FieldTypeError.{FieldTypeError}
use Rattle.biblatex_field_types.specs.declared.error.FieldTypeError.TheVariants as errors

-- the refusal that an error is; out of memory is none
abbrev pub refusal_of : FieldTypeError → Option TypeErrorKind
refusal_of errors.Memory = None
refusal_of (errors.TypeError e) = Some e.kind

-- A fault stands from where the first chunk begins to where the last one ends.
abbrev pub IsSpanned : {X : Type 0} → Result X FieldTypeError → List (Spanned Chunk) → Type 0
IsSpanned (Ok x) cs = Unit {0}
IsSpanned (Err errors.Memory) cs = Unit {0}
IsSpanned (Err (errors.TypeError e)) cs = (e.span.start ≡ span_start cs) × (e.span.end ≡ span_end cs)

-- a fault of chunks, with their span
abbrev pub fault_at : List (Spanned Chunk) → TypeErrorKind → FieldTypeError
fault_at cs kind = errors.TypeError (record { span = record { start = span_start cs; end = span_end cs }; kind = kind })

-- what was read of chunks, or its fault with their span
abbrev pub with_span : {X : Type 0} → List (Spanned Chunk) → Result X TypeErrorKind → Result X FieldTypeError
with_span cs (Ok x) = Ok x
with_span cs (Err kind) = Err (fault_at cs kind)

-- a list that was read of chunks, or its fault with their span
abbrev pub listed : {X : Type 0} → List (Spanned Chunk) → Result X ListError → Result X FieldTypeError
listed cs (Ok x) = Ok x
listed cs (Err list_errors.Memory) = Err errors.Memory
listed cs (Err list_errors.Unreadable) = Err (fault_at cs faults.Unreadable)
