-- Refusals as they lie in memory, and the message for them.
use Rattle.std.specs.Prelude.{ℕ, List, ◌++◌, Option, Some, None, string_bytes, codes}
use Rattle.biblatex_text.specs.Token.{token_name}
use Rattle.biblatex_text.specs.declared.token.Fault.{Fault}
use Rattle.biblatex_text.specs.declared.token.Fault.TheVariants as faults
use Rattle.biblatex_fields.specs.Refusals.{Reason, raw, unknown_abbreviation, abbreviation_cycle, malformed_command, duplicate_key, reference_cycle, unreadable_date, Refusal}
use Rattle.biblatex_fields.specs.declared.error.ParseErrorKind.{ParseErrorKind}
use Rattle.biblatex_fields.specs.declared.error.ParseErrorKind.TheVariants as kinds
use Rattle.biblatex_fields.specs.declared.error.ParseError.{ParseError}
use Rattle.biblatex_fields.specs.declared.error.ParseError.TheVariants as errors

abbrev pub reason_view : ParseErrorKind → Reason
reason_view kinds.UnexpectedEof = raw faults.UnexpectedEof
reason_view (kinds.Unexpected token) = raw (faults.Unexpected token)
reason_view (kinds.Expected token) = raw (faults.Expected token)
reason_view (kinds.UnknownAbbreviation name) = unknown_abbreviation (string_bytes name)
reason_view (kinds.AbbreviationCycle name) = abbreviation_cycle (string_bytes name)
reason_view kinds.MalformedCommand = malformed_command
reason_view (kinds.DuplicateKey key) = duplicate_key (string_bytes key)
reason_view (kinds.ReferenceCycle key) = reference_cycle (string_bytes key)
reason_view (kinds.ResolutionError kind) = unreadable_date kind

-- the refusal that an error is; out of memory is none
abbrev pub refusal_of : ParseError → Option Refusal
refusal_of errors.Memory = None
refusal_of (errors.Refused kind span) = Some (record { reason = reason_view kind; start = span.start; end = span.end })

-- why a text is not of the raw grammar
abbrev pub fault_text : Fault → List ℕ
fault_text faults.UnexpectedEof = codes "unexpected end of file"
fault_text (faults.Unexpected token) = codes "unexpected " ++ token_name token
fault_text (faults.Expected token) = codes "expected " ++ token_name token

-- why a text is refused
abbrev pub reason_text : Reason → List ℕ
reason_text (raw fault) = fault_text fault
reason_text (unknown_abbreviation name) = codes "unknown abbreviation " ++ name
reason_text (abbreviation_cycle name) = codes "circular abbreviation " ++ name
reason_text malformed_command = codes "malformed command"
reason_text (duplicate_key key) = codes "duplicate key " ++ key
reason_text (reference_cycle key) = codes "circular reference " ++ key
reason_text (unreadable_date kind) = codes "unreadable date"

-- the message for an error
abbrev pub error_text : ParseError → List ℕ
error_text errors.Memory = codes "out of memory"
error_text (errors.Refused kind span) = reason_text (reason_view kind)
