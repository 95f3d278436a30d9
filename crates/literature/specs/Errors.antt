-- The message for faults and errors.
use Rattle.std.specs.Prelude.{ℕ, List, ◌++◌, string_bytes, codes}
use Rattle.laws.specs.Text.{text}
use Rattle.literature.specs.Reading as faults
use Rattle.literature.specs.declared.selector_error.SelectorError.{SelectorError}
use Rattle.literature.specs.declared.selector_error.SelectorError.TheVariants as errors

-- why a text is no selector
abbrev pub fault_text : faults.Fault → List ℕ
fault_text faults.MissingValue = codes "missing value"
fault_text faults.MalformedAttribute = codes "malformed attribute"
fault_text faults.MissingComma = codes "missing comma"
fault_text faults.UnbalancedParens = codes "unbalanced parentheses"
fault_text (faults.UnknownEntryType name) = codes "unknown entry type " ++ text name
fault_text faults.TooDeep = codes "too deep"

-- the message for an error
abbrev pub error_text : SelectorError → List ℕ
error_text errors.MissingValue = codes "missing value"
error_text errors.MalformedAttribute = codes "malformed attribute"
error_text errors.MissingComma = codes "missing comma"
error_text errors.UnbalancedParens = codes "unbalanced parentheses"
error_text (errors.UnknownEntryType name) = codes "unknown entry type " ++ string_bytes name
error_text errors.TooDeep = codes "too deep"
error_text errors.Memory = codes "out of memory"
