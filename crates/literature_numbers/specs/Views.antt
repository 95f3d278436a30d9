-- What the code has and returns, without where it lies in memory.
use Rattle.std.specs.Prelude.{Option, Some, None}
use Rattle.std.specs.Option.{option_map}
use Rattle.laws.specs.Text.{characters}
use Rattle.literature_numbers.specs.Numerics.{Value, Number, Set, Numeral}
use Rattle.texts.specs.declared.reader.Unreadable.{Unreadable}
use Rattle.texts.specs.declared.reader.Unreadable.TheVariants.{NotThere}
use Rattle.literature_numbers.specs.declared.numeric.Numeric.{Numeric}
use Rattle.literature_numbers.specs.declared.numeric.NumericValue.{NumericValue}
use Rattle.literature_numbers.specs.declared.numeric.NumericValue.TheVariants as values
use Rattle.literature_numbers.specs.declared.numeric.NumericError.{NumericError}
use Rattle.literature_numbers.specs.declared.numeric.NumericError.TheVariants as errors

-- a number, or the numbers of a set
abbrev pub numeric_value_view : NumericValue → Value
numeric_value_view (values.Number n) = Number n
numeric_value_view (values.Set v) = Set v.items

-- the value, and the characters of the letters before and after
abbrev pub numeral_view : Numeric → Numeral
numeral_view n = record { value = numeric_value_view n.value; prefix = option_map characters n.prefix; suffix = option_map characters n.suffix }

-- the refusal that an error is; out of memory is none
abbrev pub refusal_of : NumericError → Option Unreadable
refusal_of errors.Memory = None
refusal_of errors.Malformed = Some NotThere
