-- Why a driver gives nothing.
use Rattle.std.specs.Prelude.{Option, Some, None}
use Rattle.driver_requests.specs.declared.error.DriverError.{DriverError}
use Rattle.driver_requests.specs.declared.error.DriverError.TheVariants as errors

-- a number or a year suffix is too great
pub data Overflow : Type 0 where
  overflow : Overflow

-- the refusal that an error is; want of memory is none
abbrev pub overflow_of : DriverError → Option Overflow
overflow_of errors.Memory = None
overflow_of errors.Overflow = Some overflow
