-- What is given, or a refusal.
use Rattle.std.specs.Prelude.{List, if◌then◌else◌, Result, Ok, Err}
use Rattle.driver_names.specs.Prints.{GivenState}
use Rattle.driver_disambiguation.specs.States.{suffixes_overflow}
use Rattle.driver_requests.specs.Errors.{Overflow, overflow}

-- what is given, unless some year suffix is after the 256th
abbrev pub unless_beyond : List GivenState → Result (List GivenState) Overflow
unless_beyond gs = if suffixes_overflow gs then Err overflow else Ok gs
