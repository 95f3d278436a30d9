-- What the code has, without where it lies in memory.
use Rattle.std.specs.Prelude.{◌≡◌, ℕ, List, Option, Result, Ok, Err, string_bytes}
use Rattle.std.specs.Option.{option_map}
use Rattle.laws.specs.Borrowed.{borrowed}
use Rattle.clap.specs.Words.{Row, fault_of, HasKind}
use Rattle.rendering_output.specs.declared.writing.BufWriteFormat.{BufWriteFormat}
use Rattle.cite_csl_command.specs.Command as command
use Rattle.cite_csl_command.specs.Command.{asked_by, asked_in, cite_csl_app, format_in}
use Rattle.cite_csl_command.specs.declared.asked.Asked.{Asked}
use Rattle.cite_csl_command.specs.declared.asked.CommandFault.{CommandFault}
use Rattle.cite_csl_command.specs.declared.asked.CommandFault.TheVariants as faults

abbrev pub asked_view : Asked → command.Asked
asked_view a = record {
  style = a.style.now;
  locales = borrowed a.locales.items;
  lang = option_map (λ s. s.now) a.lang;
  format = a.format;
  bibs = borrowed a.bibs.items;
  sections = borrowed a.sections.items;
  is_strict = a.is_strict;
  document = a.document.now;
}

-- the format of this name, or the line that says that there is none; or memory ran out
abbrev pub IsFormatOf : Result BufWriteFormat CommandFault → Option (List ℕ) → Type 0
IsFormatOf (Ok format) name = format_in name ≡ Ok format
IsFormatOf (Err (faults.Words error)) name = ⊥
IsFormatOf (Err (faults.Format line)) name = format_in name ≡ Err (string_bytes line)
IsFormatOf (Err faults.Memory) name = Unit {0}

-- what matches ask for, or the line for a format that there is not; or memory ran out
abbrev pub IsAskedIn : Result Asked CommandFault → List Row → Type 0
IsAskedIn (Ok a) rows = asked_in rows ≡ Ok (asked_view a)
IsAskedIn (Err (faults.Words error)) rows = ⊥
IsAskedIn (Err (faults.Format line)) rows = asked_in rows ≡ Err (string_bytes line)
IsAskedIn (Err faults.Memory) rows = Unit {0}

-- the same of the words of a command line, which may be none of the command
abbrev pub IsAskedBy : Result Asked CommandFault → List (List ℕ) → Type 0
IsAskedBy (Ok a) words = asked_by words ≡ Ok (asked_view a)
IsAskedBy (Err (faults.Words error)) words = HasKind (fault_of cite_csl_app words) error
IsAskedBy (Err (faults.Format line)) words = asked_by words ≡ Err (string_bytes line)
IsAskedBy (Err faults.Memory) words = Unit {0}
