-- Where files that are read as one have their faults, for code that goes on from one to the next.
use Rattle.std.specs.Prelude.{◌≡◌, ℕ, List, Option, Some, slice_get, IfSome}
use Rattle.fault_lines.specs.Messages.{fault_lines}
use Rattle.fault_lines.specs.Views as lines
use Rattle.fault_lines.specs.Views.{IsIn}
use Rattle.cite_csl_styles.specs.Sources.{SourceFile, lines_at}
use Rattle.cite_csl_styles.specs.Stages.{Lines}
use Rattle.cite_csl_styles.specs.declared.joined_faults.JoinedFaults.{JoinedFaults}

-- the file after so many others has a byte of all of them after so many of its own
pub record IsWithin (fs : List SourceFile) (at before : ℕ) (f : SourceFile) (left : ℕ) : Type 0 where
  pub here : slice_get fs before ≡ Some f
  pub said : (why : List ℕ) → lines_at fs at why ≡ fault_lines f.path f.bytes left why

-- the lines so far
abbrev pub lines_view : JoinedFaults → Lines
lines_view j = lines.lines_view j.faults

-- what comes next in the file of the last fault is counted onward from it
abbrev pub IsAmong : List SourceFile → JoinedFaults → Type 0
IsAmong fs j = IfSome (slice_get fs j.before) (λ (f : SourceFile). IsIn f.bytes j.faults)
