-- What a call returns where its definition gives something or lines.
use Rattle.std.specs.Prelude.{◌≡◌, ℕ, codes, Result, Ok, Err, string_bytes}
use Rattle.programs.specs.Programs.{no_memory}
use Rattle.cite_csl_styles.specs.Stages.{Lines, Wanted}
use Rattle.cite_csl_styles.specs.declared.stop.Stop.{Stop}
use Rattle.cite_csl_styles.specs.declared.stop.Stop.TheVariants as stops

-- the lines of a stop are wanted; memory may run out instead of any answer
abbrev pub IsStop : {Y : Type 0} → Stop → Wanted Y → Type 0
IsStop stops.Memory wanted = Unit {0}
IsStop (stops.Refused lines) wanted = wanted (Err (string_bytes lines))

-- the lines of a stop are these; memory may run out instead
abbrev pub IsRefusal : Stop → Lines → Type 0
IsRefusal stops.Memory lines = Unit {0}
IsRefusal (stops.Refused said) lines = lines ≡ string_bytes said

-- what was returned, under the view, is wanted, unless memory ran out
abbrev pub Answers : {X Y : Type 0} → (X → Y) → Result X Stop → Wanted Y → Type 0
Answers view (Ok x) wanted = wanted (Ok (view x))
Answers view (Err e) wanted = IsStop e wanted

-- what was returned, under the view, is this, unless memory ran out
abbrev pub Returns : {X Y : Type 0} → (X → Y) → Result X Stop → Result Y Lines → Type 0
Returns view result answer = Answers view result (λ a. answer ≡ a)

-- what is said of a stop, and the status for it, where that of lines is this
abbrev pub stop_message : Stop → Lines
stop_message stops.Memory = no_memory (codes "cite_csl")
stop_message (stops.Refused lines) = string_bytes lines

abbrev pub stop_status : ℕ → Stop → ℕ
stop_status status stops.Memory = 1
stop_status status (stops.Refused lines) = status
