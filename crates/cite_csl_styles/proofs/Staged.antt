-- Calls that answer one stage after another.
use Rattle.std.proofs.Common.{◌≡◌, Result, Ok, Err, refl, string_bytes}
use Rattle.cite_csl_styles.specs.Answers.{Answers, IsStop}
use Rattle.cite_csl_styles.specs.Stages.{Then, Wanted}
use Rattle.cite_csl_styles.specs.declared.stop.Stop.{Stop}
use Rattle.cite_csl_styles.specs.declared.stop.Stop.TheVariants as stops

-- a stage that stops ends all that would follow
pub then_stops : {X Y : Type 0} (e : Stop) (stage : Wanted X) (next : X → Wanted Y) → IsStop e stage → IsStop e (Then stage next)
then_stops stops.Memory stage next h = tt
then_stops (stops.Refused lines) stage next h = (Err (string_bytes lines), h, refl)

-- what follows a stage answers both
pub then_goes_on : {X Y Z : Type 0} (view : Z → Y) (r : Result Z Stop) (stage : Wanted X) (next : X → Wanted Y) (x : X) → stage (Ok x) → Answers view r (next x) → Answers view r (Then stage next)
then_goes_on view (Ok z) stage next x given h = (Ok x, given, h)
then_goes_on view (Err stops.Memory) stage next x given h = tt
then_goes_on view (Err (stops.Refused lines)) stage next x given h = (Ok x, given, h)
