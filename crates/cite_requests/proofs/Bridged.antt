-- What the bridge refuses, as a call refuses it.
use Rattle.std.proofs.Common.{◌≡◌, List, map, Result, Err, ap, ◌∙◌}
use Rattle.laws.specs.Results.{EndsWith}
use Rattle.interop.specs.Bridge.{Fault}
use Rattle.interop.specs.Views.{fault_view, refusal_of}
use Rattle.interop.specs.declared.error.BridgeError.{BridgeError}
use Rattle.interop.specs.declared.error.BridgeError.TheVariants as bridge
use Rattle.cite_requests.specs.Answers.{IsRefusal, bridge_error}
use Rattle.cite_requests.specs.Stages.{Refusal, fields_refused}

-- the faults of a stage are those of the bridge
pub refused : {X Y : Type 0} (stage : Result X (List Fault) → Result Y Refusal) (e : BridgeError) (read : Result X (List Fault))
    → ((fs : List Fault) → stage (Err fs) ≡ Err (fields_refused fs)) → EndsWith (refusal_of e) read → IsRefusal (bridge_error e) (λ (a : Result Y Refusal). stage read ≡ a)
refused stage bridge.Memory read of_faults is = tt
refused stage (bridge.Fields faults) read of_faults is = ap stage is ∙ of_faults (map fault_view faults.items)
