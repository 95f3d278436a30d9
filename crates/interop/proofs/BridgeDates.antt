-- What follows from dates that were read, or from their faults.
use Rattle.std.proofs.Common.{◌≡◌, List, [], ◌∷◌, refl, Ok, Err}
use Rattle.literature_entries.specs.EntriesData.{EntryData, entry_view}
use Rattle.interop.specs.Bridge.{Fault, unless_faulty}
use Rattle.interop.specs.declared.dates.Dates.{Dates}
use Rattle.interop.specs.declared.error.BridgeError.{BridgeError}
use Rattle.interop.specs.declared.error.BridgeError.TheVariants as errors
use Rattle.interop.specs.Views.{refusal_of}
use Rattle.laws.specs.Results.{Gives}

-- what is made once there are no faults
pub accepted : (fs : List Fault) (d x : Dates) (w : EntryData) → unless_faulty fs d ≡ Ok x → (x ≡ d) × (unless_faulty fs w ≡ Ok w)
accepted [] d x w e = (cc, refl)
accepted (f ∷ fs) d x w e = absurd cc

-- the faults, whatever was to be made
pub refused : (fs : List Fault) (d : Dates) (w : EntryData) (e : BridgeError) → Gives refusal_of (λ (x : Dates). x) (Err e) (unless_faulty fs d) → Gives refusal_of entry_view (Err e) (unless_faulty fs w)
refused fs d w errors.Memory h = tt
refused [] d w (errors.Fields xs) h = absurd cc
refused (f ∷ fs) d w (errors.Fields xs) h = cc
