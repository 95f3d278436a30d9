-- Lists of slices of a source.
use Rattle.std.proofs.Common.{[], ◌∷◌, arith}
use Rattle.std.specs.Prelude.{All}
use Rattle.std.proofs.lemmas.List.Elements.{All-push}

pub All-none : {X : Type 0} (P : X → Type 0) → All P []
All-none P = λ k d l. absurd (omega arith)

pub All-one : {X : Type 0} (P : X → Type 0) (x : X) → P x → All P (x ∷ [])
All-one P x p = All-push P [] x (All-none P) p
