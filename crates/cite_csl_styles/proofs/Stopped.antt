-- What a call returns where a stage is refused.
use Rattle.std.proofs.Common.{◌≡◌, [], ◌∷◌, Result, Ok, Err, IfOk, String, string_bytes, refl, subst}
use Rattle.std.specs.Global.{Global}
use Rattle.cite_csl_styles.specs.Answers.{Answers, IsRefusal, IsStop}
use Rattle.cite_csl_styles.specs.Stages.{Lines, Wanted}
use Rattle.cite_csl_styles.specs.declared.stop.Stop.{Stop}
use Rattle.cite_csl_styles.specs.declared.stop.Stop.TheVariants as stops

-- a stop with lines that are wanted
pub stopped : {X : Type 0} (e : Stop) (lines : Lines) (wanted : Wanted X) → IsRefusal e lines → wanted (Err lines) → IsStop e wanted
stopped stops.Memory lines wanted is is_wanted = tt
stopped (stops.Refused said) lines wanted is is_wanted = subst (λ (l : Lines). wanted (Err l)) is is_wanted

-- a stop that is wanted here is wanted there
pub stop_weaker : {X Y : Type 0} (e : Stop) (P : Wanted X) (Q : Wanted Y) → ((lines : Lines) → P (Err lines) → Q (Err lines)) → IsStop e P → IsStop e Q
stop_weaker stops.Memory P Q f h = tt
stop_weaker (stops.Refused said) P Q f h = f (string_bytes said) h

-- an answer that is wanted here is wanted there
pub answers_weaker : {X Y : Type 0} (view : X → Y) (r : Result X Stop) (P Q : Wanted Y) → ((a : Result Y Lines) → P a → Q a) → Answers view r P → Answers view r Q
answers_weaker view (Ok x) P Q f h = f (Ok (view x)) h
answers_weaker view (Err e) P Q f h = stop_weaker e P Q (λ lines. f (Err lines)) h

-- a stop that refuses with all lines is that memory ran out
two_lines : (said : Lines) → ((lines : Lines) → lines ≡ said) → ⊥
two_lines [] all = absurd (filled (all some))
  where
    some : Lines
    some = 10 ∷ []

    filled : some ≡ [] → ⊥
    filled is = absurd cc
two_lines (b ∷ bs) all = absurd (empty (all []))
  where
    empty : [] ≡ b ∷ bs → ⊥
    empty is = absurd cc

all_lines : {X : Type 0} (e : Stop) (wanted : Wanted X) → ((lines : Lines) → IsRefusal e lines) → IsStop e wanted
all_lines stops.Memory wanted refuses = tt
all_lines (stops.Refused said) wanted refuses = absurd (two_lines (string_bytes said) refuses)

-- the stop for lines that were to be made
pub stopped_by : {F X : Type 0} (e : Stop) (made : Result (String Global) F) (wanted : Wanted X) → ((lines : Lines) → IfOk made (λ s. string_bytes s ≡ lines) → IsRefusal e lines)
    → IfOk made (λ s. wanted (Err (string_bytes s))) → IsStop e wanted
stopped_by e (Ok said) wanted refuses is_wanted = stopped e (string_bytes said) wanted (refuses (string_bytes said) refl) is_wanted
stopped_by e (Err fault) wanted refuses is_wanted = all_lines e wanted (λ lines. refuses lines tt)
