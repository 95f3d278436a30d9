-- What a run says, by what its parts say.
use Rattle.std.proofs.Common.{◌≡◌, ℕ, true, List, [], ◌∷◌, map, codes, chars, is_ok, Option, Result, Err, string_bytes, refl, sym, ap, ◌∙◌, subst, inl, inr}
use Rattle.std.specs.Borrow.{Bor}
use Rattle.laws.specs.Borrowed.{borrowed}
use Rattle.laws.specs.Text.{spelled}
use Rattle.programs.specs.Programs.{Served, IsReason, Says, not_written}
use Rattle.sinks.specs.Sinks.{HasFailed}
use Rattle.cite_csl_styles.specs.Answers.{IsStop, stop_message, stop_status}
use Rattle.cite_csl_styles.specs.Stages.{Lines, Wanted}
use Rattle.cite_csl_styles.specs.declared.stop.Stop.{Stop}
use Rattle.cite_csl_styles.specs.declared.stop.Stop.TheVariants as stops
use Rattle.cite_csl.specs.Run.{sections_in}

-- the sections of a command are those that it has, in characters
pub spelled_are : (sections : List (Bor (List ℕ))) → map spelled sections ≡ map chars (borrowed sections)
spelled_are [] = refl
spelled_are (s ∷ sections) = λ i. chars s.now ∷ spelled_are sections i

-- they are selectors as they are in the code
pub sections_ok : (slice items : List (Bor (List ℕ))) → slice ≡ items → is_ok (sections_in (map spelled slice)) ≡ true → is_ok (sections_in (map chars (borrowed items))) ≡ true
sections_ok slice items same ok =
    subst (λ (sections : List (List ℕ)). is_ok (sections_in sections) ≡ true) (ap (λ (s : List (Bor (List ℕ))). map spelled s) same ∙ spelled_are items) ok

-- where a section is none and the status is 2, the line for it was said
pub section_said : {X : Type 0} (e : Stop) (sections : Result X Lines) (old new : Option (List ℕ)) (fo fn : ℕ) → stop_status 2 e ≡ 2 → IsStop e (λ answer. sections ≡ answer)
    → Says (λ message. message ≡ stop_message e) old new fo fn → Says (λ lines. sections ≡ Err lines) old new fo fn
section_said stops.Memory sections old new fo fn two stop says = absurd cc
section_said {X} (stops.Refused lines) sections old new fo fn two stop (inl (message, is, taken)) = inl (message, stop ∙ ap (λ (t : Lines). Err t) (sym is), taken)
section_said (stops.Refused lines) sections old new fo fn two stop (inr failed) = inr failed

-- what a stop of a run says is a reason
pub stop_said : {X : Type 0} (e : Stop) (wanted : Wanted X) (Faults : List ℕ → Type 0) (S : Served) (was now : ℕ) (old new : Option (List ℕ)) (fo fn : ℕ)
    → IsStop e wanted → ((lines : Lines) → wanted (Err lines) → Faults lines)
    → Says (λ message. message ≡ stop_message e) old new fo fn → Says (IsReason (codes "cite_csl") Faults S was now) old new fo fn
stop_said stops.Memory wanted Faults S was now old new fo fn stop faulty (inl (message, is, taken)) = inl (message, inr (inl is), taken)
stop_said (stops.Refused lines) wanted Faults S was now old new fo fn stop faulty (inl (message, is, taken)) = inl (message, inl (subst Faults (sym is) (faulty (string_bytes lines) stop)), taken)
stop_said stops.Memory wanted Faults S was now old new fo fn stop faulty (inr failed) = inr failed
stop_said (stops.Refused lines) wanted Faults S was now old new fo fn stop faulty (inr failed) = inr failed

-- an output that was not taken whole is a reason
pub write_said : (Faults : List ℕ → Type 0) (S : Served) (was now : ℕ) (old new : Option (List ℕ)) (fo fn : ℕ) → HasFailed was now → S (λ output. Unit {0})
    → Says (λ message. message ≡ not_written (codes "cite_csl")) old new fo fn → Says (IsReason (codes "cite_csl") Faults S was now) old new fo fn
write_said Faults S was now old new fo fn failed served (inl (message, is, taken)) = inl (message, inr (inr (is, failed, served)), taken)
write_said Faults S was now old new fo fn failed served (inr fault) = inr fault
