-- The messages for sources, from what is known of their bytes.
use Rattle.std.proofs.Common.{◌≡◌, ℕ, List, Option, Err, sym, subst, ap, ◌∙◌, ◌⊎◌, inl, inr}
use Rattle.std.specs.Str.{chars, IsUtf8, is_utf8}
use Rattle.std.specs.Str.Lossy.{utf8_valid_len}
use lib.Chars.{codes}
use Rattle.std.proofs.lemmas.Str.{is_utf8-from_IsUtf8, IsUtf8-from_is_utf8}
use Rattle.std.proofs.lemmas.Bool.{false_from_ne_true}
use Rattle.programs.specs.Programs.{no_memory, IsReason, Says}
use Rattle.biblatex.specs.Errors.{reason_text}
use Rattle.biblatex.specs.Reading.{Refusal}
use Rattle.biblatex.specs.Resolved.{TextMeans}
use Rattle.bib_show.specs.Refusals.{IsSourceFault}
use Rattle.source_positions.specs.Messages.{refusal_lines}
use Rattle.bib_show.specs.Program.{IsFaultOf}
use Rattle.bib_show.specs.declared.program.Form.{Form}

-- bytes that are no text
pub no_text : (path source : List ℕ) (at : ℕ) (message : List ℕ) → (IsUtf8 source → ⊥) → at ≡ utf8_valid_len source
    → (message ≡ refusal_lines path source at (codes "not UTF-8")) ⊎ (message ≡ no_memory (codes "bib_show")) → IsSourceFault path source message ⊎ (message ≡ no_memory (codes "bib_show"))
no_text path source at message bad e (inl is) =
    inl (inl (false_from_ne_true (is_utf8 source) (λ t. bad (IsUtf8-from_is_utf8 source t)), is ∙ ap (λ (n : ℕ). refusal_lines path source n (codes "not UTF-8")) e))
no_text path source at message bad e (inr is) = inr is

-- a text that is refused
pub refused_text : (path source message : List ℕ) (r : Refusal) → IsUtf8 source → TextMeans (chars source) (Err r)
    → (message ≡ refusal_lines path source r.start (reason_text r.reason)) ⊎ (message ≡ no_memory (codes "bib_show")) → IsSourceFault path source message ⊎ (message ≡ no_memory (codes "bib_show"))
refused_text path source message r utf8 means (inl is) = inl (inr (record { refusal = r; is_text = is_utf8-from_IsUtf8 source utf8; means = means; lines = is }))
refused_text path source message r utf8 means (inr is) = inr is

-- whatever was to be written
pub source_fault : (form : Form) (path source message : List ℕ) → IsSourceFault path source message ⊎ (message ≡ no_memory (codes "bib_show")) → IsFaultOf form path source message ⊎ (message ≡ no_memory (codes "bib_show"))
source_fault form path source message (inl is) = inl (inl is)
source_fault form path source message (inr is) = inr is

-- what was reported of a fault is one of its reasons
reason_message : (Faults : List ℕ → Type 0) (Serves : (List ℕ → Type 0) → Type 0) (is message : List ℕ) (before after : ℕ)
    → IsReason (codes "bib_show") Faults Serves before after is → (message ≡ is) ⊎ (message ≡ no_memory (codes "bib_show")) → IsReason (codes "bib_show") Faults Serves before after message
reason_message Faults Serves is message before after why (inl e) = subst (IsReason (codes "bib_show") Faults Serves before after) (sym e) why
reason_message Faults Serves is message before after why (inr e) = inr (inl e)

pub says_reason : (Faults : List ℕ → Type 0) (Serves : (List ℕ → Type 0) → Type 0) (is : List ℕ) (before after : ℕ) (old new : Option (List ℕ)) (fo fn : ℕ)
    → IsReason (codes "bib_show") Faults Serves before after is → Says (λ message. (message ≡ is) ⊎ (message ≡ no_memory (codes "bib_show"))) old new fo fn
    → Says (IsReason (codes "bib_show") Faults Serves before after) old new fo fn
says_reason Faults Serves is before after old new fo fn why (inl (message, e, taken)) = inl (message, reason_message Faults Serves is message before after why e, taken)
says_reason Faults Serves is before after old new fo fn why (inr failed) = inr failed
