-- What the program serves, and says of what it does not serve.
use Rattle.std.proofs.Common.{◌≡◌, ℕ, List, ◌++◌, Option, Result, Ok, Err, OnOk, OnErr, IfOk, IfErr, String, string_bytes, refl, sym, ap, ◌∙◌, subst, ◌⊎◌, inl, inr}
use Rattle.std.specs.Global.{Global}
use Rattle.std.proofs.lemmas.Str.{IsUtf8-string_bytes}
use Rattle.laws.proofs.Text.{text_of_chars}
use Rattle.biblatex.specs.ParseError.TheVariants as parsing
use Rattle.literature.specs.Views.{fault}
use Rattle.literature.specs.declared.selector_error.SelectorError.{SelectorError}
use Rattle.literature.specs.declared.selector_error.SelectorError.TheVariants as selectors
use lib.Chars.{codes}
use Rattle.sinks.specs.Sinks.{HasFailed, AppendsPrefix}
use Rattle.programs.specs.Programs.{Served, IsUntouched, Says, no_memory}
use Rattle.cite_requests.specs.Answers.{Wanted, Writes, IsRefusal, IsSectionRefusal, UnlessWrite, OnWrite}
use Rattle.cite_command.specs.Program.{Reads, Job, IsReason, IsRefused, IsJobFault, ServesJob, error_message, line, said, task_in, refusal_message}
use Rattle.cite_requests.specs.Refusals.{section_text}
use Rattle.cite_requests.specs.Stages.{Refusal}
use Rattle.cite.specs.Verdict.{IsVerdict}
use Rattle.cite_requests.specs.declared.error.CiteError.{CiteError}
use Rattle.cite_requests.specs.declared.error.CiteError.TheVariants as errors
use Rattle.cite_requests.specs.declared.error.BibTextError.TheVariants as bib
use Rattle.cite_requests.specs.declared.error.DocumentTextError.TheVariants as document

-- what is served here is served there
pub untouched_weaker : {O : Type 0} (S T : Served) (old new : O) (before after : Option (List ℕ)) (was now : ℕ) → ((P : List ℕ → Type 0) → S P → T P)
    → IsUntouched S old new before after was now → IsUntouched T old new before after was now
untouched_weaker S T old new before after was now f (inl same) = inl same
untouched_weaker S T old new before after was now f (inr failed) = inr (failed.0, f _ failed.1)

pub reason_weaker : (F G : List ℕ → Type 0) (S T : Served) (was now : ℕ) (message : List ℕ) → (F message → G message) → ((P : List ℕ → Type 0) → S P → T P) → IsReason F S was now message → IsReason G T was now message
reason_weaker F G S T was now message k f (inl fault) = inl (k fault)
reason_weaker F G S T was now message k f (inr (inl memory)) = inr (inl memory)
reason_weaker F G S T was now message k f (inr (inr failed)) = inr (inr (failed.0, failed.1, f _ failed.2))

pub if_ok_weaker : {X E : Type 0} (r : Result X E) {P Q : X → Type 0} → ((x : X) → P x → Q x) → IfOk r P → IfOk r Q
if_ok_weaker (Ok x) f h = f x h
if_ok_weaker (Err e) f h = h

pub ok_weaker : {X E : Type 0} (r : Result X E) {P Q : Type 0} → (P → Q) → OnOk r P → OnOk r Q
ok_weaker (Ok x) f h = f h
ok_weaker (Err e) f h = h

pub err_weaker : {X E : Type 0} (r : Result X E) {P Q : Type 0} → (P → Q) → OnErr r P → OnErr r Q
err_weaker (Ok x) f h = h
err_weaker (Err e) f h = f h

pub if_err_weaker : {X E : Type 0} (r : Result X E) {P Q : E → Type 0} → ((e : E) → P e → Q e) → IfErr r P → IfErr r Q
if_err_weaker (Ok x) f h = h
if_err_weaker (Err e) f h = f e h

pub at_err : {X E : Type 0} (r : Result X E) (e : E) (P : E → Type 0) → r ≡ Err e → IfErr r P → P e
at_err r e P is h = subst (λ (x : Result _ _). IfErr x P) is h

-- what holds after an error, from what is said of it
pub on_err_all : {X E : Type 0} (r : Result X E) {P Q R : E → Type 0} {S : Type 0} → ((e : E) → P e → Q e → R e → S) → IfErr r P → IfErr r Q → IfErr r R → OnErr r S
on_err_all (Ok x) f p q r = tt
on_err_all (Err e) f p q r = f e p q r

pub if_err_all : {X E : Type 0} (r : Result X E) {P Q R S : E → Type 0} → ((e : E) → P e → Q e → R e → S e) → IfErr r P → IfErr r Q → IfErr r R → IfErr r S
if_err_all (Ok x) f p q r = tt
if_err_all (Err e) f p q r = f e p q r

-- what is said of a fault has its reasons, or those of a want of memory
pub says_reason : {E : Type 0} (lines : Result (String Global) E) (is : List ℕ) (Faults : List ℕ → Type 0) (Serves : Served) (before after : ℕ) (old new : Option (List ℕ)) (fo fn : ℕ)
    → IsReason Faults Serves before after is → IfOk lines (λ s. string_bytes s ≡ is) → Says (λ message. message ≡ said lines) old new fo fn → Says (IsReason Faults Serves before after) old new fo fn
says_reason (Ok s) is Faults Serves before after old new fo fn why same (inl (message, e, taken)) = inl (message, subst (IsReason Faults Serves before after) (sym (e ∙ same)) why, taken)
says_reason (Err x) is Faults Serves before after old new fo fn why same (inl (message, e, taken)) = inl (message, inr (inl e), taken)
says_reason (Ok s) is Faults Serves before after old new fo fn why same (inr failed) = inr failed
says_reason (Err x) is Faults Serves before after old new fo fn why same (inr failed) = inr failed

-- what says one text says another that is the same
pub says_same : (is was : List ℕ) (old new : Option (List ℕ)) (fo fn : ℕ) → is ≡ was → Says (λ message. message ≡ is) old new fo fn → Says (λ message. message ≡ was) old new fo fn
says_same is was old new fo fn same says = rw (sym same) says

-- a fault of the words or the files is a reason, and so is a want of memory
pub fault_reason : (Faults : List ℕ → Type 0) (Serves : Served) (before after : ℕ) (message : List ℕ) → Faults message ⊎ (message ≡ no_memory (codes "cite")) → IsReason Faults Serves before after message
fault_reason Faults Serves before after message (inl fault) = inl fault
fault_reason Faults Serves before after message (inr memory) = inr (inl memory)

-- a fault here is one there
pub fault_weaker : (F G : List ℕ → Type 0) (message : List ℕ) {M : Type 0} → (F message → G message) → F message ⊎ M → G message ⊎ M
fault_weaker F G message f (inl fault) = inl (f fault)
fault_weaker F G message f (inr memory) = inr memory

-- what is left of the output where `cite` refuses
pub left_untouched : {O : Type 0} (e : CiteError) (Serves : Served) (old new : O) (before after : Option (List ℕ)) (was now : ℕ)
    → UnlessWrite e (new ≡ old) → OnWrite e (Serves (λ output. AppendsPrefix before after output)) → OnWrite e (HasFailed was now) → IsUntouched Serves old new before after was now
left_untouched (errors.BibText error) Serves old new before after was now same prefix failed = inl same
left_untouched (errors.Fields found) Serves old new before after was now same prefix failed = inl same
left_untouched (errors.Document error) Serves old new before after was now same prefix failed = inl same
left_untouched (errors.Name name) Serves old new before after was now same prefix failed = inl same
left_untouched errors.Memory Serves old new before after was now same prefix failed = inl same
left_untouched errors.Overflow Serves old new before after was now same prefix failed = inl same
left_untouched (errors.Write fault) Serves old new before after was now same prefix failed = inr (failed, prefix)
left_untouched (errors.Selector index error) Serves old new before after was now same prefix failed = inl same

-- what a failed write leaves here it leaves there
pub on_write_weaker : (e : CiteError) {P Q : Type 0} → (P → Q) → OnWrite e P → OnWrite e Q
on_write_weaker (errors.BibText error) f h = h
on_write_weaker (errors.Fields found) f h = h
on_write_weaker (errors.Document error) f h = h
on_write_weaker (errors.Name name) f h = h
on_write_weaker (errors.Selector index error) f h = h
on_write_weaker errors.Memory f h = h
on_write_weaker errors.Overflow f h = h
on_write_weaker (errors.Write fault) f h = f h

-- the message for a section that is no selector
says_section : (index : ℕ) (e : SelectorError) (wanted : Wanted (List ℕ)) → IsSectionRefusal index (fault e) wanted → (refusal : Refusal) × wanted (Err refusal) × (error_message (errors.Selector index e) ≡ refusal_message refusal)
says_section index selectors.MissingValue wanted is = (_, is, refl)
says_section index selectors.MalformedAttribute wanted is = (_, is, refl)
says_section index selectors.MissingComma wanted is = (_, is, refl)
says_section index selectors.UnbalancedParens wanted is = (_, is, refl)
says_section index (selectors.UnknownEntryType name) wanted is =
    (_, is, ap (λ (n : List ℕ). line (section_text index (codes "unknown entry type " ++ n))) (sym (text_of_chars (string_bytes name) (IsUtf8-string_bytes name))))
says_section index selectors.TooDeep wanted is = (_, is, refl)
says_section index selectors.Memory wanted is = absurd is

-- the message where `cite` refuses is that of the refusal
pub says_why : (e : CiteError) (wanted : Wanted (List ℕ)) (before after : Option (List ℕ)) (was now : ℕ) → UnlessWrite e (IsRefusal e wanted)
    → OnWrite e (Writes wanted (λ output. AppendsPrefix before after output)) → OnWrite e (HasFailed was now)
    → IsReason (λ message. (refusal : Refusal) × wanted (Err refusal) × (message ≡ refusal_message refusal)) (Writes wanted) was now (error_message e)
says_why (errors.BibText bib.Utf8) wanted before after was now is prefix failed = inl (_, is, refl)
says_why (errors.BibText (bib.Parse parsing.Memory)) wanted before after was now is prefix failed = absurd is
says_why (errors.BibText (bib.Parse (parsing.Refused kind span))) wanted before after was now is prefix failed = inl (_, is, refl)
says_why (errors.Fields found) wanted before after was now is prefix failed = inl (_, is, refl)
says_why (errors.Document document.Utf8) wanted before after was now is prefix failed = inl (_, is, refl)
says_why (errors.Document (document.Marker offset)) wanted before after was now is prefix failed = inl (_, is, refl)
says_why (errors.Name name) wanted before after was now is prefix failed = inl (_, is, refl)
says_why (errors.Selector index error) wanted before after was now is prefix failed = inl (says_section index error wanted is)
says_why errors.Memory wanted before after was now is prefix failed = inr (inl refl)
says_why errors.Overflow wanted before after was now is prefix failed = inl (_, is, refl)
says_why (errors.Write fault) wanted before after was now is prefix failed = inr (inr (refl, failed, (prefix.0, prefix.1, tt)))

-- the message for both files of a job, from the message for their bytes
pub of_job : (read : Reads) (job : Job) (b d : List ℕ) (P : List ℕ → Type 0) → read job.bib ≡ Ok b → read job.document ≡ Ok d → Writes (IsVerdict b (task_in job d)) P → ServesJob read (Ok job) P
of_job read job b d P is_b is_d h = rw (is_b, is_d) h

pub fault_of_job : (read : Reads) (job : Job) (b d message : List ℕ) → read job.bib ≡ Ok b → read job.document ≡ Ok d → IsRefused b (task_in job d) message → IsJobFault read (Ok job) message
fault_of_job read job b d message is_b is_d h = rw (is_b, is_d) h
