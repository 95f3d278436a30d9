-- Answers that are wanted twice.
use Rattle.std.proofs.Common.{◌≡◌, ℕ, Option, Some, None, Result, Ok, Err}
use Rattle.biblatex.specs.Errors.{refusal_of}
use Rattle.biblatex.specs.Reading as reading
use Rattle.literature.specs.Reading.{Fault}
use Rattle.literature.specs.Views.{fault}
use Rattle.cite_requests.specs.Answers.{Wanted, IsBibRefusal, IsSectionRefusal, IsRefusal, Answers}
use Rattle.cite_requests.specs.Stages.{Refusal}
use Rattle.cite_requests.specs.declared.error.CiteError.{CiteError}
use Rattle.cite_requests.specs.declared.error.CiteError.TheVariants as errors
use Rattle.cite_requests.specs.declared.error.BibTextError.TheVariants as bib
use Rattle.cite_requests.specs.declared.error.DocumentTextError.TheVariants as document

bib_weaker : {X Y : Type 0} (o : Option reading.Refusal) (P : Wanted X) (Q : Wanted Y) → ((r : Refusal) → P (Err r) → Q (Err r)) → IsBibRefusal o P → IsBibRefusal o Q
bib_weaker None P Q f h = h
bib_weaker (Some r) P Q f h = f _ h

section_weaker : {X Y : Type 0} (index : ℕ) (o : Option Fault) (P : Wanted X) (Q : Wanted Y) → ((r : Refusal) → P (Err r) → Q (Err r)) → IsSectionRefusal index o P → IsSectionRefusal index o Q
section_weaker index None P Q f h = h
section_weaker index (Some r) P Q f h = f _ h

-- a refusal that is wanted here is wanted there
pub refused_weaker : {X Y : Type 0} (e : CiteError) (P : Wanted X) (Q : Wanted Y) → ((r : Refusal) → P (Err r) → Q (Err r)) → IsRefusal e P → IsRefusal e Q
refused_weaker errors.Memory P Q f h = tt
refused_weaker (errors.BibText bib.Utf8) P Q f h = f _ h
refused_weaker (errors.BibText (bib.Parse error)) P Q f h = bib_weaker (refusal_of error) P Q f h
refused_weaker (errors.Fields faults) P Q f h = f _ h
refused_weaker (errors.Document document.Utf8) P Q f h = f _ h
refused_weaker (errors.Document (document.Marker offset)) P Q f h = f _ h
refused_weaker (errors.Name name) P Q f h = f _ h
refused_weaker (errors.Selector index error) P Q f h = section_weaker index (fault error) P Q f h
refused_weaker errors.Overflow P Q f h = f _ h
refused_weaker (errors.Write fault) P Q f h = h

-- an answer that is wanted here is wanted there
pub answers_weaker : {X Y : Type 0} (view : X → Y) (r : Result X CiteError) (P Q : Wanted Y) → ((a : Result Y Refusal) → P a → Q a) → Answers view r P → Answers view r Q
answers_weaker view (Ok x) P Q f h = f _ h
answers_weaker view (Err e) P Q f h = refused_weaker e P Q (λ r. f (Err r)) h

abbrev answered : {X : Type 0} → X → Result X Refusal
answered x = Ok x

both : {X : Type 0} (Z : Type 0) (x : X) (r : Refusal) → answered x ≡ Err r → Z
both Z x r is = absurd cc

-- where the answer is a value no error is a refusal of it
pub no_refusal : {X Y : Type 0} (e : CiteError) (x : X) (Q : Wanted Y) → IsRefusal e (λ (a : Result X Refusal). Ok x ≡ a) → IsRefusal e Q
no_refusal {X} e x Q h = refused_weaker e (λ (a : Result X Refusal). Ok x ≡ a) Q (λ r is. both (Q (Err r)) x r is) h
