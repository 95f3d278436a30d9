-- A fault of a part is the fault of the whole.
use Rattle.std.proofs.Common.{◌≡◌, Result, Err}
use Rattle.biblatex_fields.specs.Refusals.{Refusal}
use Rattle.biblatex_fields.specs.Errors.{reason_view, refusal_of}
use Rattle.laws.specs.Results.{Gives}
use Rattle.biblatex_fields.specs.declared.error.ParseError.{ParseError}
use Rattle.biblatex_fields.specs.declared.error.ParseError.TheVariants as errors

pub refused : {X Y V W : Type 0} (view : X → V) (whole_view : Y → W) (e : ParseError) (part : Result V Refusal) (whole : Result W Refusal)
    → Gives refusal_of view (Err e) part → ((f : Refusal) → part ≡ Err f → whole ≡ Err f) → Gives refusal_of whole_view (Err e) whole
refused view whole_view errors.Memory part whole h more = tt
refused view whole_view (errors.Refused kind span) part whole h more = more (record { reason = reason_view kind; start = span.start; end = span.end }) h
