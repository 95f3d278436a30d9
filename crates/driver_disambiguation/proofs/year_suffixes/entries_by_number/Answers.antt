use Rattle.std.proofs.Common.{ap, ◌∙◌}
use Rattle.std.proofs.lemmas.Result.{IfOk-weaker}
use Rattle.driver_names.specs.Views.{class_view}
use Rattle.driver_disambiguation.specs.Classes.{entries_of}
use Rattle.driver_disambiguation.proofs.year_suffixes.entries_by_number.Goals as goal

pub returns : goal.returns
returns c =
    IfOk-weaker c.entries.result _ _
    (λ v is. is ∙ ap (λ xs. entries_of (class_view xs)) c.as_slice.ensures.value ∙ ap entries_of c.in_ok-ordered.ensures)
    c.entries.ensures
