use Rattle.std.proofs.Common.{cond, ap, sym, ◌∙◌}
use Rattle.std.proofs.lemmas.Result.{IfOk-weaker}
use Rattle.sorting.specs.Sorted.{sorted}
use Rattle.driver_names.specs.Views.{class_view}
use Rattle.driver_disambiguation.specs.Classes.{entries_of}
use Rattle.driver_disambiguation.specs.Rounds.{by_number}
use Rattle.driver_disambiguation.proofs.year_suffixes.ordered_entries.Goals as goal

pub returns-then-some_goes_by_number : goal.returns-then-some_goes_by_number
returns-then-some_goes_by_number c =
    let ss = class_view c.args.class.now in
    IfOk-weaker c.entries_by_number.result _ _
    (λ v is. is ∙ ap (λ b. entries_of (cond b (sorted by_number ss) ss)) (sym (sym c.some_goes_by_number.ensures ∙ c.if-some_goes_by_number.true)))
    c.entries_by_number.ensures

pub returns-else-some_goes_by_number : goal.returns-else-some_goes_by_number
returns-else-some_goes_by_number c =
    let ss = class_view c.args.class.now in
    IfOk-weaker c.entries.result _ _
    (λ v is. is ∙ ap (λ b. entries_of (cond b (sorted by_number ss) ss)) (sym (sym c.some_goes_by_number.ensures ∙ c.if-some_goes_by_number.false)))
    c.entries.ensures
