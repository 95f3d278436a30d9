use Rattle.std.proofs.Common.{refl, true, sym, ◌∙◌}
use Rattle.std.proofs.Output.{has_written_of_eq, has_written_append}
use Rattle.laws.specs.Text.{text}
use Rattle.laws.proofs.Text.{text-append}
use Rattle.date_parts.specs.Written.{counted_text}
use Rattle.literature_values.specs.DateText.{month_text}
use Rattle.literature_values.proofs.date.write_month.Goals as goal

pub returns-in-Some-day : goal.returns-in-Some-day
returns-in-Some-day g c = λ plain ok.
    let month = c.in_ok-write_counted.ensures plain (refl {a = true}) in
    has_written_of_eq _ _ _ _ _
    (sym (text-append (counted_text c.in-Some.month) (counted_text c.in-Some-day.day)) ∙ (λ i. text (month_text (sym c.in-Some.is i) (sym c.in-Some-day.is i))))
    (has_written_append _ _ _ _ _ _ month (c.write_counted-in-Some-day.ensures month.plain ok))
