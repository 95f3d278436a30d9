use Rattle.std.proofs.Common.{refl, true, sym, ◌∙◌}
use Rattle.std.proofs.Output.{has_written_of_eq, has_written_append}
use Rattle.laws.specs.Text.{text}
use Rattle.laws.proofs.Text.{text-append}
use Rattle.date_parts.specs.Written.{counted_text}
use Rattle.biblatex_dates.specs.Written.{day_text, month_text}
use Rattle.biblatex_dates.proofs.written.write_month.Goals as goal

pub returns : goal.returns
returns g c = λ plain ok.
    let month = c.in_ok-write_counted.ensures plain (refl {a = true}) in
    has_written_of_eq _ _ _ _ _
    (sym (text-append (counted_text c.in-Some.month) (day_text c.args.day c.args.time)) ∙ (λ i. text (month_text (sym c.in-Some.is i) c.args.day c.args.time)))
    (has_written_append _ _ _ _ _ _ month (c.write_day.ensures month.plain ok))
