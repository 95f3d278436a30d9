use Rattle.std.proofs.Common.{refl, true, sym, ◌∙◌}
use Rattle.std.proofs.Output.{has_written_of_eq, has_written_append}
use Rattle.laws.specs.Text.{text}
use Rattle.laws.proofs.Text.{text-append}
use Rattle.date_parts.specs.Written.{counted_text}
use Rattle.biblatex_dates.specs.Written.{clock_text, day_text}
use Rattle.biblatex_dates.proofs.written.write_day.Goals as goal

pub returns-in-Some-time : goal.returns-in-Some-time
returns-in-Some-time g c = λ plain ok.
    let day = c.in_ok-write_counted.ensures plain (refl {a = true}) in
    has_written_of_eq _ _ _ _ _
    (sym (text-append (counted_text c.in-Some.day) (clock_text c.in-Some-time.time)) ∙ (λ i. text (day_text (sym c.in-Some.is i) (sym c.in-Some-time.is i))))
    (has_written_append _ _ _ _ _ _ day (c.write_clock.ensures day.plain ok))
