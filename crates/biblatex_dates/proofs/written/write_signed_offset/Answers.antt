use Rattle.std.proofs.Common.{refl, true, sym, ◌∙◌, ◌++◌}
use Rattle.std.proofs.Output.{has_written_of_eq, has_written_append}
use Rattle.laws.specs.Characters.{colon}
use Rattle.laws.specs.Text.{text}
use Rattle.laws.proofs.Text.{text-append}
use Rattle.biblatex_dates.specs.Written.{following, sign}
use Rattle.biblatex_dates.proofs.written.write_signed_offset.Goals as goal

pub returns : goal.returns
returns g c = λ plain ok.
    let hours = c.in_ok-write_after.ensures plain (refl {a = true}) in
    has_written_of_eq _ _ _ _ _
    ((λ i. text (following (c.sign.ensures i) c.args.hours) ++ text (following colon c.args.minutes)) ∙ sym (text-append (following (sign c.args.positive) c.args.hours) (following colon c.args.minutes)))
    (has_written_append _ _ _ _ _ _ hours (c.write_after-2.ensures hours.plain ok))
