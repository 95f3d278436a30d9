use Rattle.std.proofs.Common.{rules, refl, w32, FitsSigned, true, ◌++◌, sym, ◌∙◌}
use Rattle.std.proofs.lemmas.Int.{to_z-of_z}
use Rattle.std.proofs.Output.{has_written_of_eq, has_written_append}
use Rattle.laws.specs.Text.{text}
use Rattle.laws.proofs.Text.{text-append}
use Rattle.date_parts.specs.Written.{year_text}
use Rattle.literature_values.specs.DateText.{month_text}
use Rattle.literature_values.proofs.date.write_side.Goals as goal

pub returns : goal.returns
returns g c = λ plain ok.
    let f : FitsSigned w32 c.args.year = search rules in
    let a = c.in_ok-write_year.ensures plain (refl {a = true}) in
    has_written_of_eq _ _ _ _ _
    ((λ i. text (year_text (to_z-of_z w32 c.args.year f i)) ++ text (month_text c.args.month c.args.day)) ∙ sym (text-append (year_text c.args.year) (month_text c.args.month c.args.day)))
    (has_written_append _ _ _ _ _ _ a (c.write_month.ensures a.plain ok))
