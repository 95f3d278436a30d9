use Rattle.std.proofs.Common.{◌≤◌, sym, ◌∙◌, arith, rules}
use Rattle.std.specs.Str.{chars}
use Rattle.biblatex_dates.specs.Parts.{is_month}
use Rattle.biblatex_dates.proofs.PartsMonths.{first_later}
use Rattle.biblatex_dates.proofs.parts.month_named.Goals as goal

pub loop-month-preserved : goal.loop-month-preserved
loop-month-preserved c =
    let before = c.loop-month.invariant in
    let within : c.loop-month.month ≤ 12 = search rules in
    let later = first_later (is_month (chars c.args.text.now)) c.loop-month.month within (sym c.is_month.ensures ∙ c.if-is_month.false) in
    (omega arith, omega arith, sym later ∙ before.2)
