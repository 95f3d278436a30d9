use Rattle.std.proofs.Common.{◌≡◌, ◌-◌, ◌≤◌}
use Rattle.std.specs.Str.{chars}
use Rattle.biblatex_dates.specs.Parts.{is_month, first_of, month_named}
use Rattle.biblatex_dates.proofs.parts.month_named.Given as goal

abbrev pub invariant-loop-month : goal.invariant-loop-month
invariant-loop-month l = (1 ≤ l.month) × (l.month ≤ 13) × (first_of (is_month (chars l.text)) (13 - l.month) l.month ≡ month_named (chars l.text))

abbrev pub decreases-loop-month : goal.decreases-loop-month
decreases-loop-month l = 13 - l.month
