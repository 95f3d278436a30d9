use Rattle.std.proofs.Common.{slice_get, Option, Result, sym, ap, ◌∙◌}
use Rattle.biblatex_dates.specs.declared.date.Date.{Date}
use Rattle.biblatex_dates.specs.declared.error.TypeErrorKind.{TypeErrorKind}
use Rattle.biblatex_inheritance.specs.Resolved.{readable, fault, later, earlier}
use Rattle.biblatex_suppliers.specs.Suppliers.{seen}
use Rattle.biblatex_suppliers.specs.Written.{written_view}
use Rattle.biblatex_suppliers.proofs.PassingAsked.{date_there, fault_there, date_nowhere, fault_nowhere}
use Rattle.biblatex_suppliers.proofs.dates.and_date.Goals as goal

pub returns-in_ok-more-clause-date : goal.returns-in_ok-more-clause-date
returns-in_ok-more-clause-date c =
    let es = written_view c.args.entries.now in
    let r = c.args.reference in
    c.and.ensures.date
    ∙ (ap (λ (d : Result (Option Date) TypeErrorKind). later c.args.read.date (readable d)) c.in_ok-more.ensures
    ∙ date_there (slice_get es r) r (seen es c.args.supplies.now r) c.args.read.date (sym c.is_there.ensures ∙ c.if-is_there.true))

pub returns-in_ok-more-clause-fault : goal.returns-in_ok-more-clause-fault
returns-in_ok-more-clause-fault c =
    let es = written_view c.args.entries.now in
    let r = c.args.reference in
    c.and.ensures.fault
    ∙ (ap (λ (d : Result (Option Date) TypeErrorKind). earlier c.args.read.fault (fault r d)) c.in_ok-more.ensures
    ∙ fault_there (slice_get es r) r (seen es c.args.supplies.now r) c.args.read.fault (sym c.is_there.ensures ∙ c.if-is_there.true))

pub returns-else-is_there-clause-date : goal.returns-else-is_there-clause-date
returns-else-is_there-clause-date c =
    let es = written_view c.args.entries.now in
    let r = c.args.reference in
    date_nowhere (slice_get es r) r (seen es c.args.supplies.now r) c.args.read.date (sym c.is_there.ensures ∙ c.if-is_there.false)

pub returns-else-is_there-clause-fault : goal.returns-else-is_there-clause-fault
returns-else-is_there-clause-fault c =
    let es = written_view c.args.entries.now in
    let r = c.args.reference in
    fault_nowhere (slice_get es r) r (seen es c.args.supplies.now r) c.args.read.fault (sym c.is_there.ensures ∙ c.if-is_there.false)
