use Rattle.std.proofs.Common.{Bool, None, sym, ap, ◌∙◌}
use Rattle.std.specs.Prelude.{if◌then◌else◌}
use Rattle.std.proofs.lemmas.Result.{IfOk-weaker}
use Rattle.biblatex_inheritance.specs.Resolved.{last_date, first_fault, offers}
use Rattle.biblatex_suppliers.specs.Suppliers.{seen}
use Rattle.biblatex_suppliers.specs.Written.{written_view}
use Rattle.biblatex_suppliers.proofs.dates.dates_for.Goals as goal

pub returns-then-needs_date-clause-date : goal.returns-then-needs_date-clause-date
returns-then-needs_date-clause-date c =
    let es = written_view c.args.entries.now in
    let os = offers es (seen es c.args.supplies.now) c.args.references.now in
    IfOk-weaker c.dates_of.result _ _ (λ d h. h.0 ∙ sym (ap (λ (b : Bool). if b then last_date None os else None) (sym c.needs_date.ensures ∙ c.if-needs_date.true))) c.dates_of.ensures

pub returns-then-needs_date-clause-fault : goal.returns-then-needs_date-clause-fault
returns-then-needs_date-clause-fault c =
    let es = written_view c.args.entries.now in
    let os = offers es (seen es c.args.supplies.now) c.args.references.now in
    IfOk-weaker c.dates_of.result _ _ (λ d h. h.1 ∙ sym (ap (λ (b : Bool). if b then first_fault os else None) (sym c.needs_date.ensures ∙ c.if-needs_date.true))) c.dates_of.ensures

pub returns-else-needs_date-clause-date : goal.returns-else-needs_date-clause-date
returns-else-needs_date-clause-date c =
    let es = written_view c.args.entries.now in
    let os = offers es (seen es c.args.supplies.now) c.args.references.now in
    sym (ap (λ (b : Bool). if b then last_date None os else None) (sym c.needs_date.ensures ∙ c.if-needs_date.false))

pub returns-else-needs_date-clause-fault : goal.returns-else-needs_date-clause-fault
returns-else-needs_date-clause-fault c =
    let es = written_view c.args.entries.now in
    let os = offers es (seen es c.args.supplies.now) c.args.references.now in
    sym (ap (λ (b : Bool). if b then first_fault os else None) (sym c.needs_date.ensures ∙ c.if-needs_date.false))
