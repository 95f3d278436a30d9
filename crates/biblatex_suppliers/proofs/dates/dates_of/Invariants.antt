use Rattle.std.proofs.Common.{◌≡◌, drop, None}
use Rattle.biblatex_inheritance.specs.Resolved.{last_date, first_fault, earlier, offers}
use Rattle.biblatex_suppliers.specs.Suppliers.{seen}
use Rattle.biblatex_suppliers.specs.Written.{written_view}
use Rattle.biblatex_suppliers.proofs.dates.dates_of.Given as goal

abbrev pub invariant-loop-reference : goal.invariant-loop-reference
invariant-loop-reference l =
    let es = written_view l.entries in
    let see = seen es l.supplies in
    (last_date l.read.date (offers es see (drop l.reference-index l.references)) ≡ last_date None (offers es see l.references))
    × (earlier l.read.fault (first_fault (offers es see (drop l.reference-index l.references))) ≡ first_fault (offers es see l.references))
