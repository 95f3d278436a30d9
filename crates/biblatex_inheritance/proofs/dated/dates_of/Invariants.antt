use Rattle.std.proofs.Common.{◌≡◌, drop, None}
use Rattle.biblatex_inheritance.specs.Resolved.{last_date, first_fault, earlier}
use Rattle.biblatex_inheritance.specs.Views.{offers_in}
use Rattle.biblatex_inheritance.proofs.dated.dates_of.Given as goal

abbrev pub invariant-loop-reference : goal.invariant-loop-reference
invariant-loop-reference l =
    (last_date l.read.date (offers_in l.entries (drop l.reference-index l.references)) ≡ last_date None (offers_in l.entries l.references))
    × (earlier l.read.fault (first_fault (offers_in l.entries (drop l.reference-index l.references))) ≡ first_fault (offers_in l.entries l.references))
