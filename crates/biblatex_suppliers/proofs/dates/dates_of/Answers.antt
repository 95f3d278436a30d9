use Rattle.biblatex_suppliers.specs.Suppliers.{seen}
use Rattle.biblatex_suppliers.specs.Written.{written_view}
use Rattle.biblatex_suppliers.proofs.PassingAsked.{dates_more, faults_more}
use Rattle.biblatex_suppliers.proofs.dates.dates_of.Goals as goal

pub loop-reference-preserved : goal.loop-reference-preserved
loop-reference-preserved c =
    let es = written_view c.args.entries.now in
    let see = seen es c.args.supplies.now in (
      dates_more es see c.args.references.now c.loop-reference.reference-index _ c.loop-reference.read.date _ _ c.loop-reference-test.true c.in_ok-read.ensures.date c.loop-reference.invariant.0,
      faults_more es see c.args.references.now c.loop-reference.reference-index _ c.loop-reference.read.fault _ _ c.loop-reference-test.true c.in_ok-read.ensures.fault c.loop-reference.invariant.1,
    )
