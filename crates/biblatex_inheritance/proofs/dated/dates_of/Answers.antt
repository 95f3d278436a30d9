use Rattle.biblatex_inheritance.proofs.ResolvedDates.{dates_more, faults_more}
use Rattle.biblatex_inheritance.proofs.dated.dates_of.Goals as goal

pub loop-reference-preserved : goal.loop-reference-preserved
loop-reference-preserved c =
    let borrowed = c.entry_at.ensures in (
      dates_more c.args.entries.now c.args.references.now c.loop-reference.reference-index _ c.loop-reference.read.date _ _ c.entry_at.result c.loop-reference-test.true borrowed c.in_ok-read.ensures.0 c.loop-reference.invariant.0,
      faults_more c.args.entries.now c.args.references.now c.loop-reference.reference-index _ c.loop-reference.read.fault _ _ c.entry_at.result c.loop-reference-test.true borrowed c.in_ok-read.ensures.1 c.loop-reference.invariant.1,
    )
