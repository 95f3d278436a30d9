use Rattle.std.proofs.Common.{Some, rules, of_calls}
use Rattle.literature_entries.proofs.AncestorsWalks.{asks_answered, asks_on, asks_next}
use Rattle.literature_entries.proofs.ancestors.first_answer.Goals as goal

pub returns-in-Some-clause-asked : goal.returns-in-Some-clause-asked
returns-in-Some-clause-asked g c =
    c.loop-entry.invariant.1 (Some c.in-Some.answer) c.f.new.self
    (asks_next _ c.loop-entry.f c.f.new.self c.args.entries.now c.loop-entry.entry-index c.entry-item.result (Some c.in-Some.answer) c.loop-entry-test.true c.entry-item.is
    (asks_answered _ c.loop-entry.f c.f.new.self c.entry-item.result c.f.result _ c.in-Some.answer c.f.ensures c.in-Some.is))

pub loop-entry-preserved : goal.loop-entry-preserved
loop-entry-preserved g c = (
  search (rules, of_calls),
  λ answer last asks.
      c.loop-entry.invariant.1 answer last
      (asks_next _ c.loop-entry.f last c.args.entries.now c.loop-entry.entry-index c.entry-item.result answer c.loop-entry-test.true c.entry-item.is
      (asks_on _ c.loop-entry.f c.f.new.self last c.entry-item.result c.f.result _ answer c.f.ensures c.in_default.is asks)),
)
