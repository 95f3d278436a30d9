use Rattle.std.proofs.Common.{sym, ap, ◌∙◌}
use Rattle.driver_disambiguation.specs.Numbered.{number_of, number_under}
use Rattle.driver_disambiguation.proofs.Numbering.{numbers_step}
use Rattle.driver_disambiguation.proofs.numbers.numbers_of.Goals as goal

pub loop-cite-preserved : goal.loop-cite-preserved
loop-cite-preserved c = (
  c.number_of.ensures.texts,
  numbers_step (number_of c.loop-cite.texts) (number_of c.number_of.new.texts) (λ s n e. c.number_of.ensures.still _ n e) c.args.cites.now c.loop-cite.cite-index c.cite-item.result c.loop-cite.numbers.items c.push.new.self.items
      c.in_ok-number.number c.loop-cite-test.true c.cite-item.is c.loop-cite.invariant.1 (ap (number_under c.number_of.new.texts) (sym c.as_str.ensures.value) ∙ c.in_ok-number.ensures.number) c.in_ok-push.ensures.items,
)
