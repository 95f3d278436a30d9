use Rattle.std.proofs.Common.{refl, ◌∙◌}
use Rattle.biblatex_content.proofs.tidy.Tidying.push_str.Goals as goal

pub loop-rest-init : goal.loop-rest-init
loop-rest-init c = record { same = λ ms. refl; spans = λ ms. refl; ready = λ r. r; utf8 = c.utf8.text }

pub loop-rest-preserved : goal.loop-rest-preserved
loop-rest-preserved c = record {
  same = λ ms. c.in_ok-rest.ensures.to_come ms ∙ c.loop-rest.invariant.same ms;
  spans = λ ms. c.in_ok-rest.ensures.spans ms ∙ c.loop-rest.invariant.spans ms;
  ready = λ r. c.in_ok-rest.ensures.ready (c.loop-rest.invariant.ready r);
  utf8 = c.in_ok-rest.ensures.utf8;
}

pub has_text-requires-text-text : goal.has_text-requires-text-text
has_text-requires-text-text c κs = c.loop-rest.invariant.utf8
