use Rattle.csl_words.proofs.Opened.{content_opened}
use Rattle.csl_words.proofs.elements.children_of.Goals as goal

pub returns : goal.returns
returns c = content_opened c.args.element.now c.as_slice.result.now c.as_slice.ensures.value
