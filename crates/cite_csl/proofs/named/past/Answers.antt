use Rattle.cite_csl.proofs.Past.{stripped}
use Rattle.cite_csl.proofs.named.past.Goals as goal

pub returns : goal.returns
returns c = stripped c.args.part.now c.args.text.now c.strip_prefix.result c.utf8.part c.utf8.text c.strip_prefix.ensures.cases
