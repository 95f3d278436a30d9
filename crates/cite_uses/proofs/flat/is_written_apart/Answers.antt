use Rattle.std.proofs.Common.{◌∙◌}
use Rattle.cite_uses.proofs.WrittenApart.{alone_apart}
use Rattle.cite_uses.proofs.flat.is_written_apart.Goals as goal

pub returns : goal.returns
returns c = c.are_alone.ensures.value ∙ alone_apart c.args.entry.now.fields c.are_alone.ensures.order
