use Rattle.cite_laws.proofs.EachPrinted.{each_printed}
use Rattle.cite_laws.proofs.names.each_cite_is_printed.Goals as goal

pub returns : goal.returns
returns c = each_printed
