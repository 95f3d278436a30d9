use Rattle.rendering_page.proofs.CursorsBackwards.{at_mark, mark_of_nothing}
use Rattle.rendering_page.proofs.page_end.text_in.Goals as goal

pub returns-in-Mark-clause-backwards : goal.returns-in-Mark-clause-backwards
returns-in-Mark-clause-backwards c ts = at_mark c.args.met.now c.args.piece.now ts c.in-Mark.is

pub returns-in-Mark-clause-whole : goal.returns-in-Mark-clause-whole
returns-in-Mark-clause-whole c = mark_of_nothing c.args.piece.now c.in-Mark.is
