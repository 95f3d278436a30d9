use Rattle.std.proofs.lemmas.Str.{chars-nil}
use Rattle.rendering_page.proofs.page_end.text_before_all.Goals as goal

pub returns-in-None : goal.returns-in-None
returns-in-None c = (chars-nil, c.in-None.is)
