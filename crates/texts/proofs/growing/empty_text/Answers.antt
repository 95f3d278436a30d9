use Rattle.std.proofs.lemmas.Str.{chars-nil}
use Rattle.texts.proofs.growing.empty_text.Goals as goal

pub returns-clause-characters : goal.returns-clause-characters
returns-clause-characters c = rw c.new.ensures.bytes chars-nil
