use Rattle.std.proofs.lemmas.Str.{chars-nil}
use Rattle.rendering_page.proofs.piece.no_words.Goals as goal

pub returns : goal.returns
returns c = chars-nil
