use Rattle.std.proofs.Common.{◌∙◌}
use Rattle.driver_citations.proofs.EndingTexts.{same_characters}
use Rattle.driver_citations.proofs.ending_text.is_text.Goals as goal

pub returns : goal.returns
returns c = c.eq.ensures ∙ same_characters c.args.text.now c.args.other.now c.utf8.text c.utf8.other
