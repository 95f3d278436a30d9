use Rattle.csl_locales.proofs.Texts.{text_added}
use Rattle.csl_locales.proofs.sets.add_text.Goals as goal

pub returns : goal.returns
returns c = (c.in_ok-added.ensures.added, text_added c.args.text c.args.texts.now c.insert.new.self c.in_ok-added.ensures.updates)
