use Rattle.std.specs.Prelude.{codes}
use Rattle.std.proofs.lemmas.Str.Pattern.{starts_text}
use Rattle.rendering_entries.proofs.library.is_english.Goals as goal

pub returns : goal.returns
returns c = starts_text c.starts_with.result (codes "en") c.args.code.now c.starts_with.ensures.cases
