use Rattle.std.proofs.Common.{◌∙◌}
use Rattle.csl_nodes.proofs.Places.{place_missing}
use Rattle.csl_nodes.proofs.words.Words.place.Goals as goal

pub returns-in-None : goal.returns-in-None
returns-in-None c =
    place_missing c.args.self.now.words.items c.args.word.now c.len.result c.number-in-None.result (c.in-None.ensures.value ∙ c.args.self.now.placed c.args.word.now) (c.len.ensures ∙ c.args.self.now.words.ok.0) c.number-in-None.ensures
