use Rattle.std.proofs.Common.{sym}
use Rattle.biblatex.specs.Indices.{meaning_in, names_in}
use Rattle.biblatex.proofs.IndicesBinding.{meant_more}
use Rattle.biblatex.proofs.indices.indices_meant.Goals as goal

pub loop-name-preserved : goal.loop-name-preserved
loop-name-preserved c = rw (c.in_ok-push_known.ensures, c.index_in.ensures, c.as_str.ensures.value, c.loop-name.invariant) (sym (meant_more (meaning_in (names_in c.args.indices.now)) c.loop-name.yielded c.in-Some.name))
