use Rattle.std.proofs.Common.{length}
use Rattle.sinks.proofs.SinksWriting.{Writing}
use Rattle.sinks.proofs.sink.write_all.Given as goal

abbrev pub invariant-loop-rest : goal.invariant-loop-rest
invariant-loop-rest g l = Writing (g.W.Sink.contents l.fn.sink) (g.W.Sink.contents l.sink) (g.W.Sink.failures l.fn.sink) (g.W.Sink.failures l.sink) l.bytes l.rest

abbrev pub decreases-loop-rest : goal.decreases-loop-rest
decreases-loop-rest g l = length l.rest
