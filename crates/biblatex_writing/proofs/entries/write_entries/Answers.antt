use Rattle.std.proofs.Common.{rules}
use Rattle.sinks.specs.declared.target.SinkTarget.{SinkTarget}
use Rattle.sinks.proofs.TargetsTaken.{all_taken, answered}
use Rattle.biblatex_writing.proofs.entries.write_entries.Goals as goal

-- the sink that is written to
abbrev itself : {W : Type 0} → SinkTarget W → SinkTarget W
itself target = target

pub returns : goal.returns
returns g c =
    let contents = g.W.Sink.contents in
    let failures = g.W.Sink.failures in
    let last = g.W.Sink.last_fault in
    let written = all_taken contents failures last itself c.new-target.result c.push_entries.new.target c.args.sink.now _ c.result.result _ c.new-target.ensures.result c.new-target.ensures.sink c.result.ensures (λ same. search rules) c.push_entries.ensures.written in
    let all = answered contents failures last c.args.sink.now _ _ c.result.result written in
    record { ok = all.ok; err = all.err; cause = all.cause; quiet = all.quiet; once = all.once; fault = all.fault; text = c.push_entries.ensures.text }
