use Rattle.std.proofs.Common.{rules}
use Rattle.sinks.specs.declared.target.SinkTarget.{SinkTarget}
use Rattle.sinks.proofs.TargetsTaken.{all_taken, answered}
use Rattle.cite_output.specs.declared.printed.Printed.{Printed}
use Rattle.cite_output.proofs.output.Output.write_to.Goals as goal

-- the sink of printed texts
abbrev held : {W : Type 0} → Printed (SinkTarget W) → SinkTarget W
held printed = printed.target

pub returns : goal.returns
returns g c =
    let contents = g.W.Sink.contents in
    let failures = g.W.Sink.failures in
    let last = g.W.Sink.last_fault in
    let written = all_taken contents failures last held (record { target = c.new.result }) c.push_to.new.target c.args.sink.now _ c.result.result _ c.new.ensures.result c.new.ensures.sink c.result.ensures (λ same. search rules) c.push_to.ensures in
    let all = answered contents failures last c.args.sink.now _ _ c.result.result written in
    record { ok = all.ok; err = all.err; cause = all.cause; quiet = all.quiet; once = all.once; fault = all.fault }
