use Rattle.std.proofs.Common.{◌≡◌, ℕ, Bool, false, eqb, length}
use Rattle.std.specs.Prelude.{◌&&◌, MatchBool, nat_lt}
use Rattle.std.proofs.Math.Nat.{le_refl}
use Rattle.std.proofs.lemmas.Bool.{ne_eqb}
use Rattle.std.proofs.lemmas.Slice.{between_to_end}
use Rattle.sinks.proofs.SinksWriting.{starts, goes_on}
use Rattle.sinks.proofs.sink.write_all.Goals as goal

pub loop-rest-init : goal.loop-rest-init
loop-rest-init g c = starts (g.W.Sink.contents c.args.sink.now) (g.W.Sink.failures c.args.sink.now) c.args.bytes.now

-- a call that took something does not count
not_counted : (n : ℕ) (b : Bool) (P Q : Type 0) → (n ≡ 0 → ⊥) → MatchBool (eqb n 0 && b) P Q → Q
not_counted n b P Q some h = let same : eqb n 0 ≡ false = ne_eqb n 0 some in rw same at h

pub loop-rest-preserved : goal.loop-rest-preserved
loop-rest-preserved g c =
    let quiet = not_counted c.in-Ok.taken (nat_lt 0 (length c.loop-rest.rest.now)) _ _ c.in-Ok.taken-test.1 c.in-Ok.ensures.count in
    rw (between_to_end c.loop-rest.rest.now c.in-Ok.taken (length c.loop-rest.rest.now) (le_refl _)) (goes_on (g.W.Sink.contents c.args.sink.now) (g.W.Sink.contents c.loop-rest.sink) (g.W.Sink.contents c.write.new.self) (g.W.Sink.failures c.args.sink.now) (g.W.Sink.failures c.loop-rest.sink) (g.W.Sink.failures c.write.new.self)
    c.in-Ok.taken c.args.bytes.now c.loop-rest.rest.now c.loop-rest.invariant c.in-Ok.ensures.bytes quiet)
