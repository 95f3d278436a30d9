use Rattle.std.proofs.Common.{◌≡◌, ◌≤◌, ◌+◌, ◌∷◌, ◌++◌, [], length, take, sym, ap, ◌∙◌, subst, arith}
use Rattle.std.proofs.lemmas.List.{length-take-le, take_more}
use Rattle.driver_names.specs.Keys.{IsIndex}
use Rattle.driver_names.proofs.KeysAlike.{firsts_step}
use Rattle.driver_names.proofs.same_keys.firsts_of_many.Goals as goal

pub loop-index-preserved : goal.loop-index-preserved
loop-index-preserved g c =
    let keys = c.args.keys.now in
    let i = c.loop-index.index in
    let key = c.index-keys-index.result in
    let earlier = take i keys in
    let low = c.loop-index-test.true in
    let le : i ≤ length keys = omega (arith, low) in
    let many : length earlier ≡ i = length-take-le i keys le in
    let more : earlier ++ key ∷ [] ≡ take (i + 1) keys = sym (take_more keys i key low ∙ ap (λ k. earlier ++ k ∷ []) (sym c.index-keys-index.is)) in (
      subst (λ ks. IsIndex g.K.PartialEq.eq c.first_of.new.table ks) more (c.in_ok-first_of.ensures.table earlier many c.loop-index.invariant.0),
      firsts_step g.met.K.Eq.laws keys i key c.in_ok-first_of.field-0 c.loop-index.firsts.items c.push.new.self.items low c.index-keys-index.is (c.in_ok-first_of.ensures.first earlier many c.loop-index.invariant.0) c.loop-index.invariant.1
          c.in_ok-push.ensures.items,
    )
