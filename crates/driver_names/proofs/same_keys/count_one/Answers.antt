use Rattle.std.proofs.Common.{◌≡◌, sym, ap, ◌∙◌, arith}
use Rattle.std.specs.Option.{unwrap_or}
use Rattle.driver_names.specs.Keys.{counted}
use Rattle.driver_names.proofs.KeysOrdered.{count_put, looked_up}
use Rattle.driver_names.proofs.same_keys.count_one.Goals as goal

pub overflow_add-count : goal.overflow_add-count
overflow_add-count g c =
    let at = looked_up g.met.K.Eq.laws g.K.Ord.cmp g.met.K.Ord.matches_eq c.args.counts.now c.args.key in
    let is : c.unwrap_or-count.result ≡ counted g.K.PartialEq.eq c.args.counts.now c.args.key = c.unwrap_or-count.ensures ∙ ap (λ o. unwrap_or o 0) (c.copied.ensures ∙ c.get.ensures.value ∙ sym at) in
    omega (arith, is, c.requires)

pub returns : goal.returns
returns g c = λ q.
    let at = looked_up g.met.K.Eq.laws g.K.Ord.cmp g.met.K.Ord.matches_eq c.args.counts.now c.args.key in
    let is : c.unwrap_or-count.result ≡ counted g.K.PartialEq.eq c.args.counts.now c.args.key = c.unwrap_or-count.ensures ∙ ap (λ o. unwrap_or o 0) (c.copied.ensures ∙ c.get.ensures.value ∙ sym at) in
    count_put g.met.K.Eq.laws g.K.Ord.cmp g.met.K.Ord.matches_eq c.args.counts.now c.insert.new.self c.args.key c.unwrap_or-count.result is c.in_ok-insert.ensures.updates q
