use Rattle.std.proofs.Common.{sym, ap, ◌∙◌}
use Rattle.std.specs.Option.{unwrap_or}
use Rattle.driver_names.specs.Keys.{tallied}
use Rattle.driver_names.proofs.KeysOrdered.{looked_up}
use Rattle.driver_names.proofs.same_keys.Tally.count.Goals as goal

pub returns-in-Many : goal.returns-in-Many
returns-in-Many g c =
    let at = looked_up g.met.K.Eq.laws g.K.Ord.cmp g.met.K.Ord.matches_eq c.in-Many.counts c.args.key.now in
    c.unwrap_or.ensures
    ∙ ap (λ o. unwrap_or o 0) (c.copied.ensures ∙ c.get.ensures.value ∙ sym at)
    ∙ ap (λ t. tallied g.K.PartialEq.eq t c.args.key.now) (sym c.in-Many.is)
