use Rattle.std.proofs.Common.{◌≡◌, false, ◌∷◌, [], sym, ap, ◌∙◌}
use Rattle.std.specs.List.{list_any, position_or_len}
use Rattle.std.specs.Option.{option_copied}
use Rattle.driver_requests.proofs.IndicesFound.{found, missed, index_new, index_stays}
use Rattle.driver_names.proofs.KeysAlike.{index_again}
use Rattle.driver_names.proofs.KeysOrdered.{index_more, looked_up_lent}
use Rattle.driver_names.proofs.same_keys.first_of.Goals as goal

pub returns-in-Some-clause-table : goal.returns-in-Some-clause-table
returns-in-Some-clause-table g c = λ earlier many before.
    let eq = g.K.PartialEq.eq in
    let e = c.args.key.now in
    let at = looked_up_lent g.met.K.Eq.laws g.K.Ord.cmp g.met.K.Ord.matches_eq c.args.table.now c.args.key in
    let is = found (list_any (eq e) earlier) (position_or_len (eq e) earlier) c.in-Some.first.now (sym (before c.args.key) ∙ at ∙ (sym c.get.ensures.value ∙ ap option_copied c.in-Some.is)) in
    index_again g.met.K.Eq.laws c.args.table.now earlier e is.0 before

pub returns-in-Some-clause-first : goal.returns-in-Some-clause-first
returns-in-Some-clause-first g c = λ earlier many before.
    let eq = g.K.PartialEq.eq in
    let e = c.args.key.now in
    let at = looked_up_lent g.met.K.Eq.laws g.K.Ord.cmp g.met.K.Ord.matches_eq c.args.table.now c.args.key in
    let is = found (list_any (eq e) earlier) (position_or_len (eq e) earlier) c.in-Some.first.now (sym (before c.args.key) ∙ at ∙ (sym c.get.ensures.value ∙ ap option_copied c.in-Some.is)) in
    sym is.1 ∙ sym (index_stays (eq e) earlier (e ∷ []) is.0)

pub returns-clause-table : goal.returns-clause-table
returns-clause-table g c = λ earlier many before.
    let eq = g.K.PartialEq.eq in
    let e = c.args.key.now in
    let at = looked_up_lent g.met.K.Eq.laws g.K.Ord.cmp g.met.K.Ord.matches_eq c.args.table.now c.args.key in
    let apart : list_any (eq e) earlier ≡ false = missed _ (position_or_len (eq e) earlier) (sym (before c.args.key) ∙ at ∙ (sym c.get.ensures.value ∙ ap option_copied c.in_default.is)) in
    index_more g.met.K.Eq.laws g.K.Ord.cmp g.met.K.Ord.matches_eq c.args.table.now c.insert.new.self earlier c.args.key c.args.index apart many c.in_ok-insert.ensures.updates before

pub returns-clause-first : goal.returns-clause-first
returns-clause-first g c = λ earlier many before.
    let eq = g.K.PartialEq.eq in
    let e = c.args.key.now in
    let at = looked_up_lent g.met.K.Eq.laws g.K.Ord.cmp g.met.K.Ord.matches_eq c.args.table.now c.args.key in
    let apart : list_any (eq e) earlier ≡ false = missed _ (position_or_len (eq e) earlier) (sym (before c.args.key) ∙ at ∙ (sym c.get.ensures.value ∙ ap option_copied c.in_default.is)) in
    sym many ∙ index_new g.met.K.Eq.laws earlier e apart
