use Rattle.std.proofs.Common.{Bool, ℕ, false, cond, get_or, arith, ◌∙◌}
use Rattle.std.proofs.lemmas.List.{get_or_default, length-set}
use Rattle.driver_names.proofs.NamesDistinguished.{changed_all, changed_beside}
use Rattle.driver_names.proofs.names_shared.set_where.Goals as goal

pub loop-at-preserved : goal.loop-at-preserved
loop-at-preserved c =
    let wanted = c.args.wanted.now in
    let start = c.args.numbers.now.items in
    let numbers = c.loop-at.numbers.items in
    let i = c.loop-at.at in
    let w = get_or wanted i false in
    let n = c.index.result.now in (
      changed_beside (λ (b : Bool) (m : ℕ). cond b c.args.number m) wanted start numbers i w n c.chosen.result c.requires (omega (arith, c.requires, c.loop-at-test.true))
          (get_or_default wanted i false w (omega (arith, c.loop-at-test.true))) c.index.ensures c.loop-at.invariant.0 c.chosen.ensures,
      length-set numbers i c.chosen.result ∙ c.loop-at.invariant.1,
    )

pub returns-clause-set : goal.returns-clause-set
returns-clause-set c =
    changed_all (λ (b : Bool) (n : ℕ). cond b c.args.number n) c.args.wanted.now c.args.numbers.now.items c.loop-at.numbers.items c.loop-at.at c.requires (omega (arith, c.requires, c.loop-at-test.false)) c.loop-at.invariant.0
