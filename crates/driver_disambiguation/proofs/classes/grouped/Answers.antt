use Rattle.std.proofs.Common.{◌≡◌, ℕ, ◌<◌, length, get_or, refl, ◌∙◌, arith}
use Rattle.std.specs.List.{zip}
use Rattle.driver_disambiguation.specs.Grouping.{under}
use Rattle.driver_names.specs.declared.printed.Printed.{Printed}
use Rattle.driver_disambiguation.proofs.Groups.{beside_at, beside_length, members_all, members_step, seconds_all, seconds_step}
use Rattle.driver_disambiguation.proofs.classes.grouped.Goals as goal

pub loop-index-preserved : goal.loop-index-preserved
loop-index-preserved c =
    let ns = c.args.numbers.now in
    let ss = c.args.cites.now in
    let i = c.loop-index.index in
    let s = c.index-cites-index.result in
    let p : ℕ × Printed = (get_or ns i 0, s) in
    let low : i < length (zip ns ss) = omega (arith, c.loop-index-test.true, beside_length ns ss c.requires.len) in
    let is : p ≡ get_or (zip ns ss) i p = beside_at ns ss i s c.loop-index-test.true c.requires.len c.index-cites-index.is in
    let old = c.loop-index.members.items in
    record {
      members = λ n. members_step (zip ns ss) i p c.may_be_alike-is_wanted.result _ n (under old n) (under c.add_where.new.members.items n) low is c.may_be_alike-is_wanted.ensures refl (c.loop-index.invariant.members n)
          (c.in_ok-add_where.ensures.members n);
      shared = seconds_step (zip ns ss) i p c.may_be_alike-is_wanted.result (under old p.0) _ _ low is c.may_be_alike-is_wanted.ensures (c.loop-index.invariant.members p.0) c.loop-index.invariant.shared
          c.in_ok-add_where.ensures.shared;
      many = c.add_where.ensures.len ∙ c.loop-index.invariant.many;
    }

pub returns-clause-members : goal.returns-clause-members
returns-clause-members c = λ n. members_all c.args.numbers.now c.args.cites.now c.loop-index.index n _ (omega (arith, c.loop-index-test.false)) c.requires.len (c.loop-index.invariant.members n)

pub returns-clause-shared : goal.returns-clause-shared
returns-clause-shared c = seconds_all c.args.numbers.now c.args.cites.now c.loop-index.index _ (omega (arith, c.loop-index-test.false)) c.requires.len c.loop-index.invariant.shared
